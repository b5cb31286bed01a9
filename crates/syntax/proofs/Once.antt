-- A text follows a format in one way, or leaves it in one way.
use Rattle.std.proofs.Common.{◌≡◌, ℕ, ◌+◌, Bool, true, ◌&&◌, List, [], ◌∷◌, ◌++◌, length, sym, refl, ap, ◌∙◌, subst, inl, inr, arith}
use Rattle.std.proofs.lemmas.Bool.{and_parts, both_ways}
use Rattle.syntax.specs.declared.fault.TextRule.{TextRule}
use Rattle.syntax.specs.declared.fault.TextRule.TheVariants.{TooLong, Line, Number, Range}
use Rattle.syntax.specs.Line.{Form, Takes, BadLine, OutOfRange, NoNumbers, Without, fields_text, line_text, in_ranges, short}
use Rattle.syntax.specs.Format.{Format, follows, text_of, Faulty}
use Rattle.syntax.specs.Format.Format.{end, line}
use Rattle.syntax.proofs.Cuts.{one_cut, same_rest}
use Rattle.syntax.proofs.Listed.{flat, same_fields}

-- a line is cut after its key in one way
pub same_body : (key xs ys us vs : List ℕ) → Without 10 xs → Without 10 us → key ++ (xs ++ (10 ∷ ys)) ≡ key ++ (us ++ (10 ∷ vs)) → (xs ≡ us) × (ys ≡ vs)
same_body key xs ys us vs w z e = one_cut 10 xs ys us vs w z (same_rest key (xs ++ (10 ∷ ys)) (us ++ (10 ∷ vs)) e)

-- a line says which numbers it has, and what follows it
pub same_line : (key fs gs r s : List ℕ) → short fs ≡ true → short gs ≡ true → line_text key fs r ≡ line_text key gs s → (fs ≡ gs) × (r ≡ s)
same_line key fs gs r s h k e =
    let p = same_body key (fields_text fs) r (fields_text gs) s (flat fs h) (flat gs k) e in
    (same_fields fs gs h k p.0, p.1)

-- there are as many numbers as ranges
pub in_count : (ps : List (ℕ → Bool)) (fs : List ℕ) → in_ranges ps fs ≡ true → length fs ≡ length ps
in_count [] [] e = refl
in_count [] (x ∷ xs) e = absurd (both_ways true (sym e) refl)
in_count (p ∷ ps) [] e = absurd (both_ways true (sym e) refl)
in_count (p ∷ ps) (x ∷ xs) e = omega (arith, in_count ps xs (and_parts (p x) (in_ranges ps xs) e).1)

-- the two tests of a line's numbers
pub takes : (f : Form) (fs : List ℕ) → short fs ≡ true → in_ranges f.ranges fs ≡ true → Takes f fs
takes f fs h k = record { numbers = record { count = in_count f.ranges fs k; digits = h }; ranges = k }

-- a good line breaks no rule
pub not_bad : (f : Form) (fs t rest : List ℕ) (rule : TextRule) → Takes f fs → t ≡ line_text f.key fs rest → BadLine f t rule → ⊥
not_bad f fs t rest TooLong g e b = b
not_bad f fs t rest Line g e b = b (fields_text fs) rest e
not_bad f fs t rest Number g e b =
    let p = same_body f.key b.body b.rest (fields_text fs) rest b.within (flat fs g.numbers.digits) (sym b.line ∙ e) in
    b.none fs g.numbers p.0
not_bad f fs t rest Range g e b =
    let p = same_line f.key fs b.fields rest b.rest g.numbers.digits b.numbers.digits (sym e ∙ b.line) in
    both_ways (in_ranges f.ranges fs) (ap (in_ranges f.ranges) p.0 ∙ b.out) g.ranges

-- malformed numbers are not numbers out of range
apart : (f : Form) (t : List ℕ) → NoNumbers f t → OutOfRange f t → ⊥
apart f t a b =
    let p = same_body f.key a.body a.rest (fields_text b.fields) b.rest a.within (flat b.fields b.numbers.digits) (sym a.line ∙ b.line) in
    a.none b.fields b.numbers p.0

-- a line breaks one rule
pub one_rule : (f : Form) (t : List ℕ) (r q : TextRule) → BadLine f t r → BadLine f t q → r ≡ q
one_rule f t TooLong q a b = absurd a
one_rule f t Line TooLong a b = absurd b
one_rule f t Line Line a b = refl
one_rule f t Line Number a b = absurd (a b.body b.rest b.line)
one_rule f t Line Range a b = absurd (a (fields_text b.fields) b.rest b.line)
one_rule f t Number TooLong a b = absurd b
one_rule f t Number Line a b = absurd (b a.body a.rest a.line)
one_rule f t Number Number a b = refl
one_rule f t Number Range a b = absurd (apart f t a b)
one_rule f t Range TooLong a b = absurd b
one_rule f t Range Line a b = absurd (b (fields_text a.fields) a.rest a.line)
one_rule f t Range Number a b = absurd (apart f t b a)
one_rule f t Range Range a b = refl

-- the tests of the first line, and those of the others
pub follows_parts : (f : Form) (next : List ℕ → Format) (fs : List ℕ) (ls : List (List ℕ)) → follows (line f next) (fs ∷ ls) ≡ true → Takes f fs × (follows (next fs) ls ≡ true)
follows_parts f next fs ls e =
    let p = and_parts (short fs && in_ranges f.ranges fs) (follows (next fs) ls) e in
    let q = and_parts (short fs) (in_ranges f.ranges fs) p.0 in
    (takes f fs q.0 q.1, p.1)

-- the numbers of a text are those of one list of lines
pub same_rows : (F : Format) (ls ms : List (List ℕ)) → follows F ls ≡ true → follows F ms ≡ true → text_of F ls ≡ text_of F ms → ls ≡ ms
same_rows end [] [] h k e = refl
same_rows end [] (m ∷ ms) h k e = absurd (both_ways true (sym k) refl)
same_rows end (l ∷ ls) ms h k e = absurd (both_ways true (sym h) refl)
same_rows (line f next) [] ms h k e = absurd (both_ways true (sym h) refl)
same_rows (line f next) (l ∷ ls) [] h k e = absurd (both_ways true (sym k) refl)
same_rows (line f next) (l ∷ ls) (m ∷ ms) h k e =
    let a = follows_parts f next l ls h in
    let b = follows_parts f next m ms k in
    let p = same_line f.key l m (text_of (next l) ls) (text_of (next m) ms) a.0.numbers.digits b.0.numbers.digits e in
    let k' : follows (next l) ms ≡ true = subst (λ (x : List ℕ). follows (next x) ms ≡ true) (sym p.0) b.1 in
    let e' : text_of (next l) ls ≡ text_of (next l) ms = subst (λ (x : List ℕ). text_of (next l) ls ≡ text_of (next x) ms) (sym p.0) p.1 in
    let r : ls ≡ ms = same_rows (next l) ls ms a.1 k' e' in
    cc (p.0, r)

-- a text of the format has no fault
pub no_fault : (F : Format) (ls : List (List ℕ)) (at : ℕ) (t : List ℕ) (rule : TextRule) (n : ℕ) → follows F ls ≡ true → t ≡ text_of F ls → Faulty F at t rule n → ⊥
no_fault end ls at t rule n h e b = omega (arith, ap length e, b.2)
no_fault (line f next) [] at t rule n h e b = both_ways true (sym h) refl
no_fault (line f next) (l ∷ ls) at t rule n h e (inl b) = not_bad f l t (text_of (next l) ls) rule (follows_parts f next l ls h).0 e b.1
no_fault (line f next) (l ∷ ls) at t rule n h e (inr b) =
    let a = follows_parts f next l ls h in
    let p = same_line f.key l b.0 (text_of (next l) ls) b.1 a.0.numbers.digits b.2.numbers.digits (sym e ∙ b.3) in
    no_fault (next l) ls (at + 1) b.1 rule n a.1 (sym p.1) (subst (λ (x : List ℕ). Faulty (next x) (at + 1) b.1 rule n) (sym p.0) b.4)

-- a text has one fault
pub one_fault : (F : Format) (at : ℕ) (t : List ℕ) (r : TextRule) (n : ℕ) (q : TextRule) (m : ℕ) → Faulty F at t r n → Faulty F at t q m → (r ≡ q) × (n ≡ m)
one_fault end at t r n q m a b = (a.0 ∙ sym b.0, a.1 ∙ sym b.1)
one_fault (line f next) at t r n q m (inl a) (inl b) = (one_rule f t r q a.1 b.1, a.0 ∙ sym b.0)
one_fault (line f next) at t r n q m (inl a) (inr b) = absurd (not_bad f b.0 t b.1 r b.2 b.3 a.1)
one_fault (line f next) at t r n q m (inr a) (inl b) = absurd (not_bad f a.0 t a.1 q a.2 a.3 b.1)
one_fault (line f next) at t r n q m (inr a) (inr b) =
    let p = same_line f.key a.0 b.0 a.1 b.1 a.2.numbers.digits b.2.numbers.digits (sym a.3 ∙ b.3) in
    let b' : Faulty (next a.0) (at + 1) b.1 q m = subst (λ (x : List ℕ). Faulty (next x) (at + 1) b.1 q m) (sym p.0) b.4 in
    one_fault (next a.0) (at + 1) a.1 r n q m a.4 (subst (λ (x : List ℕ). Faulty (next a.0) (at + 1) x q m) (sym p.1) b')
