-- The text of numbers parted by commas.
use Rattle.std.proofs.Common.{◌≡◌, ℕ, suc, ◌^◌, ◌<◌, true, ltb, List, [], ◌∷◌, ◌++◌, length, decimal, sym, refl, ap, ◌∙◌, arith}
use Rattle.std.proofs.lemmas.Fmt.{decimal_injective, decimal_nonempty}
use Rattle.std.proofs.lemmas.List.{append-nil}
use Rattle.std.proofs.lemmas.Bool.{and_parts, and_from, ltb-true, lt-ltb}
use Rattle.syntax.specs.Line.{Without, Numbers, fields_text, more_fields, short}
use Rattle.syntax.proofs.Cuts.{uncut, one_cut, without_cons, without_append}
use Rattle.syntax.proofs.Digits.{no_comma, no_end}

-- the first number is short, and so are the others
pub short_parts : (x : ℕ) (xs : List ℕ) → short (x ∷ xs) ≡ true → (x < 10 ^ 8) × (short xs ≡ true)
short_parts x xs e =
    let p = and_parts (ltb x (10 ^ 8)) (short xs) e in
    (ltb-true x (10 ^ 8) p.0, p.1)

pub short_cons : (x : ℕ) (xs : List ℕ) → x < 10 ^ 8 → short xs ≡ true → short (x ∷ xs) ≡ true
short_cons x xs h e = and_from (ltb x (10 ^ 8)) (short xs) (lt-ltb x (10 ^ 8) h) e

-- one number is its decimal
pub one_decimal : (s : List ℕ) (v : ℕ) → v < 10 ^ 8 → s ≡ decimal v → Numbers 1 (v ∷ []) × (s ≡ fields_text (v ∷ []))
one_decimal s v h e = (record { count = refl; digits = short_cons v [] h refl }, e ∙ sym (append-nil (decimal v)))

pub decimal_one : (s fs : List ℕ) → Numbers 1 fs → s ≡ fields_text fs → (v : ℕ) × (v < 10 ^ 8) × (s ≡ decimal v)
decimal_one s [] n e = absurd (omega (arith, n.count))
decimal_one s (x ∷ []) n e = (x, (short_parts x [] n.digits).0, e ∙ append-nil (decimal x))
decimal_one s (x ∷ y ∷ ys) n e = absurd (omega (arith, n.count))

-- without a comma there are not several numbers
pub no_others : (k : ℕ) (s fs : List ℕ) → Without 44 s → Numbers (suc (suc k)) fs → s ≡ fields_text fs → ⊥
no_others k s [] w n e = omega (arith, n.count)
no_others k s (x ∷ []) w n e = omega (arith, n.count)
no_others k s (x ∷ y ∷ ys) w n e = uncut 44 s (decimal x) (fields_text (y ∷ ys)) w e

-- the numbers of a text with a comma: the one before the first comma, and those after it
pub record Halves (k : ℕ) (a m : List ℕ) : Type 0 where
  pub first : List ℕ
  pub others : List ℕ
  pub one : Numbers 1 first
  pub more : Numbers (suc k) others
  pub before : a ≡ fields_text first
  pub after : m ≡ fields_text others

pub halves : (k : ℕ) (s a m fs : List ℕ) → Without 44 a × (s ≡ a ++ (44 ∷ m)) → Numbers (suc (suc k)) fs → s ≡ fields_text fs → Halves k a m
halves k s a m [] h n e = absurd (omega (arith, n.count))
halves k s a m (x ∷ []) h n e = absurd (omega (arith, n.count))
halves k s a m (x ∷ y ∷ ys) h n e =
    let d = short_parts x (y ∷ ys) n.digits in
    let p = one_cut 44 a m (decimal x) (fields_text (y ∷ ys)) h.0 (no_comma x d.0) (sym h.1 ∙ e) in
    let o = one_decimal a x d.0 p.0 in
    record {
      first = x ∷ [];
      others = y ∷ ys;
      one = o.0;
      more = record { count = omega (arith, n.count); digits = d.1 };
      before = o.1;
      after = p.1;
    }

-- numbers after a comma stand on one line
pub flat_more : (xs : List ℕ) → short xs ≡ true → Without 10 (more_fields xs)
flat_more [] e = λ k h g. omega arith
flat_more (x ∷ xs) e =
    let p = short_parts x xs e in
    without_cons 10 44 (decimal x ++ more_fields xs) (λ z. omega arith)
    (without_append 10 (decimal x) (more_fields xs) (no_end x p.0) (flat_more xs p.1))

pub flat : (fs : List ℕ) → short fs ≡ true → Without 10 (fields_text fs)
flat [] e = λ k h g. omega arith
flat (x ∷ xs) e =
    let p = short_parts x xs e in
    without_append 10 (decimal x) (more_fields xs) (no_end x p.0) (flat_more xs p.1)

same_decimal : (x y : ℕ) → x < 10 ^ 8 → y < 10 ^ 8 → decimal x ≡ decimal y → x ≡ y
same_decimal x y h k e = decimal_injective x y (omega arith) (omega arith) e

same_from : (x : ℕ) (xs : List ℕ) (y : ℕ) (ys : List ℕ) → short (x ∷ xs) ≡ true → short (y ∷ ys) ≡ true → fields_text (x ∷ xs) ≡ fields_text (y ∷ ys) → x ∷ xs ≡ y ∷ ys
same_from x [] y [] h k e =
    let s : x ≡ y = same_decimal x y (short_parts x [] h).0 (short_parts y [] k).0 (sym (append-nil (decimal x)) ∙ e ∙ append-nil (decimal y)) in
    cc
same_from x [] y (v ∷ vs) h k e = absurd (uncut 44 (decimal x) (decimal y) (fields_text (v ∷ vs)) (no_comma x (short_parts x [] h).0) (sym (append-nil (decimal x)) ∙ e))
same_from x (u ∷ us) y [] h k e = absurd (uncut 44 (decimal y) (decimal x) (fields_text (u ∷ us)) (no_comma y (short_parts y [] k).0) (sym (append-nil (decimal y)) ∙ sym e))
same_from x (u ∷ us) y (v ∷ vs) h k e =
    let a = short_parts x (u ∷ us) h in
    let b = short_parts y (v ∷ vs) k in
    let p = one_cut 44 (decimal x) (fields_text (u ∷ us)) (decimal y) (fields_text (v ∷ vs)) (no_comma x a.0) (no_comma y b.0) e in
    let s : x ≡ y = same_decimal x y a.0 b.0 p.0 in
    let r : u ∷ us ≡ v ∷ vs = same_from u us v vs a.1 b.1 p.1 in
    cc

not_empty : (x : ℕ) (xs : List ℕ) → short (x ∷ xs) ≡ true → [] ≡ fields_text (x ∷ xs) → ⊥
not_empty x xs h e =
    let p = short_parts x xs h in
    let l = decimal_nonempty x (omega (arith, p.0)) in
    omega (arith, ap length e, lib.ListN.length-append (decimal x) (more_fields xs), l)

-- the text says which numbers they are
pub same_fields : (fs gs : List ℕ) → short fs ≡ true → short gs ≡ true → fields_text fs ≡ fields_text gs → fs ≡ gs
same_fields [] [] h k e = refl
same_fields [] (y ∷ ys) h k e = absurd (not_empty y ys k e)
same_fields (x ∷ xs) [] h k e = absurd (not_empty x xs h (sym e))
same_fields (x ∷ xs) (y ∷ ys) h k e = same_from x xs y ys h k e
