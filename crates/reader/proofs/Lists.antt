-- The entries of a list, one line after the other.
use Rattle.std.proofs.Common.{◌≡◌, ℕ, suc, ◌+◌, ◌-◌, ◌<◌, List, [], ◌∷◌, ◌++◌, map, length, sym, refl, ap, ◌∙◌, subst, inl, arith}
use Rattle.std.proofs.lemmas.List.{length_push, map_push}
use Rattle.syntax.specs.Fault.{TextFault}
use Rattle.syntax.specs.Line.{Form, Takes, BadLine, line_text}
use Rattle.syntax.specs.Format.{Format, lines}
use Rattle.syntax.specs.Format.Format.{line}
use Rattle.reader.specs.declared.lines.Lines.{Lines}
use Rattle.reader.specs.Parts.{LinesPass, LinesFail}
use Rattle.reader.proofs.Passing.{pass_on, fault_later}

-- the first i of n entries are xs, and now has the lines of the others
pub record Sofar {X : Type 0} (n : ℕ) (f : Form) (row : X → List ℕ) (start : Lines) (i : ℕ) (xs : List X) (now : Lines) : Type 0 where
  pub all : length xs ≡ i
  pub passes : (k : Format) → LinesPass (lines n f k) start (map row xs) (lines (n - i) f k) now

pub sofar_none : {X : Type 0} (n : ℕ) (f : Form) (row : X → List ℕ) (start : Lines) (xs : List X) → xs ≡ [] → Sofar n f row start 0 xs start
sofar_none n f row start xs e = rw e (record { all = refl; passes = λ k. (ap (λ (m : ℕ). lines m f k) (omega arith), refl, refl) })

-- one of the lines that are left
next_line : (n i : ℕ) (f : Form) (k : Format) → i < n → lines (n - i) f k ≡ line f (λ _. lines (n - (i + 1)) f k)
next_line n i f k h = let e : n - i ≡ suc (n - (i + 1)) = omega arith in ap (λ (m : ℕ). lines m f k) e

pub sofar_more : {X : Type 0} (n : ℕ) (f : Form) (row : X → List ℕ) (start : Lines) (i : ℕ) (xs ys : List X) (x : X) (now after : Lines) → i < n
    → Sofar n f row start i xs now → Takes f (row x) × (now.rest.now ≡ line_text f.key (row x) after.rest.now) × (after.next ≡ now.next + 1) → ys ≡ xs ++ (x ∷ [])
    → Sofar n f row start (i + 1) ys after
sofar_more n f row start i xs ys x now after h s g e = record {
  all = ap length e ∙ length_push xs x ∙ ap (λ (m : ℕ). m + 1) s.all;
  passes = λ k.
      let p = pass_on (map row xs) (row x ∷ []) (lines n f k) (line f (λ _. lines (n - (i + 1)) f k)) (lines (n - (i + 1)) f k)
      start.next now.next after.next start.rest.now now.rest.now after.rest.now
      (subst (λ (F : Format). LinesPass (lines n f k) start (map row xs) F now) (next_line n i f k h) (s.passes k))
      (after.rest.now, g.0, g.1, (refl, sym g.2, refl)) in
      subst (λ (rows : List (List ℕ)). LinesPass (lines n f k) start rows (lines (n - (i + 1)) f k) after) (sym (ap (map row) e ∙ map_push row xs x)) p;
}

-- a bad line among them
pub sofar_stop : {X : Type 0} (n : ℕ) (f : Form) (row : X → List ℕ) (start : Lines) (i : ℕ) (xs : List X) (now : Lines) (e : TextFault) → i < n
    → Sofar n f row start i xs now → (e.place ≡ now.next) × BadLine f now.rest.now e.rule → (k : Format) → LinesFail (lines n f k) start e
sofar_stop n f row start i xs now e h s b k =
    fault_later (map row xs) (lines n f k) (lines (n - i) f k) start.next now.next start.rest.now now.rest.now e.rule e.place (s.passes k)
    (subst (λ (F : Format). LinesFail F now e) (sym (next_line n i f k h)) (inl b))

pub sofar_all : {X : Type 0} (n : ℕ) (f : Form) (row : X → List ℕ) (start : Lines) (i : ℕ) (xs : List X) (now : Lines) → i ≡ n
    → Sofar n f row start i xs now → (length xs ≡ n) × ((k : Format) → LinesPass (lines n f k) start (map row xs) k now)
sofar_all n f row start i xs now h s = (
  s.all ∙ h,
  (λ k.
      let z : n - i ≡ 0 = omega arith in
      subst (λ (m : ℕ). LinesPass (lines n f k) start (map row xs) (lines m f k) now) z (s.passes k)),
)
