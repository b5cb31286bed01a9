-- Reading numbers that are parted by commas.
use Rattle.std.specs.Prelude.{◌≡◌, ℕ, List, [], ◌∷◌, Some, None, Option, ◌≢◌}
use Rattle.syntax.specs.Line.{Numbers, fields_text}

-- how many numbers a value has, and which
pub record Shape (X : Type 0) : Type 0 where
  pub count : ℕ
  pub fields : X → List ℕ

abbrev pub one : Shape ℕ
one = record { count = 1; fields = λ x. x ∷ [] }

abbrev pub two : Shape (ℕ × ℕ)
two = record { count = 2; fields = λ p. p.0 ∷ p.1 ∷ [] }

abbrev pub three : Shape (ℕ × ℕ × ℕ)
three = record { count = 3; fields = λ p. p.0 ∷ p.1 ∷ p.2 ∷ [] }

-- the numbers that the text has; or it is not the text of so many numbers
abbrev pub ReadsFields : {X : Type 0} → Shape X → List ℕ → Option X → Type 0
ReadsFields s body None = (fs : List ℕ) → Numbers s.count fs → body ≢ fields_text fs
ReadsFields s body (Some x) = Numbers s.count (s.fields x) × (body ≡ fields_text (s.fields x))
