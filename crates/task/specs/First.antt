-- The answer of a check: the lowest place that breaks its rule.
use Rattle.std.specs.Prelude.{ℕ, ◌<◌, Some, None, Option}

-- P holds of no number, or of this one and of none below it
abbrev pub First : (ℕ → Type 0) → Option ℕ → Type 0
First P None = (k : ℕ) → P k → ⊥
First P (Some k) = P k × ((j : ℕ) → j < k → P j → ⊥)
