-- Where a text is cut.
use Rattle.std.specs.Prelude.{◌≡◌, ℕ, List, ◌∷◌, ◌++◌, Some, None, Option}
use Rattle.std.specs.Borrow.{Bor}
use Rattle.syntax.specs.Line.{Without, NoLine}

-- two parts: what stands before the first byte b, and what stands after it
abbrev pub Splits : ℕ → List ℕ → Option (Bor (List ℕ) × Bor (List ℕ)) → Type 0
Splits b s None = Without b s
Splits b s (Some p) = Without b p.0.now × (s ≡ p.0.now ++ (b ∷ p.1.now))

-- two parts: the line after its key, and what follows it
abbrev pub CutsLine : List ℕ → List ℕ → Option (Bor (List ℕ) × Bor (List ℕ)) → Type 0
CutsLine key t None = NoLine key t
CutsLine key t (Some p) = Without 10 p.0.now × (t ≡ key ++ (p.0.now ++ (10 ∷ p.1.now)))
