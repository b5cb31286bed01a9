-- Bytes written into a buffer.
use Rattle.std.specs.Prelude.{◌≡◌, ℕ, ◌+◌, ◌<◌, ◌≤◌, List, ◌++◌, length, take, drop, Some, None, Option}

-- the bytes stand in the buffer from `at` up to `end`, and all else in it is as it was
pub record Put (at : ℕ) (bytes old : List ℕ) (end : ℕ) (new : List ℕ) : Type 0 where
  pub ends : end ≡ at + length bytes
  pub fits : end ≤ length old
  pub text : new ≡ take at old ++ (bytes ++ drop end old)

-- they are put and end there, or do not fit and the buffer is as it was
abbrev pub Puts : ℕ → List ℕ → List ℕ → Option ℕ → List ℕ → Type 0
Puts at bytes old (Some end) new = Put at bytes old end new
Puts at bytes old None new = (length old < at + length bytes) × (new ≡ old)
