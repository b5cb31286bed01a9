-- What writing a text to the front of a buffer comes to.
use Rattle.std.specs.Prelude.{◌≡◌, ℕ, ◌<◌, ◌≤◌, List, ◌++◌, length, drop, Ok, Err, Result}
use Rattle.writer.specs.declared.TooShort.{TooShort}

-- the text stands at the front and the rest is as it was, or the buffer is too short for it and as it was
abbrev pub Wrote : List ℕ → List ℕ → Result ℕ TooShort → List ℕ → Type 0
Wrote text old (Ok n) new = (n ≡ length text) × (n ≤ length old) × (new ≡ text ++ drop n old)
Wrote text old (Err e) new = (e.needed ≡ length text) × (length old < length text) × (new ≡ old)
