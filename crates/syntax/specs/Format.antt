-- A format: which lines a text has to have, one after the other.
use Rattle.std.specs.Prelude.{◌≡◌, ℕ, zero, suc, ◌+◌, ◌<◌, Bool, true, false, ◌&&◌, ◌⊎◌, List, [], ◌∷◌, length}
use Rattle.syntax.specs.declared.fault.TextRule.{TextRule}
use Rattle.syntax.specs.declared.fault.TextRule.TheVariants.{Line}
use Rattle.syntax.specs.Line.{Form, Takes, BadLine, line_text, in_ranges, short}

-- no more lines; or a line, and then what its numbers ask for
pub data Format : Type 0 where
  end : Format
  line : Form → (List ℕ → Format) → Format

-- n lines of one form, and then the rest
abbrev pub lines : ℕ → Form → Format → Format
lines zero f rest = rest
lines (suc n) f rest = line f (λ _. lines n f rest)

-- the numbers of each line, line by line, are what the format asks for
abbrev pub follows : Format → List (List ℕ) → Bool
follows end [] = true
follows end (fs ∷ rows) = false
follows (line f next) [] = false
follows (line f next) (fs ∷ rows) = (short fs && in_ranges f.ranges fs) && follows (next fs) rows

-- the text with these numbers
abbrev pub text_of : Format → List (List ℕ) → List ℕ
text_of end rows = []
text_of (line f next) [] = []
text_of (line f next) (fs ∷ rows) = line_text f.key fs (text_of (next fs) rows)

-- The first line at which a text leaves its format: after good lines, of which the first has the number at,
-- line n breaks the rule, or nothing should stand there.
abbrev pub Faulty : Format → ℕ → List ℕ → TextRule → ℕ → Type 0
Faulty end at t rule n = (rule ≡ Line) × (n ≡ at) × (0 < length t)
Faulty (line f next) at t rule n =
    ((n ≡ at) × BadLine f t rule)
    ⊎ ((fs : List ℕ) × (rest : List ℕ) × Takes f fs × (t ≡ line_text f.key fs rest) × Faulty (next fs) (at + 1) rest rule n)
