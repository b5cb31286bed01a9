-- The parts of a record's text.
use Rattle.std.specs.Prelude.{ℕ, List, [], ◌∷◌, length}
use Rattle.syntax.specs.Line.{line_text}
use Rattle.syntax.specs.Format.{text_of}
use Rattle.syntax.specs.Format.Format.{end}
use Rattle.records.specs.declared.parts.Header.{Header}
use Rattle.records.specs.Layout.{header_format, header_rows}

-- the lines before `blocks=`
abbrev pub header_text : Header → List ℕ
header_text h = text_of (header_format end) (header_rows h [])

-- a line for each entry of a list
abbrev pub rows_text : {X : Type 0} → List ℕ → (X → List ℕ) → List X → List ℕ
rows_text key row [] = []
rows_text key row (x ∷ xs) = line_text key (row x) (rows_text key row xs)

-- a line that says how many entries there are, and theirs
abbrev pub list_text : {X : Type 0} → List ℕ → List ℕ → (X → List ℕ) → List X → List ℕ
list_text heading key row xs = line_text heading (length xs ∷ []) (rows_text key row xs)
