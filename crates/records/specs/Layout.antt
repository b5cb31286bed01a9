-- The lines of a task record, with the range of every number.
use Rattle.std.specs.Prelude.{◌≡◌, ℕ, ◌-◌, Bool, true, false, ◌&&◌, ◌||◌, List, [], ◌∷◌, ◌++◌, map, length, codes, ◌==◌, nat_le}
use Rattle.syntax.specs.Line.{Form}
use Rattle.syntax.specs.Format.{Format, lines, text_of, follows}
use Rattle.syntax.specs.Format.Format.{end, line}
use Rattle.records.specs.declared.parts.Header.{Header}
use Rattle.records.specs.declared.parts.Block.{Block}
use Rattle.records.specs.declared.parts.Loop.{Loop}
use Rattle.records.specs.declared.parts.Edge.{Edge}
use Rattle.records.specs.Contents.{Contents}

abbrev pub between : ℕ → ℕ → ℕ → Bool
between low high x = nat_le low x && nat_le x high

abbrev pub one_of : List ℕ → ℕ → Bool
one_of [] x = false
one_of (y ∷ ys) x = x == y || one_of ys x

-- a line with one number
abbrev pub single : List ℕ → (ℕ → Bool) → Form
single key range = record { key = key; ranges = range ∷ [] }

abbrev pub line_form : Form
line_form = single (codes "line=") (one_of (4 ∷ 8 ∷ 16 ∷ 32 ∷ 64 ∷ []))

abbrev pub slots_form : Form
slots_form = single (codes "slots=") (one_of (1 ∷ 2 ∷ 4 ∷ 8 ∷ 16 ∷ 32 ∷ 64 ∷ []))

abbrev pub hit_form : Form
hit_form = single (codes "hit=") (between 1 255)

abbrev pub penalty_form : Form
penalty_form = single (codes "penalty=") (between 0 4095)

abbrev pub window_form : Form
window_form = single (codes "window=") (between 1 99999999)

abbrev pub blocks_form : Form
blocks_form = single (codes "blocks=") (between 1 128)

-- address, fetches, own cycles
abbrev pub block_form : Form
block_form = record { key = codes "block="; ranges = between 0 16777215 ∷ between 1 64 ∷ between 0 65535 ∷ [] }

abbrev pub loops_form : Form
loops_form = single (codes "loops=") (between 0 15)

-- header, last block, limit, in a task of n blocks
abbrev pub loop_form : ℕ → Form
loop_form n = record { key = codes "loop="; ranges = between 1 (n - 1) ∷ between 0 (n - 1) ∷ between 1 65535 ∷ [] }

abbrev pub edges_form : Form
edges_form = single (codes "edges=") (between 0 512)

-- from, to, in a task of n blocks
abbrev pub edge_form : ℕ → Form
edge_form n = record { key = codes "edge="; ranges = between 0 (n - 1) ∷ between 0 (n - 1) ∷ [] }

-- the number of a line that has one
abbrev pub first : List ℕ → ℕ
first [] = 0
first (x ∷ xs) = x

-- the lines before `blocks=`, and then the rest
abbrev pub header_format : Format → Format
header_format rest = line line_form λ _. line slots_form λ _. line hit_form λ _. line penalty_form λ _. line window_form λ _. rest

-- the edges of a task of n blocks: how many, and each
abbrev pub edges_format : ℕ → Format
edges_format n = line edges_form λ fs. lines (first fs) (edge_form n) end

-- its loops, and then its edges
abbrev pub loops_format : ℕ → Format
loops_format n = line loops_form λ fs. lines (first fs) (loop_form n) (edges_format n)

-- the whole record
abbrev pub record_format : Format
record_format = header_format (line blocks_form λ fs. lines (first fs) block_form (loops_format (first fs)))

abbrev pub block_row : Block → List ℕ
block_row b = b.address ∷ b.fetches ∷ b.cycles ∷ []

abbrev pub loop_row : Loop → List ℕ
loop_row l = l.header ∷ l.last ∷ l.limit ∷ []

abbrev pub edge_row : Edge → List ℕ
edge_row e = e.from ∷ e.to ∷ []

abbrev pub header_rows : Header → List (List ℕ) → List (List ℕ)
header_rows h rest =
    (h.geometry.line ∷ []) ∷ (h.geometry.slots ∷ []) ∷ (h.hit ∷ []) ∷ (h.penalty ∷ []) ∷ (h.window ∷ []) ∷ rest

-- a counted list: how many there are, and then each
abbrev pub counted : {X : Type 0} → (X → List ℕ) → List X → List (List ℕ) → List (List ℕ)
counted row xs rest = (length xs ∷ []) ∷ (map row xs ++ rest)

-- the numbers of each line
abbrev pub rows : Contents → List (List ℕ)
rows c = header_rows c.header (counted block_row c.blocks (counted loop_row c.loops (counted edge_row c.edges [])))

-- every count and every number is as the format asks
abbrev pub InFormat : Contents → Type 0
InFormat c = follows record_format (rows c) ≡ true

-- the text of a record
abbrev pub record_text : Contents → List ℕ
record_text c = text_of record_format (rows c)
