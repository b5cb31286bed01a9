-- The graph of a task: its blocks, loops and edges by number.
use Rattle.std.specs.Prelude.{◌≡◌, ℕ, ◌+◌, ◌*◌, ◌<◌, ◌≤◌, Bool, true, false, ◌&&◌, List, [], ◌∷◌, length, nat_le, slice_index_or}
use Rattle.records.specs.declared.parts.Block.{Block}
use Rattle.records.specs.declared.parts.Loop.{Loop}
use Rattle.records.specs.declared.parts.Edge.{Edge}

abbrev pub block_at : List Block → ℕ → Block
block_at bs b = slice_index_or bs b (record { address = 0; fetches = 0; cycles = 0 })

abbrev pub loop_at : List Loop → ℕ → Loop
loop_at ls i = slice_index_or ls i (record { header = 0; last = 0; limit = 0 })

abbrev pub edge_at : List Edge → ℕ → Edge
edge_at es k = slice_index_or es k (record { from = 0; to = 0 })

-- block b is in the loop
abbrev pub Within : Loop → ℕ → Type 0
Within l b = (l.header ≤ b) × (b ≤ l.last)

abbrev pub within : Loop → ℕ → Bool
within l b = nat_le l.header b && nat_le b l.last

-- the named loops around block b, outermost first
abbrev pub around : List Loop → ℕ → List Loop
around [] b = []
around (l ∷ ls) b = elim (within l b) [ true ↦ l ∷ around ls b | false ↦ around ls b ]

-- the levels of block b: the named loops around it and the whole task
abbrev pub levels : List Loop → ℕ → ℕ
levels ls b = 1 + length (around ls b)

abbrev pub product : List Loop → ℕ
product [] = 1
product (l ∷ ls) = l.limit * product ls

-- the product of the limits around block b
abbrev pub limits : List Loop → ℕ → ℕ
limits ls b = product (around ls b)

abbrev pub total_fetches : List Block → ℕ
total_fetches [] = 0
total_fetches (b ∷ bs) = b.fetches + total_fetches bs

-- there is an edge from block p to block b
abbrev pub Leads : List Edge → ℕ → ℕ → Type 0
Leads es p b = (k : ℕ) × (k < length es) × ((edge_at es k).from ≡ p) × ((edge_at es k).to ≡ b)
