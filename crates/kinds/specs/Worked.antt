-- Worked records.
use Rattle.std.specs.Prelude.{ℕ, Bool, List, [], ◌∷◌, map, length}
use Rattle.std.specs.List.{range_with_len}
use Rattle.records.specs.declared.parts.Block.{Block}
use Rattle.records.specs.declared.parts.Loop.{Loop}
use Rattle.records.specs.declared.parts.Edge.{Edge}
use Rattle.records.specs.Contents.{Contents}
use Rattle.task.specs.Graph.{block_at}
use Rattle.facts.specs.Kind.{Kind}
use Rattle.facts.specs.Settling.{state_at, task_states}
use Rattle.cache_state.specs.Fetching.{sure_fetch}
use Rattle.slot_kind.specs.Slots.{slot_kind, slots_fetched}
use Rattle.last_line_kind.specs.LastLine.{last_kind, last_fetched}
use Rattle.passed_kind.specs.Passed.{passed_kind}

-- a block of these fetches at this address, with no cycles of its own
abbrev pub at : ℕ → ℕ → Block
at a n = record { address = a; fetches = n; cycles = 0 }

abbrev pub loop : ℕ → ℕ → ℕ → Loop
loop h m n = record { header = h; last = m; limit = n }

abbrev pub edge : ℕ → ℕ → Edge
edge p b = record { from = p; to = b }

-- a task with lines of 16 bytes and this number of slots
abbrev pub task : ℕ → List Block → List Loop → List Edge → Contents
task n bs ls es = record {
  header = record { geometry = record { line = 16; slots = n }; hit = 1; penalty = 9; window = 1000 };
  blocks = bs;
  loops = ls;
  edges = es;
}

-- three blocks, the second a loop of its own
abbrev pub record_a : Contents
record_a = task 4 (at 0 2 ∷ at 8 4 ∷ at 24 2 ∷ []) (loop 1 1 10 ∷ []) (edge 0 1 ∷ edge 1 1 ∷ edge 1 2 ∷ [])

-- one block of one fetch
abbrev pub record_c : Contents
record_c = task 1 (at 0 1 ∷ []) [] []

-- a main program whose loop calls a function twice, each call a block of its own
abbrev pub calls : Contents
calls =
    task 4
    (at 0 5 ∷ at 20 2 ∷ at 76 5 ∷ at 28 3 ∷ at 40 2 ∷ at 76 5 ∷ at 48 2 ∷ at 56 3 ∷ at 68 2 ∷ [])
    (loop 1 7 10 ∷ loop 2 2 1 ∷ loop 5 5 1 ∷ [])
    (edge 0 1 ∷ edge 1 2 ∷ edge 2 3 ∷ edge 3 4 ∷ edge 3 7 ∷ edge 4 5 ∷ edge 5 6 ∷ edge 6 7 ∷ edge 7 1 ∷ edge 7 8 ∷ [])

-- the passes that a task takes to settle
abbrev pub slot_passes : Contents → ℕ
slot_passes c = (task_states (slot_kind c.header.geometry) c).1

-- the same with the last-line kind
abbrev pub last_line_passes : Contents → ℕ
last_line_passes c = (task_states (last_kind c.header.geometry) c).1

-- which fetches of each block are sure in the settled states
abbrev pub sure_fetches : {K : Type 0} → Kind K → (ℕ → K → K) → Contents → List (List Bool)
sure_fetches k fetched c =
    let xs = (task_states k c).0 in
    map (λ b. map (λ j. sure_fetch c.header.geometry k fetched (block_at c.blocks b) j (state_at k xs b)) (range_with_len 0 (block_at c.blocks b).fetches))
    (range_with_len 0 (length c.blocks))

-- with the slot kind
abbrev pub slot_hits : Contents → List (List Bool)
slot_hits c = let g = c.header.geometry in sure_fetches (slot_kind g) (slots_fetched g) c

-- with the last-line kind
abbrev pub last_line_hits : Contents → List (List Bool)
last_line_hits c = sure_fetches (last_kind c.header.geometry) last_fetched c

-- which blocks every walk to each block has passed
abbrev pub passed_marks : Contents → List (List Bool)
passed_marks c =
    let n = length c.blocks in
    let xs = (task_states (passed_kind n) c).0 in
    map (λ x. map ((passed_kind n).sure (state_at (passed_kind n) xs x)) (range_with_len 0 n)) (range_with_len 0 n)
