-- Settling: the states at the blocks of a loop or of the whole task, joined along the edges until a pass changes nothing.
use Rattle.std.specs.Prelude.{ℕ, zero, suc, ◌+◌, ◌-◌, ◌*◌, Bool, true, false, not, ◌&&◌, List, [], ◌∷◌, length, replicate, ◌==◌, slice_index_or, slice_set}
use Rattle.std.specs.List.{range_with_len}
use Rattle.records.specs.declared.parts.Block.{Block}
use Rattle.records.specs.declared.parts.Loop.{Loop}
use Rattle.records.specs.declared.parts.Edge.{Edge}
use Rattle.records.specs.Contents.{Contents}
use Rattle.task.specs.Graph.{block_at, within}
use Rattle.walks.specs.Walk.{task_loop}
use Rattle.facts.specs.Kind.{Kind}

-- What is settled: one round of a loop, in a task of these blocks and edges.
pub record Region : Type 0 where
  pub blocks : List Block
  pub edges : List Edge
  pub range : Loop

abbrev pub region_of : List Block → List Edge → Loop → Region
region_of bs es l = record { blocks = bs; edges = es; range = l }

-- the edge leads to block b from inside the loop, and begins no round of it
abbrev pub leads_on : Loop → ℕ → Edge → Bool
leads_on l b e = e.to == b && (within l e.from && not (b == l.header))

-- the edge leads into the loop from outside
abbrev pub leads_in : Loop → Edge → Bool
leads_in l e = e.to == l.header && not (within l e.from)

-- where the edges start that pass the test, in their order
abbrev pub starts : (Edge → Bool) → List Edge → List ℕ
starts test [] = []
starts test (e ∷ es) = elim (test e) [ true ↦ e.from ∷ starts test es | false ↦ starts test es ]

-- the predecessors of block b in one round of the loop: its header has none
abbrev pub predecessors : Region → ℕ → List ℕ
predecessors r b = starts (leads_on r.range b) r.edges

-- the entry state of block b
abbrev pub state_at : {K : Type 0} → Kind K → List K → ℕ → K
state_at k xs b = slice_index_or xs b k.nothing_yet

-- its end state: the entry state passed through it
abbrev pub end_state : {K : Type 0} → Kind K → List Block → List K → ℕ → K
end_state k bs xs b = k.passed b (block_at bs b) (state_at k xs b)

-- x joined with the end states of the blocks ps, in their order
abbrev pub gathered : {K : Type 0} → Kind K → List Block → List K → K → List ℕ → K
gathered k bs xs x [] = x
gathered k bs xs x (p ∷ ps) = gathered k bs xs (k.joined x (end_state k bs xs p)) ps

-- block b's turn: its predecessors' end states, as they stand, are joined into its entry state
abbrev pub turn : {K : Type 0} → Kind K → Region → ℕ → List K → List K
turn k r b xs = slice_set xs b (gathered k r.blocks xs (state_at k xs b) (predecessors r b))

-- the turns of these blocks, one after the other
abbrev pub turns : {K : Type 0} → Kind K → Region → List ℕ → List K → List K
turns k r [] xs = xs
turns k r (b ∷ bs) xs = turns k r bs (turn k r b xs)

-- the blocks of a loop, ascending
abbrev pub blocks_of : Loop → List ℕ
blocks_of l = range_with_len l.header (suc l.last - l.header)

-- a pass: each block of the loop has its turn
abbrev pub pass : {K : Type 0} → Kind K → Region → List K → List K
pass k r xs = turns k r (blocks_of r.range) xs

-- no state has another rank than before
abbrev pub unchanged : {K : Type 0} → Kind K → List K → List K → Bool
unchanged k [] ys = true
unchanged k (x ∷ xs) [] = true
unchanged k (x ∷ xs) (y ∷ ys) = k.ranked y == k.ranked x && unchanged k xs ys

-- Passes up to the first that changes nothing, at most `fuel` of them: the states at the end, and how many passes.
abbrev pub passes : {K : Type 0} → Kind K → Region → ℕ → List K → List K × ℕ
passes k r zero xs = (xs, 0)
passes k r (suc fuel) xs =
    let ys = pass k r xs in
    elim (unchanged k xs ys) [ true ↦ (ys, 1) | false ↦ (let more = passes k r fuel ys in (more.0, suc more.1)) ]

-- at the beginning the header has its entry state, and every other block nothing_yet
abbrev pub begun : {K : Type 0} → Kind K → Region → K → List K
begun k r entry = slice_set (replicate (length r.blocks) k.nothing_yet) r.range.header entry

-- The settled states of a loop that is entered in this state, and the passes it takes.
abbrev pub settled : {K : Type 0} → Kind K → Region → K → List K × ℕ
settled k r entry = passes k r (length r.blocks * k.height + 1) (begun k r entry)

-- the whole task: its loop is entered in the open state
abbrev pub task_states : {K : Type 0} → Kind K → Contents → List K × ℕ
task_states k c = settled k (region_of c.blocks c.edges (task_loop c)) k.open_state

-- The state in which stays in the loop begin, from the task's settled states: open for the task loop, else
-- the join of the end states of the blocks outside that lead to the header.
abbrev pub entry_state : {K : Type 0} → Kind K → Region → List K → K
entry_state k r xs =
    elim (r.range.header == 0)
    [ true ↦ k.open_state | false ↦ gathered k r.blocks xs k.nothing_yet (starts (leads_in r.range) r.edges) ]

-- the states of a loop's first round
abbrev pub first_states : {K : Type 0} → Kind K → Contents → Loop → List K × ℕ
first_states k c l =
    let r = region_of c.blocks c.edges l in
    settled k r (entry_state k r (task_states k c).0)
