-- The category of a fetch at a loop around its block.
use Rattle.std.specs.Prelude.{ℕ, zero, suc, Bool, true, false, not, ◌&&◌, ◌||◌, List, [], ◌∷◌, length, take, ◌==◌}
use Rattle.std.specs.List.{list_all}
use Rattle.records.specs.declared.parts.Geometry.{Geometry}
use Rattle.records.specs.declared.parts.Loop.{Loop}
use Rattle.records.specs.declared.parts.Edge.{Edge}
use Rattle.records.specs.Contents.{Contents}
use Rattle.task.specs.Graph.{block_at, loop_at, within}
use Rattle.walks.specs.Walk.{all_loops}
use Rattle.facts.specs.Kind.{Kind}
use Rattle.facts.specs.Settling.{starts, state_at, blocks_of, task_states, first_states}
use Rattle.cache_state.specs.Cache.{slot_of, fetch_line, fetch_all}
use Rattle.run.specs.Run.{lines_of}
use Rattle.categories.specs.declared.category.Category.{Category}
use Rattle.categories.specs.declared.category.Category.TheVariants.{AlwaysHit, FirstMiss, FirstHit, AlwaysMiss}

-- the number of block b's fetches, and the line of fetch j
abbrev pub fetches_of : Contents → ℕ → ℕ
fetches_of c b = (block_at c.blocks b).fetches

abbrev pub line_of : Contents → ℕ → ℕ → ℕ
line_of c b j = fetch_line c.header.geometry (block_at c.blocks b) j

-- lines t and u have different slots, or are one line
abbrev pub apart : Geometry → ℕ → ℕ → Bool
apart g t u = not (slot_of g u == slot_of g t) || u == t

-- no fetch of a block of the loop has another line of t's slot
abbrev pub alone : Contents → Loop → ℕ → Bool
alone c l t = list_all (λ b. list_all (apart c.header.geometry t) (lines_of c b)) (blocks_of l)

-- the edge leads from inside the loop back to its header
abbrev pub leads_back : Loop → Edge → Bool
leads_back l e = e.to == l.header && within l e.from

-- Every walk to a block with an edge back to the loop's header passes block b, its last block
-- counted; `passed x b` tells whether every walk to block x has passed b before.
abbrev pub gated : (ℕ → ℕ → Bool) → Contents → Loop → ℕ → Bool
gated passed c l b = list_all (λ x. (b == x) || passed x b) (starts (leads_back l) c.edges)

-- such a test by a kind of facts about the blocks passed
abbrev pub passed_by : {P : Type 0} → Kind P → Contents → ℕ → ℕ → Bool
passed_by p c x b = p.sure (state_at p (task_states p c).0 x) b

-- the first category that fits, by the tests of the first three
abbrev pub first_fitting : Bool → Bool → Bool → Category
first_fitting true miss hit = AlwaysHit
first_fitting false true hit = FirstMiss
first_fitting false false true = FirstHit
first_fitting false false false = AlwaysMiss

module _ {K : Type 0} (k : Kind K) (fetched : ℕ → K → K) (c : Contents) where
  -- fetch j of block b is sure in a state of the block's entry: sure of its line after the block's earlier fetches
  abbrev pub sure_fetch : K → ℕ → ℕ → Bool
  sure_fetch x b j = k.sure (fetch_all fetched (take j (lines_of c b)) x) (line_of c b j)

  -- in the settled state of the whole task, and in that of the loop's first rounds
  abbrev pub sure_always : ℕ → ℕ → Bool
  sure_always b j = sure_fetch (state_at k (task_states k c).0 b) b j

  abbrev pub sure_first : Loop → ℕ → ℕ → Bool
  sure_first l b j = sure_fetch (state_at k (first_states k c l).0 b) b j

  -- the category of fetch j of block b at a loop around the block
  abbrev pub category_of : (ℕ → ℕ → Bool) → ℕ → ℕ → Loop → Category
  category_of passed b j l = first_fitting (sure_always b j) (alone c l (line_of c b j)) (gated passed c l b && sure_first l b j)

-- The categories of a task's fetches: by block, by fetch, and by the number of a loop around the block.
abbrev pub Marks : Type 0
Marks = ℕ → ℕ → ℕ → Category

-- a task's marks by a kind of cache state
abbrev pub marks_of : {K : Type 0} → Kind K → (ℕ → K → K) → Contents → (ℕ → ℕ → Bool) → Marks
marks_of k fetched c passed b j i = category_of k fetched c passed b j (loop_at (all_loops c) i)

-- the numbers of those of the first n loops that have block b, innermost first
abbrev pub having : List Loop → ℕ → ℕ → List ℕ
having ls zero b = []
having ls (suc n) b = elim (within (loop_at ls n) b) [ true ↦ n ∷ having ls n b | false ↦ having ls n b ]

-- the levels of block b: the numbers of the loops around it, innermost first, and last the task loop's, 0
abbrev pub levels_of : Contents → ℕ → List ℕ
levels_of c b = having (all_loops c) (length (all_loops c)) b
