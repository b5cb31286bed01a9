-- What the steps of marking work on.
use Rattle.std.specs.Prelude.{◌≡◌, ℕ, ◌+◌, ◌<◌, ◌≤◌, Bool, false, not, ◌||◌, ◌≢◌, ◌⊎◌, List, [], map, length, take, min, Some, None, Option, ◌==◌, slice_index_or, slice_set}
use Rattle.records.specs.declared.parts.Geometry.{Geometry}
use Rattle.std.specs.List.{range_with_len}
use Rattle.records.specs.declared.parts.Block.{Block}
use Rattle.records.specs.declared.parts.Edge.{Edge}
use Rattle.records.specs.declared.parts.Loop.{Loop}
use Rattle.records.specs.Contents.{Contents}
use Rattle.task.specs.Graph.{loop_at, Within}
use Rattle.walks.specs.Walk.{all_loops}
use Rattle.facts.specs.Kind.{Kind}
use Rattle.facts.specs.Settling.{state_at, task_states, first_states}
use Rattle.cache_state.specs.Cache.{empty, fetch_line}
use Rattle.passed_kind.specs.declared.PassedBlocks.{PassedBlocks}
use Rattle.passed_kind.specs.Passed.{passed_kind}
use Rattle.categories.specs.Category.{fetches_of, line_of, alone, leads_back, first_fitting, sure_fetch, Marks}
use Rattle.categories.specs.declared.category.Category.{Category}
use Rattle.categories.specs.declared.category.Category.TheVariants.{AlwaysMiss}
use Rattle.marks.specs.Table.{mark_at}

-- the lines of a block's fetches as the code works them out: one that does not fit is no line
abbrev pub given_lines : Geometry → Block → List ℕ
given_lines g b = map (λ j. min (fetch_line g b j) empty) (range_with_len 0 b.fetches)

-- block b was passed on the way to block x, by the entry states of n blocks
abbrev pub passed_in : ℕ → List PassedBlocks → ℕ → ℕ → Bool
passed_in n passed x b = (passed_kind n).sure (state_at (passed_kind n) passed x) b

-- the edge does not lead back to the loop's header, or only past block b
abbrev pub keeps_gate : (ℕ → ℕ → Bool) → Loop → ℕ → Edge → Bool
keeps_gate passed l b e = not (leads_back l e) || (b == e.from || passed e.from b)

-- fetch j of block b is sure in a state of the block's entry, by a kind at the task's geometry
abbrev pub sure_in : {K : Type 0} → (Geometry → Kind K) → (Geometry → ℕ → K → K) → Contents → K → ℕ → ℕ → Bool
sure_in kind fetched c x b j = sure_fetch (kind c.header.geometry) (fetched c.header.geometry) c x b j

-- the same in a state of a loop's first round, where there is one
abbrev pub sure_in_first : {K : Type 0} → (Geometry → Kind K) → (Geometry → ℕ → K → K) → Contents → Option K → ℕ → ℕ → Bool
sure_in_first kind fetched c None b j = false
sure_in_first kind fetched c (Some x) b j = sure_in kind fetched c x b j

-- the category of fetch j of block b at a loop around it, by the block's settled state and, if the further rounds are gated by
-- the block, its state in the loop's first round
abbrev pub fitting : {K : Type 0} → (Geometry → Kind K) → (Geometry → ℕ → K → K) → Contents → Loop → ℕ → K → Option K → ℕ → Category
fitting kind fetched c l b settled first j =
    first_fitting (sure_in kind fetched c settled b j) (alone c l (line_of c b j)) (sure_in_first kind fetched c first b j)

-- the category at a place of a row
abbrev pub place_at : List (List Category) → ℕ → ℕ → Category
place_at table row place = slice_index_or (slice_index_or table row []) place AlwaysMiss

-- the table with this category there
abbrev pub stored : List (List Category) → ℕ → ℕ → Category → List (List Category)
stored table row place category = slice_set table row (slice_set (slice_index_or table row []) place category)

-- These rows have their categories at this place, and every other place of the table is as it was.
pub record Filled (before after : List (List Category)) (row count place : ℕ) (category : ℕ → Category) : Type 0 where
  pub here : (j : ℕ) → j < count → place_at after (row + j) place ≡ category j
  pub elsewhere : (r p : ℕ) → (r < row) ⊎ ((row + count ≤ r) ⊎ (p ≢ place)) → place_at after r p ≡ place_at before r p

-- the settled states of the whole task, of the first round of loop i, and of passed blocks
abbrev pub whole_states : {K : Type 0} → (Geometry → Kind K) → Contents → List K
whole_states kind c = (task_states (kind c.header.geometry) c).0

abbrev pub round_states : {K : Type 0} → (Geometry → Kind K) → Contents → ℕ → List K
round_states kind c i = (first_states (kind c.header.geometry) c (loop_at (all_loops c) i)).0

abbrev pub passed_states : Contents → List PassedBlocks
passed_states c = (task_states (passed_kind (length c.blocks)) c).0

-- The list has a place for each block, and these states there.
pub record Settled {K : Type 0} (c : Contents) (states settled : List K) : Type 0 where
  pub room : length c.blocks ≤ length states
  pub front : take (length c.blocks) states ≡ settled

-- the table has the marks at each loop of a lower number than i, and at loop i those of the blocks below b
abbrev pub MarkedTo : Contents → Marks → ℕ → ℕ → List (List Category) → Type 0
MarkedTo c marks i b table =
    (d j m : ℕ) → d < length c.blocks → j < fetches_of c d → m < length (all_loops c) → Within (loop_at (all_loops c) m) d
    → (m < i) ⊎ ((m ≡ i) × (d < b)) → mark_at c table d j m ≡ marks d j m
