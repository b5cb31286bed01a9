-- What marking a task answers, and what it leaves in the lent lists.
use Rattle.std.specs.Prelude.{◌≡◌, ℕ, ◌*◌, ◌≤◌, List, length, Some, None, Option}
use Rattle.records.specs.declared.parts.Geometry.{Geometry}
use Rattle.records.specs.Contents.{Contents}
use Rattle.task.specs.Graph.{total_fetches}
use Rattle.facts.specs.Kind.{Kind}
use Rattle.facts.specs.Settling.{task_states}
use Rattle.passed_kind.specs.declared.PassedBlocks.{PassedBlocks}
use Rattle.passed_kind.specs.Passed.{passed_kind}
use Rattle.categories.specs.declared.category.Category.{Category}
use Rattle.categories.specs.Category.{Marks, marks_of, passed_by}
use Rattle.marks.specs.Table.{Agrees}

-- the marks of a task's fetches, by a kind of cache state at the task's geometry
abbrev pub task_marks : {K : Type 0} → (Geometry → Kind K) → (Geometry → ℕ → K → K) → Contents → Marks
task_marks kind fetched c =
    marks_of (kind c.header.geometry) (fetched c.header.geometry) c (passed_by (passed_kind (length c.blocks)) c)

-- What marking works on: room for two states of each block, for the blocks passed before each, and for a row of each fetch.
pub record Lent (K : Type 0) : Type 0 where
  pub states : List K
  pub passed : List PassedBlocks
  pub table : List (List Category)

abbrev pub lent : {K : Type 0} → List K → List PassedBlocks → List (List Category) → Lent K
lent states passed table = record { states = states; passed = passed; table = table }

-- Lists of these lengths have room for the states, and just a row for each fetch.
pub record Fitting (c : Contents) (states passed rows : ℕ) : Type 0 where
  pub whole_and_round : 2 * length c.blocks ≤ states
  pub walks : length c.blocks ≤ passed
  pub fetches : rows ≡ total_fetches c.blocks

-- these lists do
abbrev pub Fits : {K : Type 0} → Contents → Lent K → Type 0
Fits c l = Fitting c (length l.states) (length l.passed) (length l.table)

-- The passes of the kind over the whole task, and every mark in the table; the states, the passed blocks and the places of a
-- row past its block's levels may then hold anything. Or, where the lists do not fit, nothing is changed.
abbrev pub Marked : {K : Type 0} → (Geometry → Kind K) → (Geometry → ℕ → K → K) → Contents → Lent K → Option ℕ → Lent K → Type 0
Marked kind fetched c before (Some n) after =
    Fits c before × (n ≡ (task_states (kind c.header.geometry) c).1) × Agrees c after.table (task_marks kind fetched c)
Marked kind fetched c before None after = (Fits c before → ⊥) × (after ≡ before)
