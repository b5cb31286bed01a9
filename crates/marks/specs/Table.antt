-- The table of a task's categories: a row for each fetch, block by block, and in it a category for each level of its block,
-- innermost first.
use Rattle.std.specs.Prelude.{◌≡◌, ℕ, suc, ◌+◌, ◌<◌, List, [], length, take, drop, slice_index_or}
use Rattle.records.specs.Contents.{Contents}
use Rattle.task.specs.Graph.{loop_at, Within, around, total_fetches}
use Rattle.walks.specs.Walk.{all_loops}
use Rattle.categories.specs.declared.category.Category.{Category}
use Rattle.categories.specs.declared.category.Category.TheVariants.{AlwaysMiss}
use Rattle.categories.specs.Category.{fetches_of, Marks}

-- the row of fetch j of block b
abbrev pub row_of : Contents → ℕ → ℕ → ℕ
row_of c b j = total_fetches (take b c.blocks) + j

-- the level of loop i at block b: how many loops around the block have a higher number
abbrev pub level_of : Contents → ℕ → ℕ → ℕ
level_of c b i = length (around (drop (suc i) (all_loops c)) b)

-- the category in the table
abbrev pub mark_at : Contents → List (List Category) → Marks
mark_at c table b j i = slice_index_or (slice_index_or table (row_of c b j) []) (level_of c b i) AlwaysMiss

-- the table has these marks, at each loop around each fetch's block
abbrev pub Agrees : Contents → List (List Category) → Marks → Type 0
Agrees c table marks =
    (b j i : ℕ) → b < length c.blocks → j < fetches_of c b → i < length (all_loops c) → Within (loop_at (all_loops c) i) b
    → mark_at c table b j i ≡ marks b j i
