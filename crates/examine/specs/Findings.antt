-- What an examination finds, by definition.
use Rattle.std.specs.Prelude.{ℕ, List, [], map, length, get_or, vec_items, slice_index_or}
use Rattle.std.specs.List.{range_with_len}
use Rattle.records.specs.declared.parts.Geometry.{Geometry}
use Rattle.records.specs.Contents.{Contents}
use Rattle.facts.specs.Kind.{Kind}
use Rattle.facts.specs.Settling.{task_states}
use Rattle.tally.specs.Kinds.{Pair}
use Rattle.longest.specs.Search.{figure_of}
use Rattle.categories.specs.declared.category.Category.{Category}
use Rattle.categories.specs.declared.category.Category.TheVariants.{AlwaysMiss}
use Rattle.categories.specs.Category.{fetches_of, levels_of}
use Rattle.categories.specs.Costs.{cycle_costs, pair_costs, cycle_tally, pair_tally}
use Rattle.marks.specs.Table.{row_of}
use Rattle.marks.specs.Marked.{task_marks}
use Rattle.examine.specs.declared.examination.Examination.{Examination}

pub record Findings : Type 0 where
  -- the passes that settling the whole task takes
  pub passes : ℕ
  -- the worst case in cycles
  pub figure : ℕ
  -- the greatest pair of charged misses and fetches
  pub greatest : Pair
  -- by block and by fetch, the category at each level, innermost first
  pub categories : List (List (List Category))

-- something of each fetch of each block
abbrev pub each_fetch : {X : Type 0} → Contents → (ℕ → ℕ → X) → List (List X)
each_fetch c f = map (λ b. map (f b) (range_with_len 0 (fetches_of c b))) (range_with_len 0 (length c.blocks))

-- what is found of a task with a kind of cache state
abbrev pub findings : {K : Type 0} → (Geometry → Kind K) → (Geometry → ℕ → K → K) → Contents → Findings
findings kind fetched c =
    let marks = task_marks kind fetched c in
    record {
      passes = (task_states (kind c.header.geometry) c).1;
      figure = figure_of cycle_tally (cycle_costs c marks) c;
      greatest = figure_of pair_tally (pair_costs c marks) c;
      categories = each_fetch c (λ b j. map (marks b j) (levels_of c b));
    }

-- what stands in the row of a fetch, at as many places as its block has levels
abbrev pub row_shown : Contents → List (List Category) → ℕ → ℕ → List Category
row_shown c table b j = map (λ k. get_or (slice_index_or table (row_of c b j) []) k AlwaysMiss) (range_with_len 0 (length (levels_of c b)))

-- what the value that an examination answers says of its task
abbrev pub shown : Contents → Examination → Findings
shown c e = record {
  passes = e.passes;
  figure = e.figures.cycles;
  greatest = e.figures.greatest;
  categories = each_fetch c (row_shown c (vec_items e.table));
}

-- the category found for fetch j of block b at level l
abbrev pub category_at : Findings → ℕ → ℕ → ℕ → Category
category_at f b j l = slice_index_or (slice_index_or (slice_index_or f.categories b []) j []) l AlwaysMiss
