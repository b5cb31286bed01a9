-- The figures of a task.
use Rattle.std.specs.Prelude.{◌≡◌, List, length, Ok, Err, Result}
use Rattle.records.specs.Contents.{Contents}
use Rattle.task.specs.Graph.{total_fetches}
use Rattle.tally.specs.Laws.{Ops}
use Rattle.longest.specs.Charge.{Costs, Greatest}
use Rattle.longest.specs.Search.{figure_of}
use Rattle.categories.specs.declared.category.Category.{Category}
use Rattle.categories.specs.Costs.{cycle_costs, pair_costs, cycle_tally, pair_tally}
use Rattle.marks.specs.Table.{mark_at}
use Rattle.figure.specs.declared.outcome.Figures.{Figures}
use Rattle.figure.specs.declared.outcome.FigureError.{FigureError}
use Rattle.figure.specs.declared.outcome.FigureError.TheVariants.{TableLength, NoMemory}

-- what the search finds: the greatest charge of the walks within the limits
pub record Found {T : Type 0} (m : Ops T) (costs : Costs T) (c : Contents) (t : T) : Type 0 where
  pub figure : t ≡ figure_of m costs c
  pub greatest : Greatest m costs c t

-- the table has a row for each fetch
abbrev pub RowForEach : Contents → List (List Category) → Type 0
RowForEach c table = length table ≡ total_fetches c.blocks

-- both figures, by the categories in the table
pub record FiguresBy (c : Contents) (table : List (List Category)) (f : Figures) : Type 0 where
  pub rows : RowForEach c table
  pub cycles : Found cycle_tally (cycle_costs c (mark_at c table)) c f.cycles
  pub greatest : Found pair_tally (pair_costs c (mark_at c table)) c f.greatest

-- the figures of a task by a table, or why there are none
abbrev pub FiguresOf : Contents → List (List Category) → Result Figures FigureError → Type 0
FiguresOf c table (Ok f) = FiguresBy c table f
FiguresOf c table (Err TableLength) = RowForEach c table → ⊥
FiguresOf c table (Err NoMemory) = RowForEach c table
