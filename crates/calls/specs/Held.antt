-- What a bench keeps true of its findings and of its open walk.
use Rattle.std.specs.Prelude.{◌≡◌, ℕ, List, ◌∷◌, length}
use Rattle.records.specs.Contents.{Contents}
use Rattle.walks.specs.Walk.{Walk, all_loops, Limited}
use Rattle.cache_state.specs.Cache.{Cache}
use Rattle.run.specs.Run.{Run, run_along}
use Rattle.longest.specs.Charge.{Greatest}
use Rattle.categories.specs.Category.{Marks}
use Rattle.categories.specs.Costs.{cycle_costs, cycle_tally}
use Rattle.categories.specs.Meaning.{CoveredAlways}
use Rattle.examine.specs.Findings.{Findings}

-- The figure is the greatest charge by marks whose charge covers every run.
abbrev pub Backed : Contents → Findings → Type 0
Backed c f = (marks : Marks) × CoveredAlways c marks × Greatest cycle_tally (cycle_costs c marks) c f.figure

-- The run is that of a walk within the limits, from this starting cache, which has left the blocks w behind it, the latest first.
pub record Along (c : Contents) (s : Cache) (w : List ℕ) (r : Run) : Type 0 where
  pub slots : length s ≡ c.header.geometry.slots
  pub walk : Walk c.edges 0 w r.block
  pub limited : Limited (all_loops c) (r.block ∷ w)
  pub run : r ≡ run_along c s (r.block ∷ w)

-- the run is that of some walk within the limits
abbrev pub Open : Contents → Run → Type 0
Open c r = (s : Cache) × (w : List ℕ) × Along c s w r
