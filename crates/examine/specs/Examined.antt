-- What an examination finds of a task, what that is worth, and what it leaves in the working list.
use Rattle.std.specs.Prelude.{◌≡◌, ℕ, ◌+◌, ◌*◌, ◌<◌, ◌≤◌, List, length, Ok, Err, vec_items, Result}
use Rattle.records.specs.declared.parts.Geometry.{Geometry}
use Rattle.records.specs.Contents.{Contents}
use Rattle.task.specs.Graph.{total_fetches}
use Rattle.facts.specs.Kind.{Kind}
use Rattle.facts.specs.Settling.{task_states}
use Rattle.passed_kind.specs.Passed.{passed_kind}
use Rattle.longest.specs.Charge.{Greatest}
use Rattle.categories.specs.Category.{passed_by}
use Rattle.categories.specs.Costs.{cycle_costs, pair_costs, cycle_tally, pair_tally}
use Rattle.categories.specs.Meaning.{Means, KeptAlways, CoveredAlways}
use Rattle.marks.specs.Table.{Agrees}
use Rattle.marks.specs.Marked.{task_marks}
use Rattle.figure.specs.Figure.{Found}
use Rattle.examine.specs.declared.examination.Examination.{Examination}
use Rattle.examine.specs.declared.examination.ExamineError.{ExamineError}
use Rattle.examine.specs.declared.examination.ExamineError.TheVariants.{TooShort, NoMemory}
use Rattle.examine.specs.Findings.{findings, shown}

module _ {K : Type 0} (kind : Geometry → Kind K) (fetched : Geometry → ℕ → K → K) (c : Contents) where
  -- the kind at the task's geometry
  abbrev pub kind_here : Kind K
  kind_here = kind c.header.geometry

  -- What is found: the passes of settling, the category of every fetch at every level, and the figures by these categories.
  pub record Finds (e : Examination) : Type 0 where
    pub passes : e.passes ≡ (task_states kind_here c).1
    pub few : e.passes ≤ length c.blocks * kind_here.height + 1
    pub rows : length (vec_items e.table) ≡ total_fetches c.blocks
    pub marks : Agrees c (vec_items e.table) (task_marks kind fetched c)
    pub cycles : Found cycle_tally (cycle_costs c (task_marks kind fetched c)) c e.figures.cycles
    pub greatest : Found pair_tally (pair_costs c (task_marks kind fetched c)) c e.figures.greatest

  -- What the findings are worth: few passes settle the task, the categories mean what they say, every walk keeps them and is
  -- charged for all that it runs, and the figures are the greatest charges of the walks within the limits.
  pub record Warranted : Type 0 where
    pub few : (findings kind fetched c).passes ≤ length c.blocks * kind_here.height + 1
    pub means : Means kind_here (fetched c.header.geometry) c (passed_by (passed_kind (length c.blocks)) c)
    pub kept : KeptAlways c (task_marks kind fetched c)
    pub covered : CoveredAlways c (task_marks kind fetched c)
    pub figure : Greatest cycle_tally (cycle_costs c (task_marks kind fetched c)) c (findings kind fetched c).figure
    pub greatest : Greatest pair_tally (pair_costs c (task_marks kind fetched c)) c (findings kind fetched c).greatest

  -- What an examination answers: all that is found of the task, the same as one value, and what that is worth.
  pub record Accepted (e : Examination) : Type 0 where
    pub finds : Finds e
    pub shows : shown c e ≡ findings kind fetched c
    pub worth : Warranted

  -- The outcome, with the working list before and after: after an acceptance it may hold anything, after a refusal it is as it was.
  abbrev pub Examined : List K → Result Examination ExamineError → List K → Type 0
  Examined before (Ok e) after = (2 * length c.blocks ≤ length before) × Accepted e
  Examined before (Err (TooShort n)) after = (n ≡ 2 * length c.blocks) × (length before < n) × (after ≡ before)
  Examined before (Err NoMemory) after = (2 * length c.blocks ≤ length before) × (after ≡ before)
