-- What the parts of a bench answer.
use Rattle.std.specs.Prelude.{◌≡◌, ℕ, Ok, Err, Result}
use Rattle.records.specs.Contents.{Contents}
use Rattle.task.specs.View.{task_contents}
use Rattle.task.specs.Graph.{Leads}
use Rattle.run.specs.Run.{entered}
use Rattle.run.specs.Open.{run_of, Spent}
use Rattle.run.specs.declared.StepFault.{StepFault}
use Rattle.run.specs.declared.StepFault.TheVariants.{NoEdge, LimitSpent}
use Rattle.categories.specs.declared.category.Category.{Category}
use Rattle.examine.specs.Findings.{Findings, shown}
use Rattle.calls.specs.declared.fault.BenchFault.{BenchFault}
use Rattle.calls.specs.declared.refusal.Refusal.{Refusal}
use Rattle.calls.specs.declared.refusal.Refusal.TheVariants.{Bench}
use Rattle.calls.specs.Answers.{category_answer}
use Rattle.calls.specs.Outcomes.{Free}
use Rattle.calls.specs.View.{walking}
use Rattle.bench.specs.declared.stage.WalkedTask.{WalkedTask}
use Rattle.bench.specs.View.{walk_view}

-- the answer as a refusal of the bench
abbrev pub as_refusal : {A : Type 0} → Result A BenchFault → Result A Refusal
as_refusal (Ok x) = Ok x
as_refusal (Err f) = Err (Bench f)

abbrev pub Asked : Contents → Findings → ℕ → ℕ → ℕ → Result Category BenchFault → Type 0
Asked c f b j l r = as_refusal r ≡ category_answer c f b j l

-- the open walk enters block b, or the walk may not go on there
abbrev pub Onward : ℕ → WalkedTask → Result Unit StepFault → WalkedTask → Type 0
Onward b x (Ok u) y =
    let c = task_contents x.examined.task in
    Free c (run_of x.walk) b × (walk_view y ≡ walking c (shown c x.examined.found) (entered c b (run_of x.walk)))
Onward b x (Err (NoEdge n)) y = (n ≡ b) × (Leads (task_contents x.examined.task).edges x.walk.block b → ⊥)
Onward b x (Err (LimitSpent n)) y =
    (n ≡ b) × Leads (task_contents x.examined.task).edges x.walk.block b × Spent (task_contents x.examined.task) (run_of x.walk) b
