-- What a bench holds.
use Rattle.task.specs.View.{task_contents}
use Rattle.run.specs.Open.{run_of}
use Rattle.examine.specs.Findings.{shown}
use Rattle.calls.specs.View.{View, unused, loaded, examined, walking}
use Rattle.bench.specs.declared.bench.Bench.{Bench}
use Rattle.bench.specs.declared.stage.Stage.{Stage}
use Rattle.bench.specs.declared.stage.WalkedTask.{WalkedTask}
use Rattle.bench.specs.declared.stage.Stage.TheVariants.{Unused, Loaded, Examined, Walking}

-- a bench that walks
abbrev pub walk_view : WalkedTask → View
walk_view w =
    walking (task_contents w.examined.task) (shown (task_contents w.examined.task) w.examined.found) (run_of w.walk)

abbrev pub stage_view : Stage → View
stage_view Unused = unused
stage_view (Loaded t) = loaded (task_contents t)
stage_view (Examined e) = examined (task_contents e.task) (shown (task_contents e.task) e.found)
stage_view (Walking w) = walk_view w

abbrev pub view : Bench → View
view b = stage_view b.stage
