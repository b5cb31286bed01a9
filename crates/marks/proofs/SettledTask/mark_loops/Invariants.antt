use Rattle.task.specs.View.{task_contents}
use Rattle.marks.specs.Marked.{task_marks}
use Rattle.marks.specs.Steps.{MarkedTo}
use Rattle.marks.proofs.SettledTask.mark_loops.Given as goal

abbrev pub invariant-loop-number : goal.invariant-loop-number
invariant-loop-number g l = MarkedTo (task_contents l.self.task.now) (task_marks g.K.Facts.kind g.K.CacheState.fetched (task_contents l.self.task.now)) l.number 0 l.table
