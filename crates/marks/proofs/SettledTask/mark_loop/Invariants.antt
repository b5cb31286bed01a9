use Rattle.task.specs.View.{task_contents}
use Rattle.marks.specs.Marked.{task_marks}
use Rattle.marks.specs.Steps.{MarkedTo}
use Rattle.marks.proofs.SettledTask.mark_loop.Given as goal

abbrev pub invariant-loop-b : goal.invariant-loop-b
invariant-loop-b g l = MarkedTo (task_contents l.self.task.now) (task_marks g.K.Facts.kind g.K.CacheState.fetched (task_contents l.self.task.now)) l.number l.b l.table
