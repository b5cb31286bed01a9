use Rattle.std.proofs.Common.{arith}
use Rattle.task.specs.View.{task_contents}
use Rattle.marks.specs.Marked.{task_marks}
use Rattle.marks.proofs.Progress.{marked_none, marked_all}
use Rattle.marks.proofs.SettledTask.mark_loops.Goals as goal

pub loop-number-init : goal.loop-number-init
loop-number-init g c =
    let t = task_contents c.args.self.now.task.now in
    marked_none t (task_marks g.K.Facts.kind g.K.CacheState.fetched t) c.args.table.now

pub mark_loop-requires : goal.mark_loop-requires
mark_loop-requires g c = record {
  number = omega arith;
  rows = omega arith;
  round = c.settle_first.ensures;
  before = c.loop-number.invariant;
}

pub returns : goal.returns
returns g c =
    let t = task_contents c.args.self.now.task.now in
    marked_all t (task_marks g.K.Facts.kind g.K.CacheState.fetched t) c.loop-number.table c.loop-number.number (omega arith) c.loop-number.invariant
