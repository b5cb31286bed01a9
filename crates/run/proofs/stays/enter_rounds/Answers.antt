use Rattle.std.proofs.Common.{refl, arith}
use Rattle.task.specs.View.{task_contents}
use Rattle.walks.specs.Walk.{all_loops}
use Rattle.run.proofs.Counting.{counted_next, counted-all}
use Rattle.run.proofs.stays.enter_rounds.Goals as goal

pub loop-i-preserved : goal.loop-i-preserved
loop-i-preserved c long free =
    counted_next c.args.b (all_loops (task_contents c.args.task.now)) c.args.rounds.now c.loop-i.i c.next_rounds.result _ c.loop-i.rounds c.loop_at.result
    (c.loop-i.invariant long free) (omega arith) (omega arith) free c.loop_at.ensures.range refl c.next_rounds.ensures

pub returns : goal.returns
returns c long free =
    counted-all c.args.b (all_loops (task_contents c.args.task.now)) c.args.rounds.now c.loop-i.i c.loop-i.rounds long c.loop-i.auto.rounds (omega arith)
    (c.loop-i.invariant long free)
