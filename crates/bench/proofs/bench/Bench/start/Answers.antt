use Rattle.std.proofs.Common.{sym, ◌∙◌}
use Rattle.task.specs.View.{task_contents}
use Rattle.run.specs.Open.{run_of}
use Rattle.examine.specs.Findings.{shown}
use Rattle.bench.specs.View.{view}
use Rattle.bench.proofs.Changes.{opened, start_done}
use Rattle.bench.proofs.bench.Bench.start.Goals as goal

pub invariant_of-walked : goal.invariant_of-walked
invariant_of-walked c =
    let x = c.take_examined-examined.result in
    record {
      «open» = opened (task_contents c.task-task.result.now) (task_contents x.task) (run_of c.in_ok-walk.walk) c.args.cache.now (c.task-task.ensures ∙ sym c.take_examined-examined.ensures.task)
          x.task.«record».ranges c.in_ok-walk.ensures c.if-cache-slots.false;
    }

pub returns-clause-outcome : goal.returns-clause-outcome
returns-clause-outcome c =
    let x = c.take_examined-examined.result in
    start_done c.args.cache.now (view c.args.self.now) (task_contents c.task-task.result.now) (task_contents x.task) (shown (task_contents x.task) x.found) (run_of c.in_ok-walk.walk)
    c.in_ok-admit.field-0 c.task-task.ensures c.take_examined-examined.ensures.task c.take_examined-examined.ensures.found c.in_ok-admit.ensures c.if-cache-slots.false c.in_ok-walk.ensures
