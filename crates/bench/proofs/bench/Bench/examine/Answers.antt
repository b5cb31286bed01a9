use Rattle.std.proofs.Common.{Err, sym, refl, ap, ◌∙◌}
use Rattle.std.proofs.lemmas.Result.{err_from_is_err_and}
use Rattle.task.specs.View.{task_contents}
use Rattle.bench.specs.View.{view}
use Rattle.bench.proofs.Admits.{refusal_keeps}
use Rattle.bench.proofs.Changes.{backed, examine_refused, examine_done}
use Rattle.bench.proofs.bench.Bench.examine.Goals as goal

pub returns-in_err-found : goal.returns-in_err-found
returns-in_err-found g c =
    let p = err_from_is_err_and c.from_residual-in_err-found.result c.from_residual-in_err-found.ensures.1 in
    let is = p.1 ∙ ap Err p.2 in
    record {
      outcome = examine_refused g.K.Facts.kind g.K.CacheState.fetched c.args.work.now c.examine.new.work (view c.args.self.now) (task_contents c.task.result.now) c.from_residual-in_err-found.result
          c.in_err-found.field-0.0 c.in_ok-admit.field-0 c.task.ensures c.in_ok-admit.ensures is c.in_err-found.ensures;
      same = refusal_keeps c.from_residual-in_err-found.result _ _ is refl;
    }

pub invariant_of-examined : goal.invariant_of-examined
invariant_of-examined g c = record {
  backed = backed g.K.Facts.kind g.K.CacheState.fetched c.args.work.now c.examine.new.work (task_contents c.task.result.now) (task_contents c.take_task-task.result) c.in_ok-found.found
      (c.task.ensures ∙ sym c.take_task-task.ensures.task) c.in_ok-found.ensures;
}

pub returns-clause-outcome : goal.returns-clause-outcome
returns-clause-outcome g c =
    examine_done g.K.Facts.kind g.K.CacheState.fetched c.args.work.now c.examine.new.work (view c.args.self.now) (task_contents c.task.result.now) (task_contents c.take_task-task.result)
    c.in_ok-found.found c.in_ok-admit.field-0 c.task.ensures c.take_task-task.ensures.task c.in_ok-admit.ensures c.in_ok-found.ensures
