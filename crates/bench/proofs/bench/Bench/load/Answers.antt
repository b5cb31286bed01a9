use Rattle.std.proofs.Common.{Err, refl, ap, ◌∙◌}
use Rattle.std.proofs.lemmas.Result.{err_from_is_err_and}
use Rattle.bench.specs.View.{view}
use Rattle.bench.proofs.Admits.{refusal_keeps}
use Rattle.bench.proofs.Changes.{load_stopped, load_refused, load_done}
use Rattle.bench.proofs.bench.Bench.load.Goals as goal

pub returns-in_err-admit : goal.returns-in_err-admit
returns-in_err-admit c =
    let p = err_from_is_err_and c.from_residual.result c.from_residual.ensures.1 in
    let is = p.1 ∙ ap Err p.2 in
    record {
      outcome = load_stopped c.args.text.now (view c.args.self.now) c.from_residual.result c.in_err-admit.field-0.0 c.in_err-admit.ensures is;
      same = refusal_keeps c.from_residual.result _ _ is refl;
    }

pub returns-in_err-task : goal.returns-in_err-task
returns-in_err-task c =
    let p = err_from_is_err_and c.from_residual-in_err-task.result c.from_residual-in_err-task.ensures.1 in
    let is = p.1 ∙ ap Err p.2 in
    record {
      outcome = load_refused c.args.text.now (view c.args.self.now) c.from_residual-in_err-task.result c.in_err-task.field-0.0 c.in_ok-admit.field-0 c.in_ok-admit.ensures is
          c.in_err-task.ensures.outcome;
      same = refusal_keeps c.from_residual-in_err-task.result _ _ is refl;
    }

pub returns : goal.returns
returns c = record {
  outcome = load_done c.args.text.now (view c.args.self.now) _ c.in_ok-task.task c.in_ok-admit.field-0 c.in_ok-admit.ensures refl
      c.in_ok-task.ensures.outcome;
  same = tt;
}
