use Rattle.std.proofs.Common.{Err, sym, ap, ◌∙◌}
use Rattle.std.proofs.lemmas.Result.{err_from_is_err_and}
use Rattle.bench.specs.declared.stage.Stage.TheVariants.{Walking}
use Rattle.bench.specs.View.{view, stage_view}
use Rattle.bench.proofs.Admits.{refusal_keeps}
use Rattle.bench.proofs.Changes.{step_refused}
use Rattle.bench.proofs.bench.Bench.step.Goals as goal

pub returns-in_err-step : goal.returns-in_err-step
returns-in_err-step c =
    let p = err_from_is_err_and c.from_residual-in_err-step.result c.from_residual-in_err-step.ensures.1 in
    let is = p.1 ∙ ap Err p.2 in
    let same = c.in_err-step.ensures.same in
    record {
      outcome = step_refused c.args.block (view c.args.self.now) c.in-Walking.walked c.step.new.self c.from_residual-in_err-step.result c.in_err-step.field-0.0
          (ap stage_view c.in-Walking.is) same is c.in_err-step.ensures.outcome;
      same = refusal_keeps c.from_residual-in_err-step.result _ _ is (ap (λ s. record { heap = c.args.self.now.heap; stage = s }) (ap Walking same ∙ sym c.in-Walking.is));
    }
