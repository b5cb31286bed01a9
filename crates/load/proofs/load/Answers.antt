use Rattle.std.proofs.Common.{Ok, Err, Result, sym, ap, ◌∙◌, subst}
use Rattle.std.proofs.lemmas.Result.{err_from_is_err_and}
use Rattle.records.specs.declared.Record.{Record}
use Rattle.records.specs.View.{contents}
use Rattle.records.specs.Layout.{record_text}
use Rattle.task.specs.declared.Task.{Task}
use Rattle.load.specs.declared.refusal.Refusal.{Refusal}
use Rattle.load.specs.Loading.{Loading}
use Rattle.load.proofs.Once.{carried_on, promised}
use Rattle.load.proofs.load.Goals as goal

pub returns-in_err-record : goal.returns-in_err-record
returns-in_err-record c =
    let t = c.args.bytes.now in
    let p = err_from_is_err_and c.from_residual.result c.from_residual.ensures.1 in
    promised t c.from_residual.result
    (subst (λ (r : Result Task Refusal). Loading t r) (sym (p.1 ∙ ap Err p.2)) (carried_on t _ c.in_err-record.ensures))

pub returns-in_err-new : goal.returns-in_err-new
returns-in_err-new c =
    let t = c.args.bytes.now in
    let p = err_from_is_err_and c.from_residual-in_err-new.result c.from_residual-in_err-new.ensures.1 in
    let r : Record = c.in_ok-record.record in
    promised t c.from_residual-in_err-new.result
    (subst (λ (r : Result Task Refusal). Loading t r) (sym (p.1 ∙ ap Err p.2))
    (contents r, r.ranges, c.in_ok-record.ensures.1, c.in_err-new.ensures.outcome))

pub returns : goal.returns
returns c =
    promised c.args.bytes.now (Ok c.in_ok-new.field-0)
    (c.in_ok-record.ensures.1
    ∙ ap (λ (r : Record). record_text (contents r)) (sym c.in_ok-new.ensures.outcome))
