use Rattle.std.proofs.Common.{Ok, Err, ap, ◌∙◌}
use Rattle.std.proofs.lemmas.Result.{err_from_is_err_and}
use Rattle.records.specs.Layout.{record_text}
use Rattle.task.specs.View.{task_contents}
use Rattle.bench.specs.View.{view}
use Rattle.bench.proofs.Questions.{delivered, write_done}
use Rattle.bench.proofs.bench.Bench.write.Goals as goal

pub returns-in_err-write : goal.returns-in_err-write
returns-in_err-write c =
    let p = err_from_is_err_and c.from_residual-in_err-write.result c.from_residual-in_err-write.ensures.1 in
    let t = task_contents c.task.result.now in
    write_done (view c.args.self.now) c.args.out.now c.write.new.out c.from_residual-in_err-write.result c.in_ok-admit.field-0 t c.task.ensures c.in_ok-admit.ensures
    (delivered (record_text t) c.args.out.now c.write.new.out c.from_residual-in_err-write.result c.in_err-write.field-0.0 (p.1 ∙ ap Err p.2) c.in_err-write.ensures)

pub returns : goal.returns
returns c =
    write_done (view c.args.self.now) c.args.out.now c.write.new.out (Ok c.in_ok-write.field-0) c.in_ok-admit.field-0 (task_contents c.task.result.now) c.task.ensures
    c.in_ok-admit.ensures c.in_ok-write.ensures
