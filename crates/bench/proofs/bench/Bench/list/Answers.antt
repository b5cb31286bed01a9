use Rattle.std.proofs.Common.{Ok, Err, refl, ap, ◌∙◌, arith}
use Rattle.std.proofs.lemmas.Result.{err_from_is_err_and}
use Rattle.task.specs.View.{task_contents}
use Rattle.examine.specs.Findings.{shown}
use Rattle.listing.specs.Text.{block_text}
use Rattle.bench.specs.View.{view}
use Rattle.bench.proofs.Questions.{delivered, list_done, list_none}
use Rattle.bench.proofs.bench.Bench.list.Goals as goal

pub returns-then-block-len : goal.returns-then-block-len
returns-then-block-len c =
    list_none (view c.args.self.now) c.args.out.now c.args.out.now _ c.in_ok-admit.field-0 c.args.block (task_contents c.examined-examined.result.now.task) c.examined-examined.ensures.task
    c.in_ok-admit.ensures (omega arith) refl refl

pub returns-in_err-list : goal.returns-in_err-list
returns-in_err-list c =
    let p = err_from_is_err_and c.from_residual-in_err-list.result c.from_residual-in_err-list.ensures.1 in
    let x = c.examined-examined.result.now in
    let t = task_contents x.task in
    list_done (view c.args.self.now) c.args.out.now c.list.new.out c.from_residual-in_err-list.result c.in_ok-admit.field-0 c.args.block t (shown t x.found) c.examined-examined.ensures.task
    c.examined-examined.ensures.found c.in_ok-admit.ensures (omega arith)
    (delivered (block_text t (shown t x.found) c.args.block) c.args.out.now c.list.new.out c.from_residual-in_err-list.result c.in_err-list.field-0.0 (p.1 ∙ ap Err p.2) c.in_err-list.ensures)

pub returns : goal.returns
returns c =
    let x = c.examined-examined.result.now in
    let t = task_contents x.task in
    list_done (view c.args.self.now) c.args.out.now c.list.new.out (Ok c.in_ok-list.field-0) c.in_ok-admit.field-0 c.args.block t (shown t x.found) c.examined-examined.ensures.task
    c.examined-examined.ensures.found c.in_ok-admit.ensures (omega arith) c.in_ok-list.ensures
