use Rattle.std.proofs.Common.{Ok, Err, refl, ap, ◌∙◌}
use Rattle.std.proofs.lemmas.Result.{err_from_is_err_and}
use Rattle.task.specs.View.{task_contents}
use Rattle.examine.specs.Findings.{shown}
use Rattle.bench.specs.View.{view}
use Rattle.bench.proofs.Questions.{ask_done}
use Rattle.bench.proofs.bench.Bench.ask.Goals as goal

pub returns-in_err-category : goal.returns-in_err-category
returns-in_err-category c =
    let p = err_from_is_err_and c.from_residual-in_err-category.result c.from_residual-in_err-category.ensures.1 in
    let x = c.examined.result.now in
    let t = task_contents x.task in
    ask_done (view c.args.self.now) c.args.block c.args.fetch c.args.level t (shown t x.found) (Err c.in_err-category.field-0.0) c.from_residual-in_err-category.result c.in_ok-admit.field-0
    c.examined.ensures.task c.examined.ensures.found c.in_ok-admit.ensures (p.1 ∙ ap Err p.2) c.in_err-category.ensures

pub returns : goal.returns
returns c =
    let x = c.examined.result.now in
    let t = task_contents x.task in
    ask_done (view c.args.self.now) c.args.block c.args.fetch c.args.level t (shown t x.found) (Ok c.in_ok-category.field-0) (Ok c.in_ok-category.field-0) c.in_ok-admit.field-0
    c.examined.ensures.task c.examined.ensures.found c.in_ok-admit.ensures refl c.in_ok-category.ensures
