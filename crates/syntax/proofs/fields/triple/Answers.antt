use Rattle.syntax.proofs.Listed.{no_others, halves}
use Rattle.syntax.proofs.fields.triple.Goals as goal

pub returns-in_err-first : goal.returns-in_err-first
returns-in_err-first c = rw c.from_residual.ensures (λ fs n e. no_others 1 c.args.body.now fs c.in_err-first.ensures n e)

pub returns-in_err-a : goal.returns-in_err-a
returns-in_err-a c = rw c.from_residual-in_err-a.ensures (λ fs n e.
    let h = halves 1 c.args.body.now _ _ fs c.in_ok-first.ensures n e in
    c.in_err-a.ensures h.first h.one h.before)

pub returns-in_err-b : goal.returns-in_err-b
returns-in_err-b c = rw c.from_residual-in_err-b.ensures (λ fs n e.
    let h = halves 1 c.args.body.now _ _ fs c.in_ok-first.ensures n e in
    c.in_err-b.ensures h.others h.more h.after)
