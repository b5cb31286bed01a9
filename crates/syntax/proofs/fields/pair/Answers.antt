use Rattle.syntax.proofs.Listed.{no_others, halves}
use Rattle.syntax.proofs.fields.pair.Goals as goal

pub returns-in_err-first : goal.returns-in_err-first
returns-in_err-first c = rw c.from_residual.ensures (λ fs n e. no_others 0 c.args.body.now fs c.in_err-first.ensures n e)

pub returns-in_err-number : goal.returns-in_err-number
returns-in_err-number c = rw c.from_residual-in_err-number.ensures (λ fs n e.
    let h = halves 0 c.args.body.now _ _ fs c.in_ok-first.ensures n e in
    c.in_err-number.ensures h.first h.one h.before)

pub returns-in_err-number-2 : goal.returns-in_err-number-2
returns-in_err-number-2 c = rw c.from_residual-in_err-number-2.ensures (λ fs n e.
    let h = halves 0 c.args.body.now _ _ fs c.in_ok-first.ensures n e in
    c.in_err-number-2.ensures h.others h.more h.after)
