use Rattle.std.proofs.Common.{inl, inr, arith}
use Rattle.std.proofs.lemmas.Result.{err_from_is_err_and}
use Rattle.reader.proofs.header.Goals as goal

pub returns-in_err-hit : goal.returns-in_err-hit
returns-in_err-hit c =
    let p = err_from_is_err_and c.from_residual-in_err-hit.result c.from_residual-in_err-hit.ensures.1 in
    let a = c.in_ok-line.ensures in
    let b = c.in_ok-slots.ensures in
    let z = c.in_err-hit.ensures in
    rw (p.1, p.2) (λ k. inr (_, _, a.0, a.1, inr (_, _, b.0, b.1, inl (omega (arith, a.2, b.2, z.0), z.1))))

pub returns-in_err-penalty : goal.returns-in_err-penalty
returns-in_err-penalty c =
    let p = err_from_is_err_and c.from_residual-in_err-penalty.result c.from_residual-in_err-penalty.ensures.1 in
    let a = c.in_ok-line.ensures in
    let b = c.in_ok-slots.ensures in
    let d = c.in_ok-hit.ensures in
    let z = c.in_err-penalty.ensures in
    rw (p.1, p.2) (λ k. inr (_, _, a.0, a.1, inr (_, _, b.0, b.1, inr (_, _, d.0, d.1, inl (omega (arith, a.2, b.2, d.2, z.0), z.1)))))

pub returns-in_err-window : goal.returns-in_err-window
returns-in_err-window c =
    let p = err_from_is_err_and c.from_residual-in_err-window.result c.from_residual-in_err-window.ensures.1 in
    let a = c.in_ok-line.ensures in
    let b = c.in_ok-slots.ensures in
    let d = c.in_ok-hit.ensures in
    let e = c.in_ok-penalty.ensures in
    let z = c.in_err-window.ensures in
    rw (p.1, p.2) (λ k. inr (_, _, a.0, a.1, inr (_, _, b.0, b.1, inr (_, _, d.0, d.1, inr (_, _, e.0, e.1, inl (omega (arith, a.2, b.2, d.2, e.2, z.0), z.1))))))
