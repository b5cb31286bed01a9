use Rattle.std.proofs.Common.{◌≡◌, ◌+◌, length, refl, ap, ◌∙◌, arith, length-append}
use Rattle.reader.proofs.Bodies.{was_cut, line_read, line_bad}
use Rattle.reader.proofs.lines.Lines.line.Goals as goal

pub invariant_of-self : goal.invariant_of-self
invariant_of-self g c =
    let b = was_cut c.args.key.now c.args.self.now.rest.now c.cut_line.result _ (c.in_ok-body.body, c.in_ok-body.rest) c.in_ok-body.ensures.value c.cut_line.ensures in
    let l : length c.args.self.now.rest.now ≡ length c.args.key.now + (length c.in_ok-body.body.now + (1 + length c.in_ok-body.rest.now)) = ap length b.1 ∙ simp length-append (omega arith) in
    record { fits = omega (arith, c.args.self.now.fits) }

pub returns-in-Ok : goal.returns-in-Ok
returns-in-Ok g c = λ ranges row h.
    let b = was_cut c.args.key.now c.args.self.now.rest.now c.cut_line.result _ (c.in_ok-body.body, c.in_ok-body.rest) c.in_ok-body.ensures.value c.cut_line.ensures in
    let r = line_read ranges row c.args.key.now c.in_ok-body.body.now c.in_ok-body.rest.now c.args.self.now.rest.now c.in-Ok.value b
    (h c.in_ok-body.body.now _ (c.in_ok-body.body, c.in-Ok.ensures, refl)) in
    (r.0, r.1, refl)

pub returns-in-Err : goal.returns-in-Err
returns-in-Err g c = λ ranges row h.
    let b = was_cut c.args.key.now c.args.self.now.rest.now c.cut_line.result _ (c.in_ok-body.body, c.in_ok-body.rest) c.in_ok-body.ensures.value c.cut_line.ensures in (
      c.fault-in-Err.ensures.place,
      rw c.fault-in-Err.ensures.rule
          (line_bad ranges row c.args.key.now c.in_ok-body.body.now c.in_ok-body.rest.now c.args.self.now.rest.now c.in-Err.rule b
          (h c.in_ok-body.body.now _ (c.in_ok-body.body, c.in-Err.ensures, refl))),
    )
