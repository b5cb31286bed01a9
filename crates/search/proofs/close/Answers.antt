-- Each turn closes one block.
use Rattle.std.proofs.Common.{◌-◌, sym, ap, subst, arith}
use Rattle.longest.specs.Search.{value, whole}
use Rattle.longest.specs.Sizes.{Small}
use Rattle.search.proofs.Steps.{Closing, closing_none, closing_low, closing_value, closing_more, closing_all}
use Rattle.search.proofs.close.Goals as goal

pub loop-b-init : goal.loop-b-init
loop-b-init g c =
    let t = g.T.Tally in
    closing_none t.ops c.args.l c.args.stay c.args.turn c.args.work.now
    c.requires.low c.requires.room

pub close_block-requires : goal.close_block-requires
close_block-requires g c =
    let t = g.T.Tally in
    let m = t.ops in
    let l = c.args.l in
    let b = c.loop-b.b in
    let v = closing_value m l c.args.stay c.args.turn c.args.work.now c.requires.low c.requires.room c.loop-b.work b
    c.loop-b.invariant (omega arith) in
    record {
      block = omega (arith, c.requires.room, c.loop-b.auto.work);
      low = closing_low m l c.args.stay c.args.turn c.args.work.now c.requires.low c.requires.room c.loop-b.work b
          c.loop-b.invariant;
      small = subst (Small m t.size l.limit c.args.stay c.args.turn) (sym v)
          (c.requires.small (b - 1) (omega arith, omega arith));
    }

pub loop-b-preserved : goal.loop-b-preserved
loop-b-preserved g c =
    let t = g.T.Tally in
    let m = t.ops in
    let l = c.args.l in
    let b = c.loop-b.b in
    let v = closing_value m l c.args.stay c.args.turn c.args.work.now c.requires.low c.requires.room c.loop-b.work b
    c.loop-b.invariant (omega arith) in
    let x = whole m l.limit c.args.stay c.args.turn (value m c.loop-b.work (b - 1)) in
    let done = closing_more m l c.args.stay c.args.turn c.args.work.now c.requires.low c.requires.room c.loop-b.work b
    c.loop-b.invariant x c.loop-b-test.true c.loop-b.auto.b c.loop-b.auto.work
    (ap (whole m l.limit c.args.stay c.args.turn) v) in
    subst (λ u. Closing m l c.args.stay c.args.turn c.args.work.now c.requires.low c.requires.room u (b - 1))
    (sym c.close_block.ensures) done

pub returns : goal.returns
returns g c =
    let t = g.T.Tally in
    closing_all t.ops c.args.l c.args.stay c.args.turn c.args.work.now
    c.requires.low c.requires.room c.loop-b.work c.loop-b.b c.loop-b.invariant c.loop-b-test.false c.loop-b.auto.work
