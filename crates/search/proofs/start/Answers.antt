use Rattle.std.proofs.Common.{length, arith}
use Rattle.search.specs.Outcome.{costs_of}
use Rattle.search.proofs.Steps.{start-all}
use Rattle.search.proofs.start.Goals as goal

pub returns : goal.returns
returns g c = λ ss.
    let m = g.T.Tally.ops in
    start-all m (costs_of m c.args.first.now c.args.later.now ss) c.loop-b.work (length c.args.work.now) c.loop-b.auto.work
    (λ k l. c.loop-b.invariant k (omega (arith, c.loop-b-test.false)))
