use Rattle.std.proofs.Common.{length, ap, rules, tests, arith}
use Rattle.std.proofs.lemmas.Iterator.{YieldsList-from_slice}
use Rattle.std.proofs.lemmas.Iterator.Consumers.{YieldsList-from_filter, count_from_yields_List}
use Rattle.task.specs.Graph.{within}
use Rattle.task.proofs.Around.{around_filter}
use Rattle.task.proofs.loops.levels.Goals as goal

pub returns : goal.returns
returns c =
    let ls = c.args.loops.now in
    let count = count_from_yields_List c.filter.result c.count.result c.count.ensures.ran
    (YieldsList-from_filter _ (λ l. within l c.args.b) (YieldsList-from_slice ls cc) c.filter.ensures.closure (λ x r q k. search (rules, tests))) in
    omega (arith, count, ap length (around_filter ls c.args.b))
