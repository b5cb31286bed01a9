use Rattle.std.proofs.Common.{◌*◌, ◌-◌, ◌^◌, min, rules, tests, arith}
use Rattle.std.proofs.lemmas.Iterator.{YieldsList-from_slice, YieldsList-from_map}
use Rattle.std.proofs.lemmas.Iterator.Consumers.{YieldsList-at, YieldsList-from_filter, fold_from_yields_List}
use Rattle.task.specs.Graph.{within}
use Rattle.task.proofs.Around.{over_capped}
use Rattle.task.proofs.loops.over_limit.Goals as goal

pub returns : goal.returns
returns c =
    let ls = c.args.loops.now in
    over_capped (2 ^ 64 - 1) ls c.args.b c.fold-product.result (omega arith)
    (fold_from_yields_List _ (λ p n. min (p * n) (2 ^ 64 - 1)) 1 c.fold-product.result c.fold-product.ensures.ran
    (YieldsList-from_map _ (λ l. l.limit) (YieldsList-at c.map.ensures.source
    (YieldsList-from_filter _ (λ l. within l c.args.b) (YieldsList-from_slice ls cc) c.filter.ensures.closure (λ x r q k. search (rules, tests))))
    c.map.ensures.closure (λ x r q k. search rules))
    (λ a x b q k. search (rules, tests)))
