use Rattle.std.proofs.Common.{length, drop, ap, ◌∙◌, rules, tests}
use Rattle.std.proofs.lemmas.Iterator.{YieldsList-from_slice}
use Rattle.std.proofs.lemmas.Iterator.Adapters.{YieldsList-from_skip}
use Rattle.std.proofs.lemmas.Iterator.Consumers.{count_from_yields_List, YieldsList-from_filter, YieldsList-at}
use Rattle.task.specs.Graph.{within, around}
use Rattle.marks.proofs.Counts.{around-filter}
use Rattle.marks.proofs.places.level_of.Goals as goal

pub returns : goal.returns
returns c =
    let loops = c.as_slice.result.now in
    count_from_yields_List c.filter.result c.count.result c.count.ensures.ran
    (YieldsList-from_filter _ (λ l. within l c.args.b)
    (YieldsList-at c.filter.ensures.source
    (YieldsList-from_skip c.args.number (YieldsList-at c.skip.ensures.source (YieldsList-from_slice loops cc)) c.skip.ensures.count))
    c.filter.ensures.closure (λ x b q k. search (rules, tests)))
    ∙ ap length (around-filter (drop c.args.number loops) c.args.b)
    ∙ ap (λ ls. length (around (drop c.args.number ls) c.args.b)) c.as_slice.ensures.value
