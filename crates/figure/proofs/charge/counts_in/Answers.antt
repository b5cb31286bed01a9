-- The closure stays as it is, and its result is the picked count.
use Rattle.std.proofs.Common.{rules}
use Rattle.std.proofs.lemmas.Iterator.{items_from_collect, YieldsList-from_slice, YieldsList-from_map}
use Rattle.std.proofs.lemmas.Iterator.Adapters.{serves_from_places}
use borrow.Author.Tests.{tests}
use Rattle.figure.proofs.charge.counts_in.Goals as goal

pub collect-requires-clause-can : goal.collect-requires-clause-can
collect-requires-clause-can g c = (
  tt,
  serves_from_places (YieldsList-from_slice c.args.paying.now (cc))
      (λ x q r. search (rules, tests))
      (λ x j l e. search (rules, tests)),
)

pub returns : goal.returns
returns g c picked h =
    items_from_collect _ c.collect.ensures.ran
    (YieldsList-from_map _ picked (YieldsList-from_slice c.args.paying.now (cc)) c.map.ensures.closure
    (λ x r q k. (g.met.F.Fn.1.step_stays c.args.kind (x, tt) r q k, h x r ((g.met.F.FnMut.1.post_iff c.args.kind (x, tt) r).1 (q, k)))))
