use Rattle.std.proofs.Common.{◌≡◌, drop}
use Rattle.longest.specs.Search.{none_yet, turned}
use Rattle.search.proofs.turn_of.Given as goal

abbrev pub invariant-loop-e : goal.invariant-loop-e
invariant-loop-e g l =
    let m = g.T.Tally.ops in
    turned m l.l l.work (drop l.e-index l.edges) l.most ≡ turned m l.l l.work l.edges (none_yet m)
