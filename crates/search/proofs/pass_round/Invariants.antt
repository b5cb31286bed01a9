use Rattle.std.proofs.Common.{◌≡◌, drop}
use Rattle.longest.specs.Search.{round_of}
use Rattle.longest.specs.Sizes.{Low}
use Rattle.search.proofs.pass_round.Given as goal

abbrev pub invariant-loop-e : goal.invariant-loop-e
invariant-loop-e g l =
    let m = g.T.Tally.ops in
    (round_of m l.l (drop l.e-index l.edges) l.work ≡ round_of m l.l l.edges l.initial.work) × Low m l.work
