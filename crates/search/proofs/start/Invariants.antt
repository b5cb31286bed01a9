use Rattle.std.proofs.Common.{◌≡◌, ℕ, ◌<◌, get_or}
use Rattle.longest.specs.Search.{by_round, cell_of, none_yet, cell_at}
use Rattle.search.proofs.start.Given as goal

abbrev pub invariant-loop-b : goal.invariant-loop-b
invariant-loop-b g l =
    let m = g.T.Tally.ops in
    (k : ℕ) → k < l.b → cell_at m l.work k ≡ cell_of k (none_yet m) (by_round (get_or l.first k m.none) (get_or l.later k m.none))
