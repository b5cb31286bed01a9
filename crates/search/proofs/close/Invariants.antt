use Rattle.std.proofs.Common.{◌≡◌, ℕ, ◌<◌, ◌≤◌}
use Rattle.longest.specs.Search.{cell_at, closed}
use Rattle.search.proofs.close.Given as goal

abbrev pub invariant-loop-b : goal.invariant-loop-b
invariant-loop-b g l =
    let m = g.T.Tally.ops in
    ((a : ℕ) → a < l.b → cell_at m l.work a ≡ cell_at m l.initial.work a)
    × ((a : ℕ) → l.b ≤ a → cell_at m l.work a ≡ cell_at m (closed m l.l l.stay l.turn l.initial.work) a)
