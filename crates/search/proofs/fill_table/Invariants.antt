use Rattle.std.proofs.Common.{◌≡◌}
use Rattle.task.specs.View.{task_contents}
use Rattle.longest.specs.Search.{table_from}
use Rattle.search.specs.Outcome.{costs_of}
use Rattle.search.proofs.fill_table.Given as goal

abbrev pub invariant-loop-number : goal.invariant-loop-number
invariant-loop-number g l =
    let m = g.T.Tally.ops in
    l.work ≡ table_from m (costs_of m l.first l.later l.stays) (task_contents l.task) l.number
