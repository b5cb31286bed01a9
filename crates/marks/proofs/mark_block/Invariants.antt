use Rattle.task.specs.View.{task_contents}
use Rattle.std.specs.Option.{option_copied}
use Rattle.marks.specs.Steps.{fitting, Filled}
use Rattle.marks.proofs.mark_block.Given as goal

abbrev pub invariant-loop-fetch : goal.invariant-loop-fetch
invariant-loop-fetch g l =
    Filled l.initial.table l.table l.row l.fetch l.level
    (fitting g.K.Facts.kind g.K.CacheState.fetched (task_contents l.place.task.now) l.place.range l.place.b l.settled (option_copied l.first))
