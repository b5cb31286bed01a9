use Rattle.std.proofs.Common.{◌≡◌, length}
use Rattle.task.specs.View.{task_contents}
use Rattle.walks.specs.Walk.{all_loops}
use Rattle.run.specs.Open.{SpentOf}
use Rattle.run.proofs.Counting.{CountedTo}
use Rattle.run.proofs.stays.enter_rounds.Given as goal

abbrev pub invariant-loop-i : goal.invariant-loop-i
invariant-loop-i l =
    let ls = all_loops (task_contents l.task) in
    length l.initial.rounds ≡ length ls → (SpentOf ls l.initial.rounds l.b → ⊥) → CountedTo l.b ls l.initial.rounds l.i l.rounds
