-- The loops passed so far are counted.
use Rattle.std.proofs.Common.{◌≡◌, map, length, vec_items}
use Rattle.std.specs.List.{range_with_len}
use Rattle.task.specs.View.{task_contents}
use Rattle.categories.specs.Costs.{charged_at}
use Rattle.marks.specs.Table.{mark_at}
use Rattle.figure.proofs.counts.MarkedTask.charged_by_loop.Given as goal

abbrev pub invariant-loop-i : goal.invariant-loop-i
invariant-loop-i l = vec_items l.counts ≡ map (λ i. length (charged_at (task_contents l.self.task.now) (mark_at (task_contents l.self.task.now) l.self.table.now) i)) (range_with_len 0 l.i)
