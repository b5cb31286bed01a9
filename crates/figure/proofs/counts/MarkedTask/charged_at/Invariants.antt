-- The lines of the blocks passed so far are added.
use Rattle.std.proofs.Common.{◌≡◌, ◌-◌, [], vec_items}
use Rattle.std.specs.List.{range_with_len}
use Rattle.task.specs.Graph.{loop_at}
use Rattle.task.specs.View.{task_contents}
use Rattle.walks.specs.Walk.{all_loops}
use Rattle.categories.specs.Costs.{distinct, charged_lines}
use Rattle.marks.specs.Table.{mark_at}
use Rattle.figure.proofs.counts.MarkedTask.charged_at.Given as goal

abbrev pub invariant-loop-b : goal.invariant-loop-b
invariant-loop-b l =
    let c = task_contents l.self.task.now in
    let h = (loop_at (all_loops c) l.i).header in
    vec_items l.lines ≡ distinct [] (charged_lines c (mark_at c l.self.table.now) l.i (range_with_len h (l.b - h)))
