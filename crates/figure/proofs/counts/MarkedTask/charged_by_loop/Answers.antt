use Rattle.std.proofs.Common.{ℕ, length, vec_items, arith}
use Rattle.task.specs.View.{task_contents}
use Rattle.walks.specs.Walk.{all_loops}
use Rattle.categories.specs.Costs.{charged_at}
use Rattle.marks.specs.Table.{mark_at}
use Rattle.figure.proofs.Lists.{values_more, values_all}
use Rattle.figure.proofs.counts.MarkedTask.charged_by_loop.Goals as goal

pub loop-i-preserved : goal.loop-i-preserved
loop-i-preserved c =
    let k = task_contents c.args.self.now.task.now in
    let f : ℕ → ℕ = λ i. length (charged_at k (mark_at k c.args.self.now.table.now) i) in
    values_more f c.loop-i.i (vec_items c.loop-i.counts) (vec_items c.push.new.self) c.in_ok-charged_at.field-0 c.loop-i.invariant c.in_ok-charged_at.ensures c.in_ok-push.ensures.items

pub returns : goal.returns
returns c =
    let k = task_contents c.args.self.now.task.now in
    let f : ℕ → ℕ = λ i. length (charged_at k (mark_at k c.args.self.now.table.now) i) in
    values_all f c.loop-i.i (length (all_loops k)) (vec_items c.loop-i.counts) c.loop-i.invariant (omega (arith, c.len-end.ensures, c.args.self.now.task.now.«record».loops.ok.0))
