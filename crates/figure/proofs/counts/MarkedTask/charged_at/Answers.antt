use Rattle.std.proofs.Common.{◌≡◌, ◌≤◌, length, vec_items, ap, ◌∙◌, arith}
use Rattle.records.specs.declared.parts.Loop.{Loop}
use Rattle.records.proofs.Ranges.{ranges}
use Rattle.task.specs.Graph.{loop_at}
use Rattle.task.specs.View.{task_contents}
use Rattle.walks.specs.Walk.{all_loops}
use Rattle.categories.proofs.Loops.{true_within}
use Rattle.categories.proofs.Sizes.{charged_small}
use Rattle.marks.specs.Table.{mark_at}
use Rattle.figure.proofs.Places.{filled, lines_none, lines_more, lines-all}
use Rattle.figure.proofs.counts.MarkedTask.charged_at.Goals as goal

pub overflow_add-end : goal.overflow_add-end
overflow_add-end c =
    let task = c.args.self.now.task.now in
    omega (arith, (c.loop_at-l.ensures.blocks c.requires).1, (ranges (task_contents task) task.«record».ranges).few_blocks)

pub loop-b-init : goal.loop-b-init
loop-b-init c =
    let k = task_contents c.args.self.now.task.now in
    let same : c.loop_at-l.result.header ≡ (loop_at (all_loops k) c.args.i).header = ap (λ (l : Loop). l.header) c.loop_at-l.ensures.range in
    c.new-lines.ensures.items ∙ lines_none k (mark_at k c.args.self.now.table.now) c.args.i (loop_at (all_loops k) c.args.i).header c.loop_at-l.result.header same

pub add_charged-requires : goal.add_charged-requires
add_charged-requires c =
    let k = task_contents c.args.self.now.task.now in
    let l = loop_at (all_loops k) c.args.i in
    let first = ap (λ (l : Loop). l.header) c.loop_at-l.ensures.range in
    let final = ap (λ (l : Loop). l.last) c.loop_at-l.ensures.range in
    let end : c.loop-b.b ≤ l.last = omega (arith, c.loop-b-test.true) in
    record {
      number = c.requires;
      inside = true_within l c.loop-b.b (omega (arith, c.loop-b.auto.b), end);
      block = omega (arith, (c.loop_at-l.ensures.blocks c.requires).1);
    }

pub loop-b-preserved : goal.loop-b-preserved
loop-b-preserved c =
    let k = task_contents c.args.self.now.task.now in
    let first = ap (λ (l : Loop). l.header) c.loop_at-l.ensures.range in
    lines_more k (mark_at k c.args.self.now.table.now) c.args.i (loop_at (all_loops k) c.args.i).header c.loop-b.b (vec_items c.loop-b.lines) (vec_items c.add_charged.new.lines) (omega (arith, c.loop-b.auto.b)) c.loop-b.invariant c.in_ok-add_charged.ensures

pub overflow_cast-result : goal.overflow_cast-result
overflow_cast-result c =
    let task = c.args.self.now.task.now in
    let k = task_contents task in
    let some = filled k task.«record».ranges task.sound c.args.i c.requires in
    let all = lines-all k (mark_at k c.args.self.now.table.now) c.args.i c.loop-b.b c.loop_at-l.result (vec_items c.loop-b.lines) c.loop_at-l.ensures.range some c.loop-b-test.false c.loop-b.auto.b-end c.loop-b.invariant in
    omega (arith, ap length all, c.len.ensures, c.loop-b.lines.ok.0, charged_small k task.«record».ranges (mark_at k c.args.self.now.table.now) c.args.i c.requires)

pub returns : goal.returns
returns c =
    let task = c.args.self.now.task.now in
    let k = task_contents task in
    let some = filled k task.«record».ranges task.sound c.args.i c.requires in
    let all = lines-all k (mark_at k c.args.self.now.table.now) c.args.i c.loop-b.b c.loop_at-l.result (vec_items c.loop-b.lines) c.loop_at-l.ensures.range some c.loop-b-test.false c.loop-b.auto.b-end c.loop-b.invariant in
    c.len.ensures ∙ c.loop-b.lines.ok.0 ∙ ap length all
