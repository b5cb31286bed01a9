use Rattle.std.proofs.Common.{◌≡◌, ◌<◌, length, vec_items, sym, ap, ◌∙◌, subst, arith}
use Rattle.std.specs.Bool.{then_some}
use Rattle.std.specs.Option.{option_copied}
use Rattle.records.specs.declared.parts.Loop.{Loop}
use Rattle.records.proofs.Ranges.{ranges}
use Rattle.task.specs.View.{task_contents}
use Rattle.marks.specs.Marked.{task_marks}
use Rattle.categories.specs.Category.{fetches_of}
use Rattle.marks.specs.Steps.{fitting, Filled, MarkedTo}
use Rattle.marks.proofs.Counts.{rows_end}
use Rattle.marks.proofs.Sounds.{level_low}
use Rattle.marks.proofs.Progress.{marked_begun, marked_loop, copied_if, block_marked}
use Rattle.marks.proofs.SettledTask.mark_loop.Goals as goal

pub overflow_add-b-end : goal.overflow_add-b-end
overflow_add-b-end g c = let few = (ranges (task_contents c.args.self.now.task.now) c.args.self.now.task.now.«record».ranges).few_blocks in omega (arith, c.loop_at-range.ensures.blocks c.requires.number)

pub loop-b-init : goal.loop-b-init
loop-b-init g c =
    let t = task_contents c.args.self.now.task.now in
    let e = ap (λ (l : Loop). l.header) c.loop_at-range.ensures.range in
    subst (λ b. MarkedTo t (task_marks g.K.Facts.kind g.K.CacheState.fetched t) c.args.number b c.args.table.now) (sym e)
    (marked_begun t (task_marks g.K.Facts.kind g.K.CacheState.fetched t) c.args.number c.args.table.now c.requires.before)

pub mark_block-requires : goal.mark_block-requires
mark_block-requires g c =
    let t = task_contents c.args.self.now.task.now in
    let inside = c.loop_at-range.ensures.blocks c.requires.number in
    let l : c.loop-b.b < length (vec_items c.args.self.now.task.now.«record».blocks) = omega arith in
    let rows = rows_end (vec_items c.args.self.now.task.now.«record».blocks) c.loop-b.b l in
    let low = level_low t c.args.self.now.task.now.sound c.loop-b.b c.args.number l in
    record { rows = omega arith; level = omega arith }

pub loop-b-preserved : goal.loop-b-preserved
loop-b-preserved g c =
    let t = task_contents c.args.self.now.task.now in
    let first : option_copied c.then_some-first.result ≡ then_some c.is_gated.result c.index-first-b.result =
    ap option_copied c.then_some-first.ensures ∙ copied_if c.is_gated.result _ in
    let filled = subst (λ o. Filled c.loop-b.table c.mark_block.new.table c.fetches_before-row.result (fetches_of t c.loop-b.b) c.level_of-level.result
    (fitting g.K.Facts.kind g.K.CacheState.fetched t c.loop_at-range.result c.loop-b.b c.index-settled-b.result o)) first c.mark_block.ensures in
    block_marked g.K.Facts.kind g.K.CacheState.fetched t c.args.self.now.task.now.«record».ranges c.args.number c.requires.number
    c.loop-b.b c.loop-b.table c.mark_block.new.table c.args.self.now.states.now c.args.first.now c.args.self.now.passed.now
    c.loop_at-range.result c.fetches_before-row.result c.level_of-level.result c.index-settled-b.result c.index-first-b.result c.is_gated.result
    c.args.self.now.whole c.requires.round c.args.self.now.walks c.loop_at-range.ensures.range c.fetches_before-row.ensures c.level_of-level.ensures
    (omega arith) c.loop-b.auto.b (omega arith) c.index-settled-b.is c.index-first-b.is c.is_gated.ensures c.loop-b.invariant filled

pub returns : goal.returns
returns g c =
    let t = task_contents c.args.self.now.task.now in
    let e = ap (λ (l : Loop). l.last) c.loop_at-range.ensures.range in
    marked_loop t (task_marks g.K.Facts.kind g.K.CacheState.fetched t) c.args.number c.loop-b.b c.loop-b.table (omega arith) c.loop-b.invariant
