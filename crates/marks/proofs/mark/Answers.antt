use Rattle.std.proofs.Common.{◌≡◌, length, vec_items, refl, subst, arith}
use Rattle.std.proofs.lemmas.Bool.{le-leb}
use Rattle.records.proofs.Ranges.{ranges}
use Rattle.task.specs.View.{task_contents}
use Rattle.facts.specs.Settling.{task_states}
use Rattle.passed_kind.specs.Passed.{passed_kind}
use Rattle.cache_state.proofs.InRange.{record_in_range}
use Rattle.marks.specs.Steps.{Settled}
use Rattle.marks.proofs.Progress.{marked_some}
use Rattle.marks.proofs.mark.Goals as goal

pub overflow_cast-blocks : goal.overflow_cast-blocks
overflow_cast-blocks g c = let few = (ranges (task_contents c.args.task.now) c.args.task.now.«record».ranges).few_blocks in omega arith

pub settle_task-requires : goal.settle_task-requires
settle_task-requires g c =
    let fitting = c.if-not-lists_fit.ensures.0 refl in
    let room = fitting.walks in
    let few = (ranges (task_contents c.args.task.now) c.args.task.now.«record».ranges).few_blocks in
    record { taken = le-leb c.len-blocks.result 128 (omega arith); room = omega arith }

pub settle_task-passes-requires : goal.settle_task-passes-requires
settle_task-passes-requires g c =
    let t = task_contents c.args.task.now in
    record { taken = g.met.K.CacheState.everywhere t.header.geometry (record_in_range t c.args.task.now.«record».ranges); room = omega arith }

pub invariant_of-whole : goal.invariant_of-whole
invariant_of-whole g c =
    let t = task_contents c.args.task.now in
    let n : c.len-blocks.result ≡ length (vec_items c.args.task.now.«record».blocks) = omega arith in
    record {
      whole = c.settle_task-passes.ensures.settled;
      walks = subst (λ m. Settled t c.settle_task.new.states (task_states (passed_kind m) t).0) n c.settle_task.ensures.settled;
    }

pub mark_loops-requires : goal.mark_loops-requires
mark_loops-requires g c =
    let fitting = c.if-not-lists_fit.ensures.0 refl in
    let both = fitting.whole_and_round in
    record { room = omega arith; rows = fitting.fetches }

pub returns : goal.returns
returns g c =
    marked_some g.K.Facts.kind g.K.CacheState.fetched (task_contents c.args.task.now) _ _ c.settle_task-passes.result c.settle_task-passes.ensures.passes
    (c.if-not-lists_fit.ensures.0 refl) c.mark_loops.ensures
