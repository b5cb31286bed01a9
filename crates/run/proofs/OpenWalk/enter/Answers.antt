use Rattle.std.proofs.Common.{◌≡◌, ◌+◌, ◌-◌, ◌^◌, min, length, refl, ap, ◌∙◌, subst, arith}
use Rattle.std.proofs.lemmas.List.{with_items_is}
use Rattle.task.specs.View.{task_contents}
use Rattle.walks.specs.Walk.{all_loops}
use Rattle.facts.specs.Space.{placed}
use Rattle.cache_state.specs.Cache.{fetch_lines, fetch_cache, fetch_all}
use Rattle.run.specs.Run.{misses_of, entered_rounds}
use Rattle.run.specs.Open.{run_of, SpentOf}
use Rattle.facts.proofs.Space.{block_placed}
use Rattle.run.proofs.Entering.{block_read, saturated, entered_is}
use Rattle.run.proofs.OpenWalk.enter.Goals as goal

pub fetch_block-misses-requires : goal.fetch_block-misses-requires
fetch_block-misses-requires c =
    let t = c.args.task.now in
    ap placed (block_read (task_contents t) c.args.block c.index.result.now c.requires c.index.ensures)
    ∙ block_placed (task_contents t) t.sound c.args.block c.requires

pub returns : goal.returns
returns c fits free =
    let t = c.args.task.now in
    let w = c.args.self.now in
    let g = t.«record».header.geometry in
    let b = c.args.block in
    let block = c.index.result.now in
    let ls = all_loops (task_contents t) in
    let cache = c.fetch_block-misses.new.cache in
    let rounds = c.enter_rounds.new.rounds in
    let kept = with_items_is w.cache cache (omega (arith, c.fetch_block-misses.auto.cache, c.deref_mut.ensures.len)) in
    let long = with_items_is w.rounds rounds (omega (arith, c.enter_rounds.auto.rounds, c.deref_mut-2.ensures.len)) in
    entered_is (task_contents t) b (run_of w) block c.fetch_block-misses.result c.entry_cycles.result _
    (block_read (task_contents t) b block c.requires c.index.ensures) fits (record {
      here = refl;
      held = kept ∙ c.fetch_block-misses.ensures.cache ∙ ap (fetch_all (fetch_cache g) (fetch_lines g block)) c.deref_mut.ensures.value;
      stays = long ∙ subst (λ rs. length rs ≡ length ls → (SpentOf ls rs b → ⊥) → rounds ≡ entered_rounds ls b rs) c.deref_mut-2.ensures.value c.enter_rounds.ensures fits.long free;
      few = c.fetch_block-misses.ensures.misses ∙ ap (misses_of g (fetch_lines g block)) c.deref_mut.ensures.value;
      price = saturated _ _ c.entry_cycles.ensures;
      cycles = c.saturating_add-self.ensures;
      misses = c.saturating_add-self-2.ensures ∙ ap (λ n. min (w.misses + n) (2 ^ 64 - 1)) c.from.ensures;
      fetches = c.saturating_add-self-3.ensures ∙ ap (λ n. min (w.fetches + n) (2 ^ 64 - 1)) c.from-2.ensures;
    })
