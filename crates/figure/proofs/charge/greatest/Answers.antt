use Rattle.std.proofs.Common.{◌≡◌, ℕ, map, length, ap, ◌∙◌, vec_items, rules}
use Rattle.std.specs.List.{range_with_len}
use borrow.Author.Tests.{tests}
use Rattle.task.specs.View.{task_contents}
use Rattle.longest.specs.declared.ByRound.{ByRound}
use Rattle.figure.specs.Price.{priced}
use Rattle.figure.proofs.Lists.{map_places}
use Rattle.figure.proofs.Pricing.{prices_fit, prices_are, accepted, answered, answer_is, figure_is}
use Rattle.figure.proofs.charge.greatest.Goals as goal

pub block_costs-requires : goal.block_costs-requires
block_costs-requires g c =
    let k = task_contents c.args.task.now in
    let firsts : ◌≡◌ (vec_items c.in_ok-in_first.in_first) (map (λ (x : ByRound ℕ). x.first) c.args.paying.now) = c.in_ok-in_first.ensures (λ (x : ByRound ℕ). x.first) (λ x n q. search (rules, tests)) in
    prices_fit g.T.Price.of_block g.T.Tally.size k c.args.paying.now c.requires.blocks (λ (x : ByRound ℕ). x.first) c.deref.result.now
    (c.deref.ensures.value ∙ firsts) c.requires.cheap.first

pub block_costs-requires-2 : goal.block_costs-requires-2
block_costs-requires-2 g c =
    let k = task_contents c.args.task.now in
    let laters : ◌≡◌ (vec_items c.in_ok-in_later.in_later) (map (λ (x : ByRound ℕ). x.later) c.args.paying.now) = c.in_ok-in_later.ensures (λ (x : ByRound ℕ). x.later) (λ x n q. search (rules, tests)) in
    prices_fit g.T.Price.of_block g.T.Tally.size k c.args.paying.now c.requires.blocks (λ (x : ByRound ℕ). x.later) c.deref-2.result.now
    (c.deref-2.ensures.value ∙ laters) c.requires.cheap.later

pub unwrap-requires : goal.unwrap-requires
unwrap-requires g c =
    let t = g.T.Tally in
    let of_block = g.T.Price.of_block in
    let k = task_contents c.args.task.now in
    let firsts : ◌≡◌ (vec_items c.in_ok-in_first.in_first) (map (λ (x : ByRound ℕ). x.first) c.args.paying.now) = c.in_ok-in_first.ensures (λ (x : ByRound ℕ). x.first) (λ x n q. search (rules, tests)) in
    let laters : ◌≡◌ (vec_items c.in_ok-in_later.in_later) (map (λ (x : ByRound ℕ). x.later) c.args.paying.now) = c.in_ok-in_later.ensures (λ (x : ByRound ℕ). x.later) (λ x n q. search (rules, tests)) in
    let costs = priced of_block g.T.Price.of_stay k c.args.paying.now c.args.lines.now in
    let fs = c.deref-3.result.now in
    let ns = c.deref-4.result.now in
    let ss = c.deref-5.result.now in
    let fs-are = c.deref-3.ensures.value ∙ c.in_ok-first.ensures ∙ prices_are of_block t.size k c.args.paying.now c.requires.blocks (λ (x : ByRound ℕ). x.first) c.deref.result.now (c.deref.ensures.value ∙ firsts) in
    let ns-are = c.deref-4.ensures.value ∙ c.in_ok-later.ensures ∙ prices_are of_block t.size k c.args.paying.now c.requires.blocks (λ (x : ByRound ℕ). x.later) c.deref-2.result.now (c.deref-2.ensures.value ∙ laters) in
    let ss-are = c.deref-5.ensures.value ∙ c.in_ok-stays.ensures ∙ map_places (g.T.Price.of_stay k.header) 0 c.args.lines.now ∙ ap (λ n. map costs.stay (range_with_len 0 n)) c.requires.loops in
    let cells = ap length c.deref_mut.ensures.value ∙ c.in_ok-cells.ensures ∙ c.requires.blocks in
    answered t.ops t.size costs k fs ns ss fs-are ns-are ss-are c.deref_mut.result.now c.greatest_charge.new.work c.greatest_charge.result c.greatest_charge.ensures
    (accepted t.ops t.size costs k fs ns ss fs-are ns-are ss-are c.requires.cheap c.deref_mut.result.now cells)

pub returns : goal.returns
returns g c =
    let t = g.T.Tally in
    let of_block = g.T.Price.of_block in
    let k = task_contents c.args.task.now in
    let firsts : ◌≡◌ (vec_items c.in_ok-in_first.in_first) (map (λ (x : ByRound ℕ). x.first) c.args.paying.now) = c.in_ok-in_first.ensures (λ (x : ByRound ℕ). x.first) (λ x n q. search (rules, tests)) in
    let laters : ◌≡◌ (vec_items c.in_ok-in_later.in_later) (map (λ (x : ByRound ℕ). x.later) c.args.paying.now) = c.in_ok-in_later.ensures (λ (x : ByRound ℕ). x.later) (λ x n q. search (rules, tests)) in
    let costs = priced of_block g.T.Price.of_stay k c.args.paying.now c.args.lines.now in
    let fs = c.deref-3.result.now in
    let ns = c.deref-4.result.now in
    let ss = c.deref-5.result.now in
    let fs-are = c.deref-3.ensures.value ∙ c.in_ok-first.ensures ∙ prices_are of_block t.size k c.args.paying.now c.requires.blocks (λ (x : ByRound ℕ). x.first) c.deref.result.now (c.deref.ensures.value ∙ firsts) in
    let ns-are = c.deref-4.ensures.value ∙ c.in_ok-later.ensures ∙ prices_are of_block t.size k c.args.paying.now c.requires.blocks (λ (x : ByRound ℕ). x.later) c.deref-2.result.now (c.deref-2.ensures.value ∙ laters) in
    let ss-are = c.deref-5.ensures.value ∙ c.in_ok-stays.ensures ∙ map_places (g.T.Price.of_stay k.header) 0 c.args.lines.now ∙ ap (λ n. map costs.stay (range_with_len 0 n)) c.requires.loops in
    figure_is t.ops t.size costs k fs ns ss fs-are ns-are ss-are c.unwrap.result
    (answer_is t.ops t.size costs k fs ns ss fs-are ns-are ss-are c.deref_mut.result.now c.greatest_charge.new.work c.greatest_charge.result c.greatest_charge.ensures c.unwrap.result c.unwrap.ensures)
