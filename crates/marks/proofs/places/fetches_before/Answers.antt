use Rattle.std.proofs.Common.{◌≡◌, ◌+◌, ◌^◌, length, take, vec_items, ap, ◌∙◌, inl, inr, rules, tests, arith}
use Rattle.std.proofs.lemmas.Iterator.{YieldsList-from_slice, YieldsList-from_map}
use Rattle.std.proofs.lemmas.Iterator.Consumers.{sum_by_from_yields_List, fits_by_from_yields_list, YieldsList-at}
use Rattle.std.proofs.lemmas.Bool.{cases_lt}
use Rattle.records.specs.declared.parts.Block.{Block}
use Rattle.records.proofs.Ranges.{ranges}
use Rattle.task.specs.Graph.{total_fetches}
use Rattle.task.specs.View.{task_contents}
use Rattle.task.proofs.Ranged.{block_range_at}
use Rattle.marks.proofs.Counts.{fetches_few, fetches-sum, fetches-all}
use Rattle.marks.proofs.places.fetches_before.Goals as goal

pub sum-requires-clause-fits : goal.sum-requires-clause-fits
sum-requires-clause-fits c =
    let t = task_contents c.args.task.now in
    let form = c.args.task.now.«record».ranges in
    let n = c.min.result in
    let same = c.as_slice-blocks.ensures.value in
    let long = ap length same in
    let few = (ranges t form).few_blocks in
    let most = fetches_few t.blocks n (λ b l. (block_range_at t form b l).fetches) (omega arith) in
    let total = fetches-sum 0 (take n c.as_slice-blocks.result.now) in
    let is = ap (λ bs. total_fetches (take n bs)) same in
    fits_by_from_yields_list (λ (x : Block). x.fetches) (take n c.as_slice-blocks.result.now) c.map.result (2 ^ 64)
    (YieldsList-from_map _ (λ (x : Block). x.fetches) (YieldsList-at c.map.ensures.source (YieldsList-from_slice (take n c.as_slice-blocks.result.now) cc)) c.map.ensures.closure
    (λ x r q k. search (rules, tests)))
    (omega arith)

pub returns : goal.returns
returns c =
    let n = c.min.result in
    let blocks = vec_items c.args.task.now.«record».blocks in
    let same = c.as_slice-blocks.ensures.value in
    let long = ap length same in
    sum_by_from_yields_List (λ (x : Block). x.fetches) (take n c.as_slice-blocks.result.now) c.map.result c.sum.result c.sum.ensures.ran
    (YieldsList-from_map _ (λ (x : Block). x.fetches) (YieldsList-at c.map.ensures.source (YieldsList-from_slice (take n c.as_slice-blocks.result.now) cc)) c.map.ensures.closure
    (λ x r q k. search (rules, tests)))
    ∙ fetches-sum 0 (take n c.as_slice-blocks.result.now) ∙ ap (λ bs. 0 + total_fetches (take n bs)) same
    ∙ elim (cases_lt c.args.b (length blocks)) [
      | inl less ↦ (let e : n ≡ c.args.b = omega arith in let q = ap (λ m. total_fetches (take m blocks)) e in omega arith)
      | inr more ↦ (let q = fetches-all blocks n (omega arith) in let r = fetches-all blocks c.args.b more in omega arith)
    ]
