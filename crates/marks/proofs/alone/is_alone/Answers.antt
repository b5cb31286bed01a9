use Rattle.std.proofs.Common.{◌≡◌, ◌+◌, ◌-◌, drop, take, sym, ap, ◌∙◌, add-one, rules, tests, arith}
use Rattle.std.specs.List.{range_with_len, list_all, slice_range}
use Rattle.std.proofs.lemmas.List.{drop-take}
use Rattle.std.proofs.lemmas.Iterator.{YieldsList-from_slice}
use Rattle.std.proofs.lemmas.Iterator.Search.{all_from_yields_List}
use Rattle.records.specs.declared.parts.Block.{Block}
use Rattle.task.specs.Graph.{block_at}
use Rattle.task.specs.View.{task_contents}
use Rattle.facts.proofs.Space.{block_placed}
use Rattle.categories.specs.Category.{apart}
use Rattle.marks.specs.Steps.{given_lines}
use Rattle.marks.proofs.Counts.{all_between, all_range}
use Rattle.marks.proofs.Sounds.{alone_at, lines_given}
use Rattle.marks.proofs.alone.is_alone.Goals as goal

pub returns : goal.returns
returns c =
    let t = task_contents c.args.place.now.task.now in
    let s = t.header.geometry in
    let blocks = c.as_slice.result.now in
    let h = c.args.place.now.range.header in
    let m = c.args.place.now.range.last + 1 in
    let whole : h + (m - h) ≡ m = omega arith in
    let test = λ (x : Block). list_all (apart s c.args.line) (given_lines s x) in
    all_from_yields_List test _ _ c.all.result c.all.ensures.ran
    (YieldsList-from_slice (slice_range blocks h m) cc)
    (λ x b q k. search (rules, tests))
    ∙ ap (λ bs. list_all test (slice_range bs h m)) c.as_slice.ensures.value
    ∙ ap (list_all test) (sym (drop-take h (m - h) t.blocks) ∙ ap (λ n. drop h (take n t.blocks)) whole)
    ∙ all_between test t.blocks h m (omega arith)
    ∙ all_range (λ b. test (block_at t.blocks b)) (alone_at t c.args.line) h (m - h) (λ j low high.
    ap (list_all (apart s c.args.line)) (lines_given s (block_at t.blocks j) (block_placed t c.args.place.now.task.now.sound j (omega arith))))
    ∙ ap (λ n. list_all (alone_at t c.args.line) (range_with_len h (n - h))) (add-one c.args.place.now.range.last)
