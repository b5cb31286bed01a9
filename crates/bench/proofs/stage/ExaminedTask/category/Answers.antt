use Rattle.std.proofs.Common.{◌≡◌, ℕ, ◌+◌, ◌<◌, ◌≤◌, List, length, None, Some, Option, MatchOption, Bor, get_or, vec_items, sym, ap, ◌∙◌, subst, arith}
use Rattle.std.specs.Option.{unwrap_or, option_map}
use Rattle.records.specs.declared.parts.Block.{Block}
use Rattle.records.specs.Contents.{Contents}
use Rattle.task.specs.Graph.{block_at}
use Rattle.task.specs.View.{task_contents}
use Rattle.categories.specs.declared.category.Category.{Category}
use Rattle.categories.specs.Category.{fetches_of, levels_of}
use Rattle.marks.proofs.Counts.{rows_end}
use Rattle.marks.specs.Steps.{place_at}
use Rattle.figure.proofs.Places.{few_rows}
use Rattle.examine.specs.Findings.{shown}
use Rattle.examine.proofs.Categories.{category_shown}
use Rattle.listing.proofs.Shown.{levels_are, levels_few}
use Rattle.bench.proofs.Questions.{no_level, category_is}
use Rattle.bench.proofs.stage.ExaminedTask.category.Goals as goal

-- a block that was found is the task's
found_block : (t : Contents) (read : List Block) (b : ℕ) (o : Option (Bor Block)) (x : Bor Block) (P : Bor Block → Type 0) → read ≡ t.blocks → o ≡ Some x
    → MatchOption o (length read ≤ b) (λ y. (b < length read) × P y) → (b ≤ b → (d : Block) → unwrap_or (option_map (λ y. y.now) o) d ≡ get_or read b d)
    → (b < length t.blocks) × (fetches_of t b ≡ x.now.fetches)
found_block t read b None x P q is m at = absurd (cc)
found_block t read b (Some y) x P q is m at =
    let e : y ≡ x = cc in
    (subst (λ z. b < length z) q m.0, ap (λ z. (block_at z b).fetches) (sym q) ∙ ap (λ z. z.fetches) (sym (at (omega arith) _)) ∙ ap (λ z. z.now.fetches) e)

pub overflow_add-levels : goal.overflow_add-levels
overflow_add-levels c =
    let t = task_contents c.args.self.now.task in
    let here = found_block t c.deref.result.now c.args.block c.get.result c.in_ok-entered.entered _ c.deref.ensures.value c.in_ok-entered.ensures.ok_part c.get.ensures.lookup.3 c.get.ensures.lookup.4 in
    let few = levels_few t c.args.block here.0 c.args.self.now.task.sound in
    let are = levels_are t c.args.block here.0 in
    omega (arith, c.level_of-levels.ensures)

pub returns-then-level-levels : goal.returns-then-level-levels
returns-then-level-levels c =
    let t = task_contents c.args.self.now.task in
    let here = found_block t c.deref.result.now c.args.block c.get.result c.in_ok-entered.entered _ c.deref.ensures.value c.in_ok-entered.ensures.ok_part c.get.ensures.lookup.3 c.get.ensures.lookup.4 in
    let are = levels_are t c.args.block here.0 in
    no_level t (shown t c.args.self.now.found) c.args.block c.args.fetch c.args.level here.0 (omega (arith, here.1, c.if-fetch-entered.false))
    (omega (arith, c.level_of-levels.ensures, c.if-level-levels.true))

pub overflow_add-row : goal.overflow_add-row
overflow_add-row c =
    let t = task_contents c.args.self.now.task in
    let here = found_block t c.deref.result.now c.args.block c.get.result c.in_ok-entered.entered _ c.deref.ensures.value c.in_ok-entered.ensures.ok_part c.get.ensures.lookup.3 c.get.ensures.lookup.4 in
    let rows = rows_end t.blocks c.args.block here.0 in
    let few = few_rows t c.args.self.now.task.sound in
    omega (arith, here.1, c.fetches_before.ensures, c.if-fetch-entered.false)

pub returns : goal.returns
returns c =
    let t = task_contents c.args.self.now.task in
    let e = c.args.self.now.found in
    let here = found_block t c.deref.result.now c.args.block c.get.result c.in_ok-entered.entered _ c.deref.ensures.value c.in_ok-entered.ensures.ok_part c.get.ensures.lookup.3 c.get.ensures.lookup.4 in
    let fetch : c.args.fetch < fetches_of t c.args.block = omega (arith, here.1, c.if-fetch-entered.false) in
    let are = levels_are t c.args.block here.0 in
    let low : c.args.level < length (levels_of t c.args.block) = omega (arith, c.level_of-levels.ensures, c.if-level-levels.false) in
    category_is t (shown t e) c.args.block c.args.fetch c.args.level here.0 fetch c.category_at.result low
    (c.category_at.ensures ∙ ap (λ (z : List (List Category)). place_at z (c.fetches_before.result + c.args.fetch) c.args.level) c.deref-2.ensures.value
    ∙ ap (λ k. place_at (vec_items e.table) (k + c.args.fetch) c.args.level) c.fetches_before.ensures
    ∙ sym (category_shown t c.args.block c.args.fetch here.0 fetch e c.args.level low))
