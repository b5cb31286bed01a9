use Rattle.std.proofs.Common.{◌≡◌, ℕ, ◌+◌, ◌-◌, List, ◌∷◌, ap, ◌∙◌, arith}
use Rattle.std.specs.List.{range_with_len, flat_map}
use Rattle.categories.specs.Letters.{letters_of}
use Rattle.marks.specs.Steps.{place_at}
use Rattle.writer.proofs.Laying.{appends_then, appends_none, appends_same}
use Rattle.listing.proofs.Counted.{joined_count, categories_counted}
use Rattle.listing.proofs.fetches.lay_categories.Goals as goal

pub loop-level-init : goal.loop-level-init
loop-level-init c = appends_none _

pub loop-level-preserved : goal.loop-level-preserved
loop-level-preserved c =
    let i = c.loop-level.level in
    let text : ℕ → List ℕ = λ k. 47 ∷ letters_of (place_at c.args.table.now c.args.row k) in
    let e : c.loop-level.level + 1 - 1 ≡ c.loop-level.level - 1 + 1 = omega arith in
    appends_same (ap (λ n. flat_map text (range_with_len 1 n)) e ∙ joined_count text 1 (i - 1) i (omega arith))
    (appends_then c.loop-level.invariant (appends_then c.lay_bytes.ensures c.lay_category-in-loop-level.ensures))

pub returns : goal.returns
returns c =
    appends_same (categories_counted (place_at c.args.table.now c.args.row) c.args.levels c.loop-level.level c.requires (omega arith))
    (appends_then c.lay_category.ensures c.loop-level.invariant)
