use Rattle.std.proofs.Common.{◌<◌, true, length, get_or, sym, arith}
use Rattle.categories.specs.declared.category.Category.TheVariants.{AlwaysHit}
use Rattle.categories.specs.Costs.{is_first_miss}
use Rattle.figure.proofs.Steps.{first_miss_is, level_read, charged_if}
use Rattle.figure.proofs.rows.is_charged.Goals as goal

pub returns-then-eq : goal.returns-then-eq
returns-then-eq c =
    let row = c.args.row.now in
    let level = c.args.level in
    let inside : level < length row = omega (arith, c.told-row, c.requires.0, c.requires.1) in
    let miss = level_read is_first_miss row level true inside (sym (first_miss_is (get_or row level AlwaysHit) c.if-eq.ensures)) in
    charged_if row level c.args.depth c.has_first_miss.result (omega (arith, c.told-row, c.requires.1)) miss c.has_first_miss.ensures c.requires.0
