-- The value is the sum of the two cells that are read.
use Rattle.std.proofs.Common.{sym, ◌∙◌, subst}
use Rattle.longest.specs.Sizes.{BothSmall}
use Rattle.search.proofs.Steps.{read_value}
use Rattle.search.proofs.value_at.Goals as goal

pub plus_both-requires : goal.plus_both-requires
plus_both-requires g c =
    let t = g.T.Tally in
    let e = read_value t.ops c.args.work.now c.args.b c.index-work-b.result c.index-work-cell.result
    c.requires.block c.requires.low c.index-work-b.is c.index-work-cell.is in
    subst (BothSmall t.size) (sym e) c.requires.small

pub returns : goal.returns
returns g c =
    let t = g.T.Tally in
    let m = t.ops in
    c.plus_both.ensures ∙ read_value m c.args.work.now c.args.b c.index-work-b.result c.index-work-cell.result
    c.requires.block c.requires.low c.index-work-b.is c.index-work-cell.is
