use Rattle.std.proofs.Common.{arith, ap₂, [], ◌∷◌, ◌++◌, length, sym, ap, ◌∙◌}
use Rattle.std.proofs.lemmas.List.{take_all}
use Rattle.syntax.specs.Line.{line_text}
use Rattle.writer.specs.Parts.{rows_text}
use Rattle.writer.proofs.Laying.{appends_none, appends_then, appends_same}
use Rattle.writer.proofs.Parts.{rows_more, line-append}
use Rattle.writer.proofs.rows.lay_list.Goals as goal

pub loop-entry-init : goal.loop-entry-init
loop-entry-init g c = appends_none _

pub fields-requires : goal.fields-requires
fields-requires g c = omega (arith, g.met.E.Entry.few)

pub shared_whole_as_slice-lay_line : goal.shared_whole_as_slice-lay_line
shared_whole_as_slice-lay_line g c = omega (arith, g.met.E.Entry.few)

pub loop-entry-preserved : goal.loop-entry-preserved
loop-entry-preserved g c =
    appends_same (rows_more g.E.Entry.tag g.E.Entry.numbers c.args.entries.now c.loop-entry.entry-index c.entry-item.result c.loop-entry-test.true c.entry-item.is)
    (appends_then c.loop-entry.invariant
    (appends_same (ap₂ (λ key fs. line_text key fs []) (sym c.key.ensures) (sym c.fields.ensures)) c.lay_line-in-loop-entry.ensures))

pub returns : goal.returns
returns g c =
    let text = rows_text g.E.Entry.tag g.E.Entry.numbers in
    let count = length c.args.entries.now ∷ [] in
    let all = take_all c.loop-entry.entry-index c.args.entries.now c.loop-entry-test.false in
    appends_same
    (line-append c.args.heading.now count [] (text c.args.entries.now) ∙ ap (λ xs. line_text c.args.heading.now count [] ++ text xs) (sym all))
    (appends_then c.lay_line.ensures c.loop-entry.invariant)
