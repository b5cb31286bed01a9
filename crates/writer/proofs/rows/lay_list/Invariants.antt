use Rattle.std.proofs.Common.{take}
use Rattle.writer.specs.Lays.{Appends}
use Rattle.writer.specs.Parts.{rows_text}
use Rattle.writer.proofs.rows.lay_list.Given as goal

abbrev pub invariant-loop-entry : goal.invariant-loop-entry
invariant-loop-entry g l = Appends (rows_text g.E.Entry.tag g.E.Entry.numbers (take l.entry-index l.entries)) l.initial.text l.text
