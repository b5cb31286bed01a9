use Rattle.std.proofs.Common.{take}
use Rattle.syntax.specs.Line.{fields_text}
use Rattle.writer.specs.Lays.{Appends}
use Rattle.writer.proofs.text.Text.lay_line.Given as goal

abbrev pub invariant-loop-i : goal.invariant-loop-i
invariant-loop-i l = Appends (fields_text (take l.i l.fields)) l.initial.self l.self
