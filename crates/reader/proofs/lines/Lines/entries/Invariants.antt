use Rattle.std.proofs.Common.{vec_items}
use Rattle.reader.specs.Lines.{form}
use Rattle.reader.proofs.Lists.{Sofar}
use Rattle.reader.proofs.lines.Lines.entries.Given as goal

abbrev pub invariant-loop : goal.invariant-loop
invariant-loop g l = Sofar l.count (form g.E.Entry.tag (g.E.Parse.ranges l.blocks)) g.E.Entry.numbers l.initial.self l.counter (vec_items l.all) l.self
