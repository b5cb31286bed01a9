use Rattle.syntax.proofs.Digits.{Read}
use Rattle.syntax.proofs.fields.number.Given as goal

abbrev pub invariant-loop-b : goal.invariant-loop-b
invariant-loop-b l = Read l.s l.b-index l.n
