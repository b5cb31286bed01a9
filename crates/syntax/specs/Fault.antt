-- The numbers of the refusals that concern a text.
use Rattle.std.specs.Prelude.{ℕ}
use Rattle.syntax.specs.declared.fault.Fault.{Fault}
use Rattle.syntax.specs.declared.fault.TextRule.{TextRule}
use Rattle.syntax.specs.declared.fault.TextRule.TheVariants.{TooLong, Line, Number, Range}

abbrev pub TextFault : Type 0
TextFault = Fault TextRule

abbrev pub number : TextRule → ℕ
number TooLong = 1
number Line = 2
number Number = 3
number Range = 4
