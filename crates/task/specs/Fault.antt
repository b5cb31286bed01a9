-- The numbers of the refusals that concern a task's graph.
use Rattle.std.specs.Prelude.{ℕ}
use Rattle.syntax.specs.declared.fault.Fault.{Fault}
use Rattle.task.specs.declared.fault.GraphRule.{GraphRule}
use Rattle.task.specs.declared.fault.GraphRule.TheVariants.{LoopOrder, Depth, LimitProduct, EdgeOrder, BackEdge, LoopEntry, Unreached, NoBackEdge, TooManyFetches, Address}

abbrev pub GraphFault : Type 0
GraphFault = Fault GraphRule

abbrev pub number : GraphRule → ℕ
number LoopOrder = 5
number Depth = 6
number LimitProduct = 7
number EdgeOrder = 8
number BackEdge = 9
number LoopEntry = 10
number Unreached = 11
number NoBackEdge = 12
number TooManyFetches = 13
number Address = 14
