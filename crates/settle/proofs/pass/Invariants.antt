use Rattle.settle.specs.View.{viewed}
use Rattle.settle.proofs.Steps.{Sofar}
use Rattle.settle.proofs.pass.Given as goal

abbrev pub invariant-loop-b : goal.invariant-loop-b
invariant-loop-b g l = Sofar (g.K.Facts.kind l.geometry) (viewed l.region) l.initial.states l.b l.changed l.states
