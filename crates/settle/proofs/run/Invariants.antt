use Rattle.std.proofs.Common.{◌+◌, ◌*◌, length}
use Rattle.settle.specs.View.{viewed}
use Rattle.facts.proofs.Passes.{rank_sum}
use Rattle.settle.proofs.Steps.{Going}
use Rattle.settle.proofs.run.Given as goal

abbrev pub invariant-loop-geometry : goal.invariant-loop-geometry
invariant-loop-geometry g l =
    let k = g.K.Facts.kind l.geometry in
    Going k (viewed l.region) (length l.region.blocks.now * k.height + 1) l.initial.states l.passes l.states

abbrev pub decreases-loop-geometry : goal.decreases-loop-geometry
decreases-loop-geometry g l = rank_sum (g.K.Facts.kind l.geometry) l.states
