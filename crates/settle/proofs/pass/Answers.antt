use Rattle.std.proofs.Common.{◌≡◌, suc, inl, inr, arith}
use Rattle.settle.proofs.Steps.{sofar_more, sofar_after, sofar_changed}
use Rattle.settle.proofs.pass.Goals as goal
use Rattle.settle.proofs.pass.Goals.{then-rank, else-rank}

pub loop-b-preserved : goal.loop-b-preserved
loop-b-preserved g c =
    sofar_more c.loop-b.invariant (omega arith) (omega arith) c.index-states-b.result c.turn-new.result c.index-states-b.is c.turn-new.ensures
    c.rank-in-loop-b.result c.rank.result (c.rank-in-loop-b.ensures c.requires.taken) (c.rank.ensures c.requires.taken) c.if-rank.changed
    (elim c.if-rank.branch [ then-rank w ↦ inl (w.changed-is, w.if-rank.true) | else-rank w ↦ inr (w.changed-is, w.if-rank.false) ])

pub returns : goal.returns
returns g c =
    let end : c.loop-b.b ≡ suc c.args.region.now.range.last = omega arith in
    record { after = sofar_after c.loop-b.invariant end; changed = sofar_changed c.loop-b.changed c.loop-b.invariant (omega arith) }
