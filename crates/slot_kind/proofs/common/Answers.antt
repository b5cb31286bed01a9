use Rattle.std.proofs.Common.{◌∙◌, inl, inr, arith, length-set}
use Rattle.slot_kind.specs.Lines.{agreed_read, common_more, common-all}
use Rattle.slot_kind.proofs.common.Goals as goal
use Rattle.slot_kind.proofs.common.Goals.{then-a-slot, else-a-slot}

pub loop-slot-preserved : goal.loop-slot-preserved
loop-slot-preserved c = (
  length-set c.loop-slot.lines c.loop-slot.slot c.if-a-slot.lines ∙ c.loop-slot.invariant.0,
  common_more c.args.a.now c.args.b.now c.loop-slot.lines c.loop-slot.slot c.if-a-slot.lines (omega arith)
      (agreed_read c.args.a.now c.args.b.now c.loop-slot.slot c.if-a-slot.lines (omega arith) (omega arith)
      (elim c.if-a-slot.branch
      [ then-a-slot w ↦ inl (w.if-a-slot.true, w.lines-is) | else-a-slot w ↦ inr (w.if-a-slot.false, w.lines-is) ]))
      c.loop-slot.invariant.1,
)

pub returns : goal.returns
returns c =
    common-all c.args.a.now c.args.b.now c.loop-slot.lines c.told-a c.told-b c.loop-slot.invariant.0
    (λ k l. c.loop-slot.invariant.1 k (omega arith))
