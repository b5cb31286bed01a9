use Rattle.std.proofs.Common.{[], ◌∷◌, ◌++◌, sym, ap}
use Rattle.syntax.specs.Line.{fields_text}
use Rattle.std.proofs.lemmas.List.{take_all}
use Rattle.writer.specs.Lays.{Appends}
use Rattle.writer.proofs.Laying.{appends_none, appends_then, appends_same}
use Rattle.writer.proofs.Fields.{separator, separator_none, separator_some, fields_more}
use Rattle.writer.proofs.text.Text.lay_line.Goals as goal
use Rattle.writer.proofs.text.Text.lay_line.Goals.{Joined-i-gt0, then-i-gt0, else-i-gt0}

pub loop-i-init : goal.loop-i-init
loop-i-init c = appends_none _

-- what stands before this field
parted : (c : Joined-i-gt0) → Appends (separator c.loop-i.i) c.loop-i.self c.if-i-gt0.self
parted c = elim c.if-i-gt0.branch [
  | then-i-gt0 w ↦ rw (w.self-is, separator_some c.loop-i.i w.if-i-gt0.true) w.lay_bytes-then-i-gt0.ensures
  | else-i-gt0 w ↦ rw (w.self-is, separator_none c.loop-i.i w.if-i-gt0.false) (appends_none c.loop-i.self)
]

pub loop-i-preserved : goal.loop-i-preserved
loop-i-preserved c =
    let sep = parted (goal.at.loop-i-preserved c).Joined-i-gt0 in
    appends_same (fields_more c.args.fields.now c.loop-i.i c.loop-i-test.true)
    (appends_then c.loop-i.invariant (appends_then sep c.lay_number.ensures))

pub returns : goal.returns
returns c =
    let all = take_all c.loop-i.i c.args.fields.now c.loop-i-test.false in
    appends_same (ap (λ fs. c.args.key.now ++ (fields_text fs ++ (10 ∷ []))) (sym all))
    (appends_then c.lay_bytes.ensures (appends_then c.loop-i.invariant c.lay_bytes-2.ensures))
