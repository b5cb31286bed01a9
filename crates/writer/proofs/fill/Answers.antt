use Rattle.std.proofs.Common.{[], ◌∙◌, rules}
use Rattle.writer.proofs.Outcome.{begun, refused, wrote}
use Rattle.writer.proofs.fill.Goals as goal

pub returns-then-out-needed : goal.returns-then-out-needed
returns-then-out-needed g c = λ text small h.
    let m = begun 0 text [] c.new-measured.result _ c.end-needed.result c.new-measured.ensures.end c.new-measured.ensures.bytes (h _ _ c.lay.ensures) c.end-needed.ensures in
    refused text c.args.out.now _ c.end-needed.result small m c.if-out-needed.true

pub returns : goal.returns
returns g c = λ text small h.
    let m = begun 0 text [] c.new-measured.result _ c.end-needed.result c.new-measured.ensures.end c.new-measured.ensures.bytes (h _ _ c.lay.ensures) c.end-needed.ensures in
    let laid = h _ _ c.lay-2.ensures in
    let l = begun 0 text c.args.out.now c.new-text.result _ c.end.result c.new-text.ensures.end c.new-text.ensures.bytes laid c.end.ensures in
    let w = wrote text c.args.out.now _ _ c.end-needed.result c.end.result small m c.if-out-needed.false l in
    let same = laid.buffer ∙ c.new-text.ensures.buffer in
    search rules
