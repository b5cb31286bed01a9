use Rattle.std.proofs.Common.{◌^◌, ◌<◌, length, arith, rules}
use Rattle.records.specs.declared.Record.{Record}
use Rattle.records.specs.View.{contents}
use Rattle.records.specs.Layout.{record_text}
use Rattle.writer.proofs.Bound.{text_bound}
use Rattle.writer.proofs.write.Goals as goal

-- the end of the text can be told
small : (r : Record) → length (record_text (contents r)) < 2 ^ 64
small r = omega (arith, text_bound (contents r) r.ranges)

pub returns : goal.returns
returns c = c.fill.ensures (record_text (contents c.args.record.now)) (small c.args.record.now) (λ old new h. search rules)
