use Rattle.std.proofs.Common.{arith}
use Rattle.slot_kind.specs.Lines.{stored-set}
use Rattle.slot_kind.proofs.store.Goals as goal

pub returns-then-slot-lt64 : goal.returns-then-slot-lt64
returns-then-slot-lt64 c l = stored-set c.args.lines.now c.args.slot c.args.line (omega arith)
