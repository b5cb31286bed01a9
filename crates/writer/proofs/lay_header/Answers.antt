use Rattle.std.proofs.Common.{append_assoc}
use Rattle.writer.proofs.Laying.{appends_then, appends_same}
use Rattle.writer.proofs.lay_header.Goals as goal

pub returns : goal.returns
returns c =
    appends_same (simp append_assoc)
    (appends_then (appends_then (appends_then (appends_then c.lay_line.ensures c.lay_line-2.ensures) c.lay_line-3.ensures) c.lay_line-4.ensures) c.lay_line-5.ensures)
