use Rattle.std.proofs.Common.{◌≤◌, vec_items, ap, ◌∙◌, arith}
use Rattle.figure.proofs.Places.{block_more, block_same}
use Rattle.figure.proofs.lines.add_block.Goals as goal
use Rattle.figure.proofs.lines.add_block.Goals.{then-is_charged+in_ok-add_line, else-is_charged}

pub loop-fetch-preserved : goal.loop-fetch-preserved
loop-fetch-preserved c =
    let a = c.args in
    let n = c.loop-fetch.fetch in
    let few : n ≤ 64 = omega (arith, c.loop-fetch-test.true, c.requires.short) in
    let seen = vec_items a.lines.now in
    let xs = vec_items c.loop-fetch.lines in
    let ys = vec_items c.if-is_charged.lines in
    elim c.if-is_charged.branch [
      | then-is_charged+in_ok-add_line w ↦ block_more a.geometry a.block a.level a.depth a.rows.now seen n xs ys c.loop-fetch.invariant c.requires.low few w.program_line.result w.program_line.ensures w.if-is_charged.ensures (ap vec_items w.lines-is ∙ w.in_ok-add_line.ensures)
      | else-is_charged w ↦ block_same a.geometry a.block a.level a.depth a.rows.now seen n xs ys c.loop-fetch.invariant w.if-is_charged.ensures (ap vec_items w.lines-is)
    ]
