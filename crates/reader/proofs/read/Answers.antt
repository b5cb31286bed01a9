use Rattle.std.proofs.Common.{[], vec_items, ◌∙◌}
use Rattle.std.proofs.lemmas.Result.{err_from_is_err_and}
use Rattle.records.specs.Contents.{contents_of}
use Rattle.records.specs.Layout.{blocks_form, loops_form, edges_form, block_form, loop_form, edge_form, block_row, loop_row, edge_row, counted, header_rows, loops_format, edges_format, rows}
use Rattle.syntax.specs.Format.Format.{end}
use Rattle.reader.specs.Parts.{counted_format}
use Rattle.reader.proofs.Whole.{Start, to_loops, to_edges, to_end, to_record, refused, refused_list, refused_end}
use Rattle.reader.proofs.read.Goals as goal

pub returns-in_err-header : goal.returns-in_err-header
returns-in_err-header c =
    let p = err_from_is_err_and c.from_residual.result c.from_residual.ensures.1 in
    let start : Start c.args.bytes.now c.new-lines.result = record { short = c.if-bytes-gt-MOST_BYTES.false; rest = c.new-lines.ensures.rest; next = c.new-lines.ensures.next } in
    rw (p.1, p.2)
    (refused c.args.bytes.now c.new-lines.result _ start (c.in_err-header.ensures (counted_format blocks_form block_form loops_format)))

pub returns-in_err-blocks : goal.returns-in_err-blocks
returns-in_err-blocks c =
    let p = err_from_is_err_and c.from_residual-in_err-blocks.result c.from_residual-in_err-blocks.ensures.1 in
    let start : Start c.args.bytes.now c.new-lines.result = record { short = c.if-bytes-gt-MOST_BYTES.false; rest = c.new-lines.ensures.rest; next = c.new-lines.ensures.next } in
    rw (p.1, p.2)
    (refused_list _ c.args.bytes.now c.new-lines.result c.header.new.lines c.counted.new.self (header_rows c.in_ok-header.header []) blocks_form block_form block_row loops_format start
    (c.in_ok-header.ensures (counted_format blocks_form block_form loops_format))
    c.in_err-blocks.ensures.reads)

pub returns-in_err-loops : goal.returns-in_err-loops
returns-in_err-loops c =
    let p = err_from_is_err_and c.from_residual-in_err-loops.result c.from_residual-in_err-loops.ensures.1 in
    let start : Start c.args.bytes.now c.new-lines.result = record { short = c.if-bytes-gt-MOST_BYTES.false; rest = c.new-lines.ensures.rest; next = c.new-lines.ensures.next } in
    let n = c.len-n.result in
    let bs = vec_items c.in_ok-blocks.blocks in
    rw (p.1, p.2)
    (refused_list _ c.args.bytes.now c.new-lines.result c.counted.new.self c.counted-2.new.self (header_rows c.in_ok-header.header (counted block_row bs [])) loops_form (loop_form n) loop_row (λ _. edges_format n) start
    (to_loops c.new-lines.result c.header.new.lines c.counted.new.self c.in_ok-header.header bs n (c.len-n.ensures ∙ c.in_ok-blocks.blocks.ok.0) c.in_ok-header.ensures c.in_ok-blocks.ensures.reads)
    c.in_err-loops.ensures.reads)

pub returns-in_err-edges : goal.returns-in_err-edges
returns-in_err-edges c =
    let p = err_from_is_err_and c.from_residual-in_err-edges.result c.from_residual-in_err-edges.ensures.1 in
    let start : Start c.args.bytes.now c.new-lines.result = record { short = c.if-bytes-gt-MOST_BYTES.false; rest = c.new-lines.ensures.rest; next = c.new-lines.ensures.next } in
    let n = c.len-n.result in
    let bs = vec_items c.in_ok-blocks.blocks in
    let ls = vec_items c.in_ok-loops.loops in
    rw (p.1, p.2)
    (refused_list _ c.args.bytes.now c.new-lines.result c.counted-2.new.self c.counted-3.new.self (header_rows c.in_ok-header.header (counted block_row bs (counted loop_row ls []))) edges_form (edge_form n) edge_row (λ _. end) start
    (to_edges c.new-lines.result c.header.new.lines c.counted.new.self c.in_ok-header.header bs n (c.len-n.ensures ∙ c.in_ok-blocks.blocks.ok.0) c.in_ok-header.ensures c.in_ok-blocks.ensures.reads c.counted-2.new.self ls c.in_ok-loops.ensures.reads)
    c.in_err-edges.ensures.reads)

pub returns-in_err-end : goal.returns-in_err-end
returns-in_err-end c =
    let p = err_from_is_err_and c.from_residual-in_err-end.result c.from_residual-in_err-end.ensures.1 in
    let start : Start c.args.bytes.now c.new-lines.result = record { short = c.if-bytes-gt-MOST_BYTES.false; rest = c.new-lines.ensures.rest; next = c.new-lines.ensures.next } in
    let bs = vec_items c.in_ok-blocks.blocks in
    let ls = vec_items c.in_ok-loops.loops in
    let es = vec_items c.in_ok-edges.edges in
    rw (p.1, p.2)
    (refused_end c.args.bytes.now c.new-lines.result c.counted-3.new.self (rows (contents_of c.in_ok-header.header bs ls es)) _ start
    (to_end c.new-lines.result c.header.new.lines c.counted.new.self c.in_ok-header.header bs c.len-n.result (c.len-n.ensures ∙ c.in_ok-blocks.blocks.ok.0) c.in_ok-header.ensures c.in_ok-blocks.ensures.reads c.counted-2.new.self c.counted-3.new.self ls es c.in_ok-loops.ensures.reads c.in_ok-edges.ensures.reads)
    c.in_err-end.ensures)

pub invariant_of-result : goal.invariant_of-result
invariant_of-result c =
    let start : Start c.args.bytes.now c.new-lines.result = record { short = c.if-bytes-gt-MOST_BYTES.false; rest = c.new-lines.ensures.rest; next = c.new-lines.ensures.next } in
    let r = to_record c.new-lines.result c.header.new.lines c.counted.new.self c.in_ok-header.header (vec_items c.in_ok-blocks.blocks) c.len-n.result (c.len-n.ensures ∙ c.in_ok-blocks.blocks.ok.0) c.in_ok-header.ensures c.in_ok-blocks.ensures.reads c.args.bytes.now start
    c.counted-2.new.self c.counted-3.new.self (vec_items c.in_ok-loops.loops) (vec_items c.in_ok-edges.edges) c.in_ok-loops.ensures.reads c.in_ok-edges.ensures.reads c.in_ok-end.ensures in
    record { ranges = r.0 }

pub returns : goal.returns
returns c =
    let start : Start c.args.bytes.now c.new-lines.result = record { short = c.if-bytes-gt-MOST_BYTES.false; rest = c.new-lines.ensures.rest; next = c.new-lines.ensures.next } in
    let r = to_record c.new-lines.result c.header.new.lines c.counted.new.self c.in_ok-header.header (vec_items c.in_ok-blocks.blocks) c.len-n.result (c.len-n.ensures ∙ c.in_ok-blocks.blocks.ok.0) c.in_ok-header.ensures c.in_ok-blocks.ensures.reads c.args.bytes.now start
    c.counted-2.new.self c.counted-3.new.self (vec_items c.in_ok-loops.loops) (vec_items c.in_ok-edges.edges) c.in_ok-loops.ensures.reads c.in_ok-edges.ensures.reads c.in_ok-end.ensures in
    (c.if-bytes-gt-MOST_BYTES.false, r.1)
