use Rattle.std.proofs.Common.{◌≡◌, ◌++◌, length, vec_items, ap, ◌∙◌, arith, rules}
use Rattle.std.specs.List.{range_with_len, flat_map}
use Rattle.task.specs.View.{task_contents}
use Rattle.examine.specs.Findings.{shown}
use Rattle.writer.proofs.Laying.{appends_then, appends_none, appends_same}
use Rattle.writer.proofs.Outcome.{begun}
use Rattle.listing.specs.Text.{head_text, block_text}
use Rattle.listing.proofs.Counted.{joined_count}
use Rattle.listing.proofs.lay_report.Goals as goal

pub loop-b-init : goal.loop-b-init
loop-b-init c = appends_none _

pub loop-b-preserved : goal.loop-b-preserved
loop-b-preserved c =
    let t = task_contents c.args.task.now in
    appends_same (joined_count (block_text t (shown t c.args.found.now)) 0 c.loop-b.b c.loop-b.b (omega arith))
    (appends_then c.loop-b.invariant c.lay_block.ensures)

pub returns : goal.returns
returns c =
    let t = task_contents c.args.task.now in
    let f = shown t c.args.found.now in
    let all : length (vec_items c.args.task.now.«record».blocks) ≡ c.loop-b.b = omega arith in
    let laid = appends_same (ap (λ n. head_text t f ++ flat_map (block_text t f) (range_with_len 0 n)) all)
    (appends_then c.lay_head.ensures c.loop-b.invariant) in
    let same = laid.buffer ∙ c.new-text.ensures.buffer in
    let l = begun c.args.at _ c.args.out.now c.new-text.result _ c.end.result c.new-text.ensures.end c.new-text.ensures.bytes laid c.end.ensures in
    search rules
