use Rattle.std.specs.List.{range_with_len, flat_map}
use Rattle.task.specs.View.{task_contents}
use Rattle.examine.specs.Findings.{shown}
use Rattle.writer.specs.Lays.{Appends}
use Rattle.listing.specs.Text.{block_text}
use Rattle.listing.proofs.lay_report.Given as goal

abbrev pub invariant-loop-b : goal.invariant-loop-b
invariant-loop-b l =
    let c = task_contents l.task in
    Appends (flat_map (block_text c (shown c l.found)) (range_with_len 0 l.b)) l.initial.text l.text
