use Rattle.std.specs.List.{range_with_len, flat_map}
use Rattle.task.specs.View.{task_contents}
use Rattle.examine.specs.Findings.{shown}
use Rattle.writer.specs.Lays.{Appends}
use Rattle.listing.specs.Text.{fetch_text}
use Rattle.listing.proofs.lay_block.Given as goal

abbrev pub invariant-loop-fetch : goal.invariant-loop-fetch
invariant-loop-fetch l =
    let c = task_contents l.task in
    Appends (flat_map (fetch_text c (shown c l.found) l.b) (range_with_len 0 l.fetch)) l.initial.text l.text
