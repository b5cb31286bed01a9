-- The lines of the fetches passed so far are added.
use Rattle.std.proofs.Common.{◌≡◌, [], map, get_or, vec_items}
use Rattle.std.specs.List.{range_with_len}
use Rattle.cache_state.specs.Cache.{fetch_line}
use Rattle.categories.specs.Costs.{passing, distinct}
use Rattle.figure.specs.Row.{charged_row}
use Rattle.figure.proofs.lines.add_block.Given as goal

abbrev pub invariant-loop-fetch : goal.invariant-loop-fetch
invariant-loop-fetch l =
    vec_items l.lines ≡ distinct (vec_items l.initial.lines) (map (fetch_line l.geometry l.block) (passing (λ j. charged_row l.level l.depth (get_or l.rows j [])) (range_with_len 0 l.fetch)))
