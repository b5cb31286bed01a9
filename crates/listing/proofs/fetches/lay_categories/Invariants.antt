use Rattle.std.proofs.Common.{◌-◌, ◌∷◌}
use Rattle.std.specs.List.{range_with_len, flat_map}
use Rattle.categories.specs.Letters.{letters_of}
use Rattle.marks.specs.Steps.{place_at}
use Rattle.writer.specs.Lays.{Appends}
use Rattle.listing.proofs.fetches.lay_categories.Given as goal

abbrev pub invariant-loop-level : goal.invariant-loop-level
invariant-loop-level l =
    Appends (flat_map (λ k. 47 ∷ letters_of (place_at l.table l.row k)) (range_with_len 1 (l.level - 1))) l.initial.text l.text
