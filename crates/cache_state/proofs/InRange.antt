-- A record's geometry is in range.
use Rattle.std.proofs.Common.{◌≡◌, true, [], ◌∷◌}
use Rattle.std.proofs.lemmas.Bool.{and_from}
use Rattle.records.specs.Contents.{Contents}
use Rattle.records.specs.Layout.{InFormat, one_of}
use Rattle.records.proofs.Ranges.{ranges}
use Rattle.cache_state.specs.Cache.{in_range}

pub record_in_range : (c : Contents) → InFormat c → in_range c.header.geometry ≡ true
record_in_range c format =
    and_from (one_of (4 ∷ 8 ∷ 16 ∷ 32 ∷ 64 ∷ []) c.header.geometry.line) (one_of (1 ∷ 2 ∷ 4 ∷ 8 ∷ 16 ∷ 32 ∷ 64 ∷ []) c.header.geometry.slots)
    (ranges c format).header.line (ranges c format).header.slots
