-- A worked record: four blocks, and a loop of two of them.
use Rattle.std.specs.Prelude.{[], ◌∷◌}
use Rattle.records.specs.Contents.{Contents}

abbrev pub example : Contents
example =
    record {
      header = record { geometry = record { line = 16; slots = 2 }; hit = 1; penalty = 9; window = 1000 };
      blocks =
          record { address = 0; fetches = 2; cycles = 0 }
          ∷ record { address = 8; fetches = 2; cycles = 0 }
          ∷ record { address = 32; fetches = 1; cycles = 0 }
          ∷ record { address = 36; fetches = 1; cycles = 0 }
          ∷ [];
      loops = record { header = 1; last = 2; limit = 5 } ∷ [];
      edges = record { from = 0; to = 1 } ∷ record { from = 1; to = 2 } ∷ record { from = 2; to = 1 } ∷ record { from = 2; to = 3 } ∷ [];
    }
