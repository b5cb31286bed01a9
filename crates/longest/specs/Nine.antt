-- A worked task of nine blocks: a main program whose loop of ten rounds calls a function twice.
use Rattle.std.specs.Prelude.{ℕ, [], ◌∷◌}
use Rattle.records.specs.declared.parts.Block.{Block}
use Rattle.records.specs.declared.parts.Loop.{Loop}
use Rattle.records.specs.declared.parts.Edge.{Edge}
use Rattle.records.specs.Contents.{Contents}
use Rattle.task.specs.Graph.{block_at}
use Rattle.longest.specs.Charge.{Costs}

abbrev block : ℕ → ℕ → Block
block a n = record { address = a; fetches = n; cycles = 0 }

abbrev loop : ℕ → ℕ → ℕ → Loop
loop h l n = record { header = h; last = l; limit = n }

abbrev edge : ℕ → ℕ → Edge
edge p b = record { from = p; to = b }

abbrev pub nine : Contents
nine = record {
  header = record { geometry = record { line = 16; slots = 4 }; hit = 1; penalty = 9; window = 1000 };
  blocks = block 0 5 ∷ block 20 2 ∷ block 76 5 ∷ block 28 3 ∷ block 40 2 ∷ block 76 5 ∷ block 48 2 ∷ block 56 3 ∷ block 68 2 ∷ [];
  loops = loop 1 7 10 ∷ loop 2 2 1 ∷ loop 5 5 1 ∷ [];
  edges = edge 0 1 ∷ edge 1 2 ∷ edge 2 3 ∷ edge 3 4 ∷ edge 3 7 ∷ edge 4 5 ∷ edge 5 6 ∷ edge 6 7 ∷ edge 7 1 ∷ edge 7 8 ∷ [];
}

-- a block costs its fetches, and a stay in loop i costs s i
abbrev pub by_fetches : (ℕ → ℕ) → Costs ℕ
by_fetches s = record { first = λ b. (block_at nine.blocks b).fetches; later = λ b. (block_at nine.blocks b).fetches; stay = s }
