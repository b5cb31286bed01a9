-- What is counted of blocks and stays, priced in a tally.
use Rattle.std.specs.Prelude.{ℕ, ◌+◌, ◌*◌, List, slice_index, slice_index_or}
use Rattle.records.specs.declared.parts.Header.{Header}
use Rattle.records.specs.declared.parts.Block.{Block}
use Rattle.records.specs.Contents.{Contents}
use Rattle.task.specs.Graph.{block_at}
use Rattle.tally.specs.Kinds.{Pair}
use Rattle.longest.specs.declared.ByRound.{ByRound}
use Rattle.longest.specs.Charge.{Costs}
use Rattle.longest.specs.Search.{by_round}

-- a block of which n fetches pay, and a stay at whose loop n lines are charged, in cycles
abbrev pub block_cycles : Header → Block → ℕ → ℕ
block_cycles h b n = b.cycles + (h.hit * b.fetches + h.penalty * n)

abbrev pub stay_cycles : Header → ℕ → ℕ
stay_cycles h n = h.penalty * n

-- and as misses and fetches
abbrev pub block_pair : Header → Block → ℕ → Pair
block_pair h b n = (n, b.fetches)

abbrev pub stay_pair : Header → ℕ → Pair
stay_pair h n = (n, 0)

abbrev pub count_at : List (ByRound ℕ) → ℕ → ByRound ℕ
count_at ps b = slice_index_or ps b (by_round 0 0)

-- a block with its count in one kind of round
abbrev pub block_priced : {T : Type 0} → (Header → Block → ℕ → T) → Header → Block × ℕ → T
block_priced block h p = block h p.0 p.1

-- The costs by two lists of counts: by block the fetches that pay in each kind of round, and by loop the lines charged.
abbrev pub priced : {T : Type 0} → (Header → Block → ℕ → T) → (Header → ℕ → T) → Contents → List (ByRound ℕ) → List ℕ → Costs T
priced block stay c ps ss = record {
  first = λ b. block c.header (block_at c.blocks b) (count_at ps b).first;
  later = λ b. block c.header (block_at c.blocks b) (count_at ps b).later;
  stay = λ i. stay c.header (slice_index ss i);
}
