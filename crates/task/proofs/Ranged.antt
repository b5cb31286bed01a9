-- The ranges of a record's numbers, by place.
use Rattle.std.proofs.Common.{ℕ, ◌*◌, ◌^◌, ◌<◌, ◌≤◌, List, [], ◌∷◌, length, arith}
use Rattle.std.specs.List.{AllByRecursion}
use Rattle.std.proofs.ByRecursion.{All-get_or}
use Rattle.records.specs.declared.parts.Block.{Block}
use Rattle.records.specs.Contents.{Contents}
use Rattle.records.specs.Layout.{InFormat}
use Rattle.records.proofs.Ranges.{BlockRange, LoopRange, EdgeRange, ranges}
use Rattle.task.specs.Graph.{block_at, loop_at, edge_at, total_fetches}

pub block_range_at : (c : Contents) → InFormat c → (b : ℕ) → b < length c.blocks → BlockRange (block_at c.blocks b)
block_range_at c f b h = All-get_or BlockRange c.blocks b _ h (ranges c f).blocks

fetches_at_most : (bs : List Block) → AllByRecursion BlockRange bs → total_fetches bs ≤ 64 * length bs
fetches_at_most [] h = omega arith
fetches_at_most (b ∷ bs) h = let more = fetches_at_most bs h.1 in let few = h.0.fetches in omega arith

-- the fetches of all blocks are few
pub fetches_few : (c : Contents) → InFormat c → total_fetches c.blocks < 2 ^ 32
fetches_few c f =
    let few = (ranges c f).few_blocks in
    omega (arith, fetches_at_most c.blocks (ranges c f).blocks)

pub loop_range_at : (c : Contents) → InFormat c → (i : ℕ) → i < length c.loops → LoopRange (length c.blocks) (loop_at c.loops i)
loop_range_at c f i h = All-get_or (LoopRange (length c.blocks)) c.loops i _ h (ranges c f).loops

pub edge_range_at : (c : Contents) → InFormat c → (k : ℕ) → k < length c.edges → EdgeRange (length c.blocks) (edge_at c.edges k)
edge_range_at c f k h = All-get_or (EdgeRange (length c.blocks)) c.edges k _ h (ranges c f).edges
