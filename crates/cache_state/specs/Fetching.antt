-- The laws of a kind of cache state. With `spreading`, that each fetch distributes, the law `distributing` of a kind
-- whose `passed` is `fetch_all fetched (fetch_lines g c)` follows (`passing_distributes` in proofs/Fetches.antt).
use Rattle.std.specs.Prelude.{◌≡◌, ℕ, Bool, ◌↔◌, length, take}
use Rattle.records.specs.declared.parts.Geometry.{Geometry}
use Rattle.records.specs.declared.parts.Block.{Block}
use Rattle.facts.specs.Kind.{Kind}
use Rattle.facts.specs.Laws.{Respects}
use Rattle.cache_state.specs.Cache.{Cache, Resident, fetch_cache, fetch_all, fetch_line, fetch_lines}

-- A kind of facts whose situations are caches and whose things are lines, and which takes a fetch.
pub record Fetching {K : Type 0} (g : Geometry) (k : Kind K) (fetched : ℕ → K → K) : Type 0 where
  -- a cache has the lines that are resident in it
  pub held : (c : Cache) (t : ℕ) → k.has c t ↔ Resident g c t
  -- after a fetch the state allows each formerly allowed cache as that fetch leaves it
  pub follows : (t : ℕ) (x : K) (c : Cache) → length c ≡ g.slots → k.allows x c → k.allows (fetched t x) (fetch_cache g t c)
  -- alike states take a fetch alike
  pub fetches : (t : ℕ) → Respects k (fetched t)
  -- passing a block is its fetches in order
  pub passing : (b : ℕ) (c : Block) (x : K) → k.passed b c x ≡ fetch_all fetched (fetch_lines g c) x

-- Fetch j of a block is sure in state x: after the block's earlier fetches, x is sure of its line.
abbrev pub sure_fetch : {K : Type 0} → Geometry → Kind K → (ℕ → K → K) → Block → ℕ → K → Bool
sure_fetch g k fetched b j x = k.sure (fetch_all fetched (take j (fetch_lines g b)) x) (fetch_line g b j)
