-- What a kind of cache state says of the cache, from whatever cache a walk starts.
use Rattle.std.specs.Prelude.{◌≡◌, ℕ, ◌<◌, true, ◌↔◌, List, ◌∷◌, length}
use Rattle.records.specs.declared.parts.Geometry.{Geometry}
use Rattle.records.specs.declared.parts.Block.{Block}
use Rattle.records.specs.Contents.{Contents}
use Rattle.records.specs.Layout.{InFormat}
use Rattle.task.specs.Graph.{block_at, loop_at, Within}
use Rattle.task.specs.Laws.{Laws}
use Rattle.walks.specs.Walk.{Walk, rounds, all_loops}
use Rattle.facts.specs.Kind.{Kind}
use Rattle.facts.specs.Settling.{state_at, task_states, first_states}
use Rattle.facts.specs.Meaning.{walk_state}
use Rattle.cache_state.specs.Cache.{Cache, Resident, fetch_cache, fetch_all, walk_cache}
use Rattle.cache_state.specs.Fetching.{sure_fetch}

-- State x allows the cache, and what it is sure of, after any fetches, is resident.
pub record Tracks {K : Type 0} (g : Geometry) (k : Kind K) (fetched : ℕ → K → K) (x : K) (c : Cache) : Type 0 where
  pub allowed : k.allows x c
  pub hits : (ts : List ℕ) (t : ℕ) → k.sure (fetch_all fetched ts x) t ≡ true → Resident g (fetch_all (fetch_cache g) ts c) t

-- The states of a walk, of the whole task and of a loop's first round track the cache, whatever it was at the start.
pub record Sound {K : Type 0} (g : Geometry) (k : Kind K) (fetched : ℕ → K → K) : Type 0 where
  pub walked : (bs : List Block) (w : List ℕ) (start : Cache) → length start ≡ g.slots → Tracks g k fetched (walk_state k bs w) (walk_cache g bs w start)
  pub settled : (c : Contents) → InFormat c → Laws c → (b : ℕ) (w : List ℕ) (start : Cache) → length start ≡ g.slots → Walk c.edges 0 w b
      → Tracks g k fetched (state_at k (task_states k c).0 b) (walk_cache g c.blocks w start)
  pub first : (c : Contents) → InFormat c → Laws c → (i b : ℕ) (w : List ℕ) (start : Cache) → i < length (all_loops c) → length start ≡ g.slots
      → Walk c.edges 0 w b → rounds (loop_at (all_loops c) i) (b ∷ w) ≡ 1
      → Tracks g k fetched (state_at k (first_states k c (loop_at (all_loops c) i)).0 b) (walk_cache g c.blocks w start)

-- A fetch is sure in the settled state of its block exactly when it is in the state of every walk to the block, and in
-- that of a loop's first round when it is in the state of every walk that stands there in a first round.
pub record Everywhere {K : Type 0} (g : Geometry) (k : Kind K) (fetched : ℕ → K → K) (c : Contents) : Type 0 where
  pub settled : (b j : ℕ) → b < length c.blocks
      → (sure_fetch g k fetched (block_at c.blocks b) j (state_at k (task_states k c).0 b) ≡ true)
      ↔ ((w : List ℕ) → Walk c.edges 0 w b → sure_fetch g k fetched (block_at c.blocks b) j (walk_state k c.blocks w) ≡ true)
  pub first : (i b j : ℕ) → i < length (all_loops c) → Within (loop_at (all_loops c) i) b
      → (sure_fetch g k fetched (block_at c.blocks b) j (state_at k (first_states k c (loop_at (all_loops c) i)).0 b) ≡ true)
      ↔ ((w : List ℕ) → Walk c.edges 0 w b → rounds (loop_at (all_loops c) i) (b ∷ w) ≡ 1
      → sure_fetch g k fetched (block_at c.blocks b) j (walk_state k c.blocks w) ≡ true)

-- of every task
abbrev pub Exactly : {K : Type 0} → Geometry → Kind K → (ℕ → K → K) → Type 0
Exactly g k fetched = (c : Contents) → InFormat c → Laws c → Everywhere g k fetched c
