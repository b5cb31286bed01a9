-- A fetch is sure in a settled state exactly when it is on every walk.
use Rattle.std.proofs.Common.{◌≡◌, ℕ, true, ◌↔◌, List, take, sym, refl, subst}
use Rattle.records.specs.declared.parts.Geometry.{Geometry}
use Rattle.records.specs.declared.parts.Block.{Block}
use Rattle.records.specs.Contents.{Contents}
use Rattle.task.specs.Graph.{block_at, loop_at}
use Rattle.walks.specs.Walk.{all_loops}
use Rattle.facts.specs.Kind.{Kind}
use Rattle.facts.specs.Laws.{Lawful, Distributes, Distributing, Through}
use Rattle.facts.specs.Settling.{state_at, task_states, first_states}
use Rattle.facts.specs.Meaning.{walk_state, Standing, StandingFirst, Least, Exact}
use Rattle.facts.proofs.Exact.{exact}
use Rattle.cache_state.specs.Cache.{fetch_line, fetch_lines, fetch_all}
use Rattle.cache_state.specs.Fetching.{Fetching, sure_fetch}
use Rattle.cache_state.specs.Meaning.{Everywhere, Exactly}
use Rattle.cache_state.proofs.Fetches.{fetches_through}

module _ {K : Type 0} {g : Geometry} {k : Kind K} {fetched : ℕ → K → K} (fetching : Fetching g k fetched) (each : (t : ℕ) → Distributes k (fetched t)) where
  through : (ts : List ℕ) → Through k (fetch_all fetched ts)
  through = fetches_through fetched (λ t. record { respects = fetching.fetches t; distributes = each t })

  -- the sum of some states is sure of a fetch exactly when they all are
  sure_of_all : (W : K → Type 0) (x : K) → Least k W x → (b : Block) (j : ℕ)
      → (sure_fetch g k fetched b j x ≡ true) ↔ ((y : K) → W y → sure_fetch g k fetched b j y ≡ true)
  sure_of_all W x sum b j = sum.sure (fetch_all fetched (take j (fetch_lines g b))) (through (take j (fetch_lines g b))) (fetch_line g b j)

  -- of a task whose settled states sum up its walks
  pub everywhere : (c : Contents) → Exact k c → Everywhere g k fetched c
  everywhere c sums = record {
    settled = λ b j l.
        (let s = sure_of_all (Standing k c b) (state_at k (task_states k c).0 b) (sums.whole b l) (block_at c.blocks b) j in (
          λ h w m. s.0 h (walk_state k c.blocks w) (w, m, refl),
          λ h. s.1 (λ y t. subst (λ z. sure_fetch g k fetched (block_at c.blocks b) j z ≡ true) (sym t.2) (h t.0 t.1)),
        ));
    first = λ i b j l n.
        (let s = sure_of_all (StandingFirst k c (loop_at (all_loops c) i) b) (state_at k (first_states k c (loop_at (all_loops c) i)).0 b)
        (sums.first i b l n) (block_at c.blocks b) j in (
          λ h w m o. s.0 h (walk_state k c.blocks w) (w, m, o, refl),
          λ h. s.1 (λ y t. subst (λ z. sure_fetch g k fetched (block_at c.blocks b) j z ≡ true) (sym t.3) (h t.0 t.1 t.2)),
        ));
  }

pub exactly : {K : Type 0} {g : Geometry} {k : Kind K} {fetched : ℕ → K → K} → Lawful k → Distributing k → Fetching g k fetched
    → ((t : ℕ) → Distributes k (fetched t)) → Exactly g k fetched
exactly laws dist fetching each c format graph = everywhere fetching each c (exact laws dist c format graph)
