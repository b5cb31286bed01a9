-- States along walks: they allow the cache of every run, so a fetch that is sure hits.
use Rattle.std.proofs.Common.{◌≡◌, ℕ, true, List, [], ◌∷◌, length, take, sym, refl, ◌∙◌, subst, length-set}
use Rattle.records.specs.declared.parts.Geometry.{Geometry}
use Rattle.records.specs.declared.parts.Block.{Block}
use Rattle.records.specs.Contents.{Contents}
use Rattle.task.specs.Graph.{block_at}
use Rattle.facts.specs.Kind.{Kind}
use Rattle.facts.specs.Laws.{Lawful, Distributes, Through}
use Rattle.facts.specs.Meaning.{walk_state}
use Rattle.facts.proofs.Order.{through_none, through_then}
use Rattle.cache_state.specs.Cache.{Hits, Cache, slot_of, fetch_lines, fetch_cache, fetch_all, walk_cache}
use Rattle.cache_state.specs.Fetching.{Fetching}
use Rattle.run.specs.Run.{lines_of}
use Rattle.run.proofs.Along.{length-fetches}
use Rattle.categories.specs.Category.{line_of, sure_fetch}

pub length-walk-cache : (g : Geometry) (bs : List Block) (w : List ℕ) (cache : Cache) → length (walk_cache g bs w cache) ≡ length cache
length-walk-cache g bs [] cache = refl
length-walk-cache g bs (p ∷ w) cache = length-fetches g (fetch_lines g (block_at bs p)) (walk_cache g bs w cache) ∙ length-walk-cache g bs w cache

module _ {K : Type 0} {k : Kind K} {fetched : ℕ → K → K} {g : Geometry} (fetching : Fetching g k fetched) where
  -- fetches one after the other go through joins
  pub through_fetches : ((t : ℕ) → Distributes k (fetched t)) → (ts : List ℕ) → Through k (fetch_all fetched ts)
  through_fetches d [] = through_none
  through_fetches d (t ∷ ts) =
      through_then {f = fetched t} {g = fetch_all fetched ts} (record { respects = fetching.fetches t; distributes = d t }) (through_fetches d ts)

  pub fetches_allow : (ts : List ℕ) (x : K) (cache : Cache) → length cache ≡ g.slots → k.allows x cache
      → k.allows (fetch_all fetched ts x) (fetch_all (fetch_cache g) ts cache)
  fetches_allow [] x cache len a = a
  fetches_allow (t ∷ ts) x cache len a =
      fetches_allow ts (fetched t x) (fetch_cache g t cache) (length-set cache (slot_of g t) t ∙ len) (fetching.follows t x cache len a)

  module _ (lawful : Lawful k) (bs : List Block) (cache : Cache) (len : length cache ≡ g.slots) where
    pub walk_allows : (w : List ℕ) → k.allows (walk_state k bs w) (walk_cache g bs w cache)
    walk_allows [] = lawful.every cache
    walk_allows (p ∷ w) =
        subst (λ x. k.allows x (walk_cache g bs (p ∷ w) cache)) (sym (fetching.passing p (block_at bs p) (walk_state k bs w)))
        (fetches_allow (fetch_lines g (block_at bs p)) (walk_state k bs w) (walk_cache g bs w cache) (length-walk-cache g bs w cache ∙ len) (walk_allows w))

-- a fetch that is sure in the walk's state hits
pub sure_hits : {K : Type 0} {k : Kind K} {fetched : ℕ → K → K} (c : Contents) → Fetching c.header.geometry k fetched → Lawful k
    → (cache : Cache) → length cache ≡ c.header.geometry.slots → (w : List ℕ) (b j : ℕ)
    → sure_fetch k fetched c (walk_state k c.blocks w) b j ≡ true → Hits c cache w b j
sure_hits {k = k} {fetched = fetched} c fetching lawful cache len w b j s =
    let g = c.header.geometry in
    let x = fetch_all fetched (take j (lines_of c b)) (walk_state k c.blocks w) in
    let at = fetch_all (fetch_cache g) (take j (lines_of c b)) (walk_cache g c.blocks w cache) in
    (fetching.held at (line_of c b j)).0
    (lawful.sound x (line_of c b j) at s
    (fetches_allow fetching (take j (lines_of c b)) (walk_state k c.blocks w) (walk_cache g c.blocks w cache)
    (length-walk-cache g c.blocks w cache ∙ len) (walk_allows fetching lawful c.blocks cache len w)))
