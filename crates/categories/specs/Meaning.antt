-- What categories mean, that walks keep them, and that the charge covers the plain run.
use Rattle.std.specs.Prelude.{◌≡◌, ℕ, ◌<◌, ◌≤◌, Bool, true, ◌⊎◌, ◌↔◌, List, [], ◌∷◌, length, ◌≢◌, slice_index}
use Rattle.records.specs.declared.parts.Geometry.{Geometry}
use Rattle.records.specs.declared.parts.Loop.{Loop}
use Rattle.records.specs.Contents.{Contents}
use Rattle.records.specs.Layout.{InFormat}
use Rattle.task.specs.Graph.{block_at, loop_at, Within, Leads}
use Rattle.task.specs.Laws.{Laws}
use Rattle.walks.specs.Walk.{Walk, rounds, all_loops, Among}
use Rattle.facts.specs.Kind.{Kind}
use Rattle.facts.specs.Meaning.{walk_state, Exact}
use Rattle.cache_state.specs.Cache.{Cache, Hits, slot_of}
use Rattle.longest.specs.Charge.{charge}
use Rattle.run.specs.Run.{run_along}
use Rattle.categories.specs.declared.category.Category.{Category}
use Rattle.categories.specs.declared.category.Category.TheVariants.{AlwaysHit, FirstMiss, FirstHit, AlwaysMiss}
use Rattle.categories.specs.Category.{fetches_of, line_of, passed_by, sure_fetch, category_of, Marks, marks_of}
use Rattle.categories.specs.Costs.{charged_at, cycle_costs, pair_costs, cycle_tally, pair_tally}

-- `passed x b` exactly where every walk to block x has left block b behind it
abbrev pub PassedExactly : (ℕ → ℕ → Bool) → Contents → Type 0
PassedExactly passed c =
    (x b : ℕ) → x < length c.blocks → b < length c.blocks
    → (passed x b ≡ true) ↔ ((w : List ℕ) → Walk c.edges 0 w x → Among b w)

-- A kind of facts about the blocks passed: open is sure of none of a task's blocks, and passing a block adds that block.
pub record Passing {P : Type 0} (p : Kind P) (c : Contents) : Type 0 where
  pub none : (b : ℕ) → b < length c.blocks → p.sure p.open_state b ≢ true
  pub one : (b d : ℕ) (x : P) → b < length c.blocks → d < length c.blocks
      → (p.sure (p.passed b (block_at c.blocks b) x) d ≡ true) ↔ ((d ≡ b) ⊎ (p.sure x d ≡ true))

-- its settled states tell the blocks passed
abbrev pub PassedBy : {P : Type 0} → Kind P → Type 0
PassedBy p = (c : Contents) → InFormat c → Passing p c → Exact p c → PassedExactly (passed_by p c) c

-- A sound task settled with this kind of states: the settled states sum up the walks, and the test of the blocks passed is exact.
pub record Settled {K : Type 0} (k : Kind K) (passed : ℕ → ℕ → Bool) (c : Contents) : Type 0 where
  pub format : InFormat c
  pub laws : Laws c
  pub exact : Exact k c
  pub gates : PassedExactly passed c

-- the order in which categories are tried
abbrev pub order : Category → ℕ
order AlwaysHit = 0
order FirstMiss = 1
order FirstHit = 2
order AlwaysMiss = 3

-- the first that fits
pub record First (Fits : Category → Type 0) (x : Category) : Type 0 where
  pub fits : Fits x
  pub first : (y : Category) → order y < order x → Fits y → ⊥

module _ {K : Type 0} (k : Kind K) (fetched : ℕ → K → K) (c : Contents) where
  -- Fetch j of block b fits the category at loop l. The walks here need not keep the limits.
  abbrev pub Fitting : ℕ → ℕ → Loop → Category → Type 0
  Fitting b j l AlwaysHit =
      (w : List ℕ) → Walk c.edges 0 w b → sure_fetch k fetched c (walk_state k c.blocks w) b j ≡ true
  Fitting b j l FirstMiss =
      (d h : ℕ) → Within l d → h < fetches_of c d → slot_of c.header.geometry (line_of c d h) ≡ slot_of c.header.geometry (line_of c b j)
      → line_of c d h ≡ line_of c b j
  Fitting b j l FirstHit =
      ((x : ℕ) (w : List ℕ) → Walk c.edges 0 w x → Within l x → Leads c.edges x l.header → Among b (x ∷ w))
      × ((w : List ℕ) → Walk c.edges 0 w b → rounds l (b ∷ w) ≡ 1 → sure_fetch k fetched c (walk_state k c.blocks w) b j ≡ true)
  Fitting b j l AlwaysMiss = Unit {0}

  -- Each fetch has at each loop around its block the first category that fits.
  abbrev pub Means : (ℕ → ℕ → Bool) → Type 0
  Means passed =
      (b j i : ℕ) → b < length c.blocks → j < fetches_of c b → i < length (all_loops c) → Within (loop_at (all_loops c) i) b
      → First (Fitting b j (loop_at (all_loops c) i)) (category_of k fetched c passed b j (loop_at (all_loops c) i))

-- block b was entered before, in the stay in the loop that lasts to the latest of the blocks w
abbrev pub Again : Loop → ℕ → List ℕ → Type 0
Again l b [] = ⊥
Again l b (p ∷ w) = Within l p × ((b ≡ p) ⊎ Again l b w)

-- what a category claims of a fetch, made again in the stay or the first time
abbrev pub Keeps : Category → Type 0 → Type 0 → Type 0
Keeps AlwaysHit again hits = hits
Keeps FirstMiss again hits = again → hits
Keeps FirstHit again hits = (again → ⊥) → hits
Keeps AlwaysMiss again hits = Unit {0}

module _ (c : Contents) (marks : Marks) where
  -- line t is charged at loop i: some fetch of it is a first miss there, and at no loop further out
  abbrev pub Charged : ℕ → ℕ → Type 0
  Charged i t =
      (b j : ℕ) × Within (loop_at (all_loops c) i) b × (j < fetches_of c b) × (line_of c b j ≡ t) × (marks b j i ≡ FirstMiss)
      × ((o : ℕ) → o < i → Within (loop_at (all_loops c) o) b → marks b j o ≢ FirstMiss)

  -- the lines charged at a loop stand in its list, each once
  pub record ChargedOnce (i : ℕ) : Type 0 where
    pub listed : (t : ℕ) → Among t (charged_at c marks i) ↔ Charged i t
    pub once : (p q : ℕ) → p < q → q < length (charged_at c marks i) → slice_index (charged_at c marks i) p ≢ slice_index (charged_at c marks i) q

  module _ (cache : Cache) where
    -- on these blocks, the latest first, each fetch has kept its category at each loop around its block
    abbrev pub Kept : List ℕ → Type 0
    Kept [] = Unit {0}
    Kept (b ∷ w) =
        ((j i : ℕ) → j < fetches_of c b → i < length (all_loops c) → Within (loop_at (all_loops c) i) b
        → Keeps (marks b j i) (Again (loop_at (all_loops c) i) b w) (Hits c cache w b j))
        × Kept w

    -- the charge of these blocks covers the plain run: own cycles, hits and penalties, and the misses; the fetches are the same
    pub record Covers (blocks : List ℕ) : Type 0 where
      pub cycles : (run_along c cache blocks).cycles ≤ charge cycle_tally (cycle_costs c marks) (all_loops c) blocks
      pub misses : (run_along c cache blocks).misses ≤ (charge pair_tally (pair_costs c marks) (all_loops c) blocks).0
      pub fetches : (run_along c cache blocks).fetches ≡ (charge pair_tally (pair_costs c marks) (all_loops c) blocks).1

-- On every walk from any cache, within the limits or not, each fetch keeps its categories.
abbrev pub KeptAlways : Contents → Marks → Type 0
KeptAlways c marks =
    (w : List ℕ) (b : ℕ) (cache : Cache) → Walk c.edges 0 w b → length cache ≡ c.header.geometry.slots → Kept c marks cache (b ∷ w)

-- On every walk from any cache, within the limits or not, the charge covers the run.
abbrev pub CoveredAlways : Contents → Marks → Type 0
CoveredAlways c marks =
    (w : List ℕ) (b : ℕ) (cache : Cache) → Walk c.edges 0 w b → length cache ≡ c.header.geometry.slots → Covers c marks cache (b ∷ w)

-- The categories by a kind of cache state, at each geometry: they mean what they say, are kept, and are charged enough.
module _ {K : Type 0} (kind : Geometry → Kind K) (fetched : Geometry → ℕ → K → K) where
  abbrev pub MeantBy : Type 0
  MeantBy =
      (c : Contents) (passed : ℕ → ℕ → Bool) → Settled (kind c.header.geometry) passed c
      → Means (kind c.header.geometry) (fetched c.header.geometry) c passed

  abbrev pub KeptBy : Type 0
  KeptBy =
      (c : Contents) (passed : ℕ → ℕ → Bool) → Settled (kind c.header.geometry) passed c
      → KeptAlways c (marks_of (kind c.header.geometry) (fetched c.header.geometry) c passed)

  abbrev pub CoveredBy : Type 0
  CoveredBy =
      (c : Contents) (passed : ℕ → ℕ → Bool) → Settled (kind c.header.geometry) passed c
      → CoveredAlways c (marks_of (kind c.header.geometry) (fetched c.header.geometry) c passed)
