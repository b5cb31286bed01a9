-- The laws of a kind of facts. An implementation gives its `kind` by definitions in its own specs/, and `lawful`
-- and `distributing` by these records, which it proves there too. They are owed of every value of the state's
-- type, also of those that no code makes: so let the definitions read a state only where the geometry has a place.
use Rattle.std.specs.Prelude.{◌≡◌, ℕ, ◌<◌, ◌≤◌, true, ◌&&◌, ◌⊎◌}
use Rattle.records.specs.declared.parts.Block.{Block}
use Rattle.facts.specs.Kind.{Situation, Kind}

-- two states allow and are sure of the same
pub record Alike {K : Type 0} (k : Kind K) (x y : K) : Type 0 where
  pub to : (s : Situation) → k.allows x s → k.allows y s
  pub fro : (s : Situation) → k.allows y s → k.allows x s
  pub same : (t : ℕ) → k.sure x t ≡ k.sure y t

-- x lies above y: joining y into x leaves it alike
abbrev pub Above : {K : Type 0} → Kind K → K → K → Type 0
Above k x y = Alike k (k.joined x y) x

-- g takes alike states to alike states
abbrev pub Respects : {K : Type 0} → Kind K → (K → K) → Type 0
Respects {K} k g = (x y : K) → Alike k x y → Alike k (g x) (g y)

-- What every kind of facts owes.
pub record Lawful {K : Type 0} (k : Kind K) : Type 0 where
  -- nothing_yet allows nothing, and open everything
  pub none : (s : Situation) → k.allows k.nothing_yet s → ⊥
  pub every : (s : Situation) → k.allows k.open_state s
  -- a join allows what its left part allows, and so, by `comm`, what its right part does
  pub wider : (x y : K) (s : Situation) → k.allows x s → k.allows (k.joined x y) s
  -- a state is sure only of what each allowed situation has
  pub sound : (x : K) (t : ℕ) (s : Situation) → k.sure x t ≡ true → k.allows x s → k.has s t
  -- nothing_yet is sure of everything, and a join of what both its parts are sure of
  pub vacuous : (t : ℕ) → k.sure k.nothing_yet t ≡ true
  pub both : (x y : K) (t : ℕ) → k.sure (k.joined x y) t ≡ (k.sure x t && k.sure y t)
  -- alike states have equal ranks, and join and pass alike
  pub level : (x y : K) → Alike k x y → k.ranked x ≡ k.ranked y
  pub joins : (x x' y y' : K) → Alike k x x' → Alike k y y' → Alike k (k.joined x y) (k.joined x' y')
  pub passes : (b : ℕ) (c : Block) → Respects k (k.passed b c)
  -- joining is associative, commutative and idempotent, and nothing_yet is neutral
  pub assoc : (x y z : K) → Alike k (k.joined (k.joined x y) z) (k.joined x (k.joined y z))
  pub comm : (x y : K) → Alike k (k.joined x y) (k.joined y x)
  pub idem : (x : K) → Alike k (k.joined x x) x
  pub neutral : (x : K) → Alike k (k.joined x k.nothing_yet) x
  -- a rank is at most the height, and falls whenever a join changes the state
  pub bounded : (x : K) → k.ranked x ≤ k.height
  pub low : k.height ≤ 1000000
  pub falls : (x y : K) → Alike k (k.joined x y) x ⊎ (k.ranked (k.joined x y) < k.ranked x)

-- g distributes over joining and keeps nothing_yet
pub record Distributes {K : Type 0} (k : Kind K) (g : K → K) : Type 0 where
  pub spreads : (x y : K) → Alike k (g (k.joined x y)) (k.joined (g x) (g y))
  pub keeps : Alike k (g k.nothing_yet) k.nothing_yet

-- What a kind owes whose settled states are exact: passing a block distributes.
abbrev pub Distributing : {K : Type 0} → Kind K → Type 0
Distributing k = (b : ℕ) (c : Block) → Distributes k (k.passed b c)

-- a map of states that goes through joins, as passing a block does, or its first fetches
pub record Through {K : Type 0} (k : Kind K) (g : K → K) : Type 0 where
  pub respects : Respects k g
  pub distributes : Distributes k g
