-- What each loop of the search starts from, and the sizes of what it adds up.
use Rattle.std.specs.Prelude.{◌≡◌, ℕ, suc, ◌+◌, ◌^◌, ◌<◌, ◌≤◌, true, List, [], ◌∷◌, length}
use Rattle.std.specs.List.{AllByRecursion}
use Rattle.records.specs.declared.parts.Loop.{Loop}
use Rattle.records.specs.declared.parts.Edge.{Edge}
use Rattle.records.specs.Contents.{Contents}
use Rattle.records.specs.Layout.{InFormat}
use Rattle.task.specs.Graph.{loop_at, edge_at, Within}
use Rattle.task.specs.Rules.{Sound}
use Rattle.walks.specs.Walk.{all_loops}
use Rattle.tally.specs.Laws.{Ops}
use Rattle.longest.specs.declared.ByRound.{ByRound}
use Rattle.longest.specs.declared.Cell.{Cell}
use Rattle.longest.specs.Charge.{Costs}
use Rattle.longest.specs.Search.{backward, none_yet, cell_at, value, round_of, turned, before, table_from}

-- the edges are listed by the blocks that they leave
abbrev pub Sorted : List Edge → Type 0
Sorted [] = Unit {0}
Sorted (e ∷ es) = AllByRecursion (λ d. e.from ≤ d.from) es × Sorted es

-- the edges back to the loop's header leave blocks of the loop
abbrev pub BacksInside : Loop → List Edge → Type 0
BacksInside l es = (j : ℕ) → j < length es → backward l (edge_at es j) ≡ true → (edge_at es j).from ≤ l.last

-- every cost is below 2 to the 32nd
pub record Cheap {T : Type 0} (size : T → ℕ) (costs : Costs T) (c : Contents) : Type 0 where
  pub first : (b : ℕ) → b < length c.blocks → size (costs.first b) < 2 ^ 32
  pub later : (b : ℕ) → b < length c.blocks → size (costs.later b) < 2 ^ 32
  pub stay : (i : ℕ) → i < length (all_loops c) → size (costs.stay i) < 2 ^ 32

-- anchors stand at or before their blocks
abbrev pub Low : {T : Type 0} → Ops T → List (Cell T) → Type 0
Low m s = (a : ℕ) → (cell_at m s a).anchor ≤ a

-- what is charged is small in each kind of round
abbrev pub BothSmall : {T : Type 0} → (T → ℕ) → ByRound T → Type 0
BothSmall size x = (size x.first < 2 ^ 63) × (size x.later < 2 ^ 63)

module _ {T : Type 0} (m : Ops T) (size : T → ℕ) where
  -- the values of the loop's blocks are small
  abbrev pub ValuesSmall : Loop → List (Cell T) → Type 0
  ValuesSmall l s = (b : ℕ) → Within l b → BothSmall size (value m s b)

  -- the sums of a stay at a block of this value: of one round, and of as many as the limit allows
  pub record Small (limit : ℕ) (stay : T) (turn x : ByRound T) : Type 0 where
    pub one : size stay + size x.first < 2 ^ 63
    pub later : size x.later < 2 ^ 63
    pub all : 1 < limit → size (before m stay turn limit) + size x.later < 2 ^ 63

  -- the sums of a loop, when what is held before it is s
  abbrev pub LoopSmall : List Edge → Loop → T → List (Cell T) → Type 0
  LoopSmall es l stay s =
      (b : ℕ) → Within l b → Small l.limit stay (turned m l (round_of m l es s) es (none_yet m)) (value m (round_of m l es s) b)

  -- every sum of the search is below 2 to the 63rd
  abbrev pub StaysSmall : Type 0
  StaysSmall =
      (costs : Costs T) (c : Contents) → InFormat c → Sound c → Cheap size costs c
      → (i : ℕ) → i < length (all_loops c) → LoopSmall c.edges (loop_at (all_loops c) i) (costs.stay i) (table_from m costs c (suc i))

  -- a loop can be done: what is held before it is s
  pub record Ready (es : List Edge) (l : Loop) (stay : T) (s : List (Cell T)) : Type 0 where
    pub low : Low m s
    pub room : l.last < length s
    pub some : 1 ≤ l.limit
    pub sorted : Sorted es
    pub backs : BacksInside l es
    pub small : LoopSmall es l stay s
