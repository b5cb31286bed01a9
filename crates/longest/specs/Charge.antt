-- The charge of a walk, over any tally, and the greatest charge.
use Rattle.std.specs.Prelude.{◌≡◌, ℕ, zero, suc, false, cond, List, [], ◌∷◌, length, nat_lt}
use Rattle.records.specs.declared.parts.Loop.{Loop}
use Rattle.records.specs.Contents.{Contents}
use Rattle.task.specs.Graph.{loop_at}
use Rattle.walks.specs.Walk.{all_loops, innermost, Walk, rounds, begins, Limited}
use Rattle.tally.specs.Laws.{Ops}

-- What an entry of each block costs in the first and in a later round of its innermost loop, and each stay begun in a loop.
pub record Costs (T : Type 0) : Type 0 where
  pub first : ℕ → T
  pub later : ℕ → T
  pub stay : ℕ → T

module _ {T : Type 0} (m : Ops T) (costs : Costs T) (ls : List Loop) where
  -- the stays in the first n loops that begin when block b is entered after the blocks w
  abbrev pub begun : ℕ → ℕ → List ℕ → T
  begun zero b w = m.none
  begun (suc n) b w = m.plus (begun n b w) (cond (begins (loop_at ls n) b w) (costs.stay n) m.none)

  -- the entry of block b itself
  abbrev pub entry : ℕ → List ℕ → T
  entry b w = cond (nat_lt 1 (rounds (loop_at ls (innermost ls b)) (b ∷ w))) (costs.later b) (costs.first b)

  -- the charge of these blocks, the latest first
  abbrev pub charge : List ℕ → T
  charge [] = m.none
  charge (b ∷ w) = m.plus (m.plus (charge w) (begun (length ls) b w)) (entry b w)

module _ {T : Type 0} (m : Ops T) (costs : Costs T) (c : Contents) where
  -- the greatest charge of the walks within the limits that end at block b
  pub record GreatestAt (b : ℕ) (figure : T) : Type 0 where
    pub bounded : (w : List ℕ) → Walk c.edges 0 w b → Limited (all_loops c) (b ∷ w)
        → m.below figure (charge m costs (all_loops c) (b ∷ w)) ≡ false
    pub attained : (w : List ℕ) × Walk c.edges 0 w b × Limited (all_loops c) (b ∷ w) × (charge m costs (all_loops c) (b ∷ w) ≡ figure)

  -- the greatest charge of all walks within the limits
  pub record Greatest (figure : T) : Type 0 where
    pub bounded : (b : ℕ) (w : List ℕ) → Walk c.edges 0 w b → Limited (all_loops c) (b ∷ w)
        → m.below figure (charge m costs (all_loops c) (b ∷ w)) ≡ false
    pub attained : (b : ℕ) × (w : List ℕ) × Walk c.edges 0 w b × Limited (all_loops c) (b ∷ w)
        × (charge m costs (all_loops c) (b ∷ w) ≡ figure)
