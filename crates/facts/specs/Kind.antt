-- A kind of facts: what its states say of situations, and how states are joined, ranked and passed through blocks.
use Rattle.std.specs.Prelude.{ℕ, Bool, List}
use Rattle.records.specs.declared.parts.Block.{Block}

-- What a state may allow: what each cache slot holds, or the blocks passed.
abbrev pub Situation : Type 0
Situation = List ℕ

-- A kind whose states are the values of K. Its things are numbers: program lines, or blocks.
pub record Kind (K : Type 0) : Type 1 where
  -- the state allows the situation
  pub allows : K → Situation → Type 0
  -- the situation has the thing
  pub has : Situation → ℕ → Type 0
  -- the state is sure of the thing
  pub sure : K → ℕ → Bool
  pub joined : K → K → K
  pub ranked : K → ℕ
  -- the greatest rank
  pub height : ℕ
  -- it allows no situation
  pub nothing_yet : K
  -- it allows every situation
  pub open_state : K
  -- a state passed through the block of this number
  pub passed : ℕ → Block → K → K
