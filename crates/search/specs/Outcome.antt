-- What a search answers.
use Rattle.std.specs.Prelude.{◌≡◌, ℕ, suc, ◌^◌, ◌<◌, List, length, All, Some, None, Option, slice_index_or}
use Rattle.records.specs.Contents.{Contents}
use Rattle.tally.specs.Laws.{Ops}
use Rattle.longest.specs.declared.Cell.{Cell}
use Rattle.longest.specs.Charge.{Costs, GreatestAt, Greatest}
use Rattle.longest.specs.Search.{cell_at, table, figure_of}

-- the costs in three lists: by block in a first and in a later round, and by loop, the task loop first
abbrev pub costs_of : {T : Type 0} → Ops T → List T → List T → List T → Costs T
costs_of m fs ns ss = record { first = λ b. slice_index_or fs b m.none; later = λ b. slice_index_or ns b m.none; stay = λ i. slice_index_or ss i m.none }

-- a cost is not too large
abbrev pub Fits : {T : Type 0} → (T → ℕ) → T → Type 0
Fits size x = size x < 2 ^ 32

-- a list of n costs, none of them too large
pub record CostList {T : Type 0} (size : T → ℕ) (n : ℕ) (xs : List T) : Type 0 where
  pub long : length xs ≡ n
  pub fits : All (Fits size) xs

-- the lists are as long as the task asks, and no cost is too large
pub record Accepted {T : Type 0} (size : T → ℕ) (c : Contents) (fs ns ss : List T) (s : List (Cell T)) : Type 0 where
  pub first : CostList size (length c.blocks) fs
  pub later : CostList size (length c.blocks) ns
  pub stays : CostList size (suc (length c.loops)) ss
  pub cells : length s ≡ length c.blocks

-- what a search of an accepted call finds: the greatest charge, and in the cells that to each block
pub record Found {T : Type 0} (m : Ops T) (costs : Costs T) (c : Contents) (s : List (Cell T)) (t : T) : Type 0 where
  pub greatest : Greatest m costs c t
  pub figure : t ≡ figure_of m costs c
  pub cells : s ≡ table m costs c
  pub each : (b : ℕ) → b < length c.blocks → GreatestAt m costs c b (cell_at m s b).weight.first

-- the answer, and the cells left behind
abbrev pub Answers : {T : Type 0} → Ops T → (T → ℕ) → Contents → List T → List T → List T → List (Cell T) → List (Cell T) → Option T
    → Type 0
Answers m size c fs ns ss before after (Some t) = Accepted size c fs ns ss before × Found m (costs_of m fs ns ss) c after t
Answers m size c fs ns ss before after None = (Accepted size c fs ns ss before → ⊥) × (after ≡ before)
