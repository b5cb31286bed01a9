-- What settling over lent lists answers, and what it leaves there.
use Rattle.std.specs.Prelude.{◌≡◌, ℕ, ◌<◌, ◌≤◌, Bool, true, false, ◌&&◌, List, ◌++◌, length, take, drop, Some, None, Option, nat_le, nat_lt}
use Rattle.std.specs.List.{list_all}
use Rattle.records.specs.declared.parts.Block.{Block}
use Rattle.records.specs.declared.parts.Edge.{Edge}
use Rattle.facts.specs.Kind.{Kind}
use Rattle.facts.specs.Space.{placed}
use Rattle.facts.specs.Settling.{Region, settled, entry_state}

-- a task's blocks, with room for a state of each
abbrev pub roomy : List Block → ℕ → Bool
roomy bs room = nat_le (length bs) 128 && (nat_le (length bs) room && list_all placed bs)

-- the loop is a range of the blocks, and there is room for their states
abbrev pub settleable : Region → ℕ → Bool
settleable r room =
    nat_le r.range.header r.range.last && (nat_lt r.range.last (length r.blocks) && roomy r.blocks room)

-- The passes, and the lent list with the settled states in front; or nothing, and the list as it was.
abbrev pub outcome : {K : Type 0} → Kind K → Bool → Region → K → List K → Option ℕ × List K
outcome k taken r entry before =
    elim (taken && settleable r (length before))
    [ true ↦ (Some (settled k r entry).1, (settled k r entry).0 ++ drop (length r.blocks) before) | false ↦ (None, before) ]

-- the edge starts at one of n blocks
abbrev pub starts_below : ℕ → Edge → Bool
starts_below n e = nat_lt e.from n

-- the state in which stays in the loop begin, from the task's settled states in front of a list, if the lists can be read
abbrev pub entry_of : {K : Type 0} → Kind K → Bool → Region → List K → Option K
entry_of k taken r xs =
    elim (taken && (roomy r.blocks (length xs) && list_all (starts_below (length r.blocks)) r.edges))
    [ true ↦ Some (entry_state k r (take (length r.blocks) xs)) | false ↦ None ]

-- what a pass over n states relies on
pub record Ready (takes : Bool) (r : Region) (n : ℕ) : Type 0 where
  pub taken : takes ≡ true
  pub placed : list_all placed r.blocks ≡ true
  pub room : length r.blocks ≡ n
  pub few : length r.blocks ≤ 128
  pub some : r.range.header ≤ r.range.last
  pub fits : r.range.last < length r.blocks
