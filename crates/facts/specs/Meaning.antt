-- What settled states mean.
use Rattle.std.specs.Prelude.{◌≡◌, ℕ, ◌+◌, ◌*◌, ◌<◌, ◌≤◌, true, ◌↔◌, List, [], ◌∷◌, length, ◌≢◌}
use Rattle.records.specs.declared.parts.Block.{Block}
use Rattle.records.specs.declared.parts.Loop.{Loop}
use Rattle.records.specs.Contents.{Contents}
use Rattle.records.specs.Layout.{InFormat}
use Rattle.task.specs.Graph.{block_at, loop_at, Within, Leads}
use Rattle.task.specs.Laws.{Laws}
use Rattle.walks.specs.Walk.{Walk, rounds, all_loops}
use Rattle.facts.specs.Kind.{Kind}
use Rattle.facts.specs.Laws.{Above, Through}
use Rattle.facts.specs.Settling.{Region, state_at, end_state, settled, task_states, first_states}

-- The state of a walk that has left the blocks w behind, the latest first: open passed through them.
abbrev pub walk_state : {K : Type 0} → Kind K → List Block → List ℕ → K
walk_state k bs [] = k.open_state
walk_state k bs (p ∷ w) = k.passed p (block_at bs p) (walk_state k bs w)

-- x is the state of a walk to block b
abbrev pub Standing : {K : Type 0} → Kind K → Contents → ℕ → K → Type 0
Standing k c b x = (w : List ℕ) × Walk c.edges 0 w b × (x ≡ walk_state k c.blocks w)

-- x is the state of a walk that stands at block b in the first round of a stay in loop l
abbrev pub StandingFirst : {K : Type 0} → Kind K → Contents → Loop → ℕ → K → Type 0
StandingFirst k c l b x = (w : List ℕ) × Walk c.edges 0 w b × (rounds l (b ∷ w) ≡ 1) × (x ≡ walk_state k c.blocks w)

-- Settling ends, whatever passing a block does: the passes are few, no edge changes a state
-- any more, and the header has kept its entry state.
pub record Ends {K : Type 0} (k : Kind K) (r : Region) (entry : K) : Type 0 where
  pub few : (settled k r entry).1 ≤ length r.blocks * k.height + 1
  pub still : (p b : ℕ) → Leads r.edges p b → Within r.range p → Within r.range b → (b ≢ r.range.header)
      → Above k (state_at k (settled k r entry).0 b) (end_state k r.blocks (settled k r entry).0 p)
  pub fixed : state_at k (settled k r entry).0 r.range.header ≡ entry

-- x is the least state above those of W; and, after any map that goes through joins, it is sure of just what they all are.
pub record Least {K : Type 0} (k : Kind K) (W : K → Type 0) (x : K) : Type 0 where
  pub above : (y : K) → W y → Above k x y
  pub least : (z : K) → ((y : K) → W y → Above k z y) → Above k z x
  pub sure : (g : K → K) → Through k g → (t : ℕ) → (k.sure (g x) t ≡ true) ↔ ((y : K) → W y → k.sure (g y) t ≡ true)

-- In a task the settled states sum up the walks, and those of a loop's first round the walks that stand in one.
pub record Exact {K : Type 0} (k : Kind K) (c : Contents) : Type 0 where
  pub whole : (b : ℕ) → b < length c.blocks → Least k (Standing k c b) (state_at k (task_states k c).0 b)
  pub first : (i b : ℕ) → i < length (all_loops c) → Within (loop_at (all_loops c) i) b
      → Least k (StandingFirst k c (loop_at (all_loops c) i) b) (state_at k (first_states k c (loop_at (all_loops c) i)).0 b)

-- settling ends, over every range of blocks
abbrev pub Ending : {K : Type 0} → Kind K → Type 0
Ending {K} k = (r : Region) (entry : K) → r.range.header ≤ r.range.last → r.range.last < length r.blocks → Ends k r entry

-- the settled states of every task are exact
abbrev pub Meaningful : {K : Type 0} → Kind K → Type 0
Meaningful k = (c : Contents) → InFormat c → Laws c → Exact k c
