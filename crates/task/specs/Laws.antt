-- What a sound task's graph is like.
use Rattle.std.specs.Prelude.{◌≡◌, ℕ, ◌<◌, ◌≤◌, ◌⊎◌, List, length}
use Rattle.records.specs.declared.parts.Edge.{Edge}
use Rattle.records.specs.Contents.{Contents}
use Rattle.task.specs.Graph.{loop_at, Within, levels, limits, Leads}
use Rattle.task.specs.Rules.{HeadsAround, Repeats}

-- block b is reached from block h by edges that ascend, through blocks of which P holds
pub data Climbs (es : List Edge) (P : ℕ → Type 0) (h : ℕ) : ℕ → Type 0 where
  here : P h → Climbs es P h h
  on : {p b : ℕ} → Climbs es P h p → p < b → Leads es p b → P b → Climbs es P h b

pub record Laws (c : Contents) : Type 0 where
  -- a loop is entered only at its header, and only by a forward edge
  pub entered : (i p b : ℕ) → i < length c.loops → Leads c.edges p b → Within (loop_at c.loops i) b
      → (Within (loop_at c.loops i) p → ⊥) → (b ≡ (loop_at c.loops i).header) × (p < b)
  -- an edge back goes to the header of a loop around its start
  pub back : (p b : ℕ) → Leads c.edges p b → b ≤ p → HeadsAround c.loops b p
  -- of two loops the later has the greater header, and is inside the earlier or behind it
  pub nested : (i j : ℕ) → i < j → j < length c.loops
      → ((loop_at c.loops i).header < (loop_at c.loops j).header)
      × (((loop_at c.loops j).last ≤ (loop_at c.loops i).last) ⊎ ((loop_at c.loops i).last < (loop_at c.loops j).header))
  -- every block is reached from block 0 by ascending edges
  pub reached : (b : ℕ) → b < length c.blocks → Climbs c.edges (λ _. Unit {0}) 0 b
  -- every block of a loop is reached from its header by ascending edges inside it
  pub climbed : (i b : ℕ) → i < length c.loops → Within (loop_at c.loops i) b
      → Climbs c.edges (Within (loop_at c.loops i)) (loop_at c.loops i).header b
  -- a loop that may have several rounds has an edge back
  pub repeats : (i : ℕ) → i < length c.loops → 1 < (loop_at c.loops i).limit → Repeats c.edges (loop_at c.loops i)
  -- few levels, and few rounds in all
  pub shallow : (b : ℕ) → b < length c.blocks → (levels c.loops b ≤ 8) × (limits c.loops b ≤ 1000000)
