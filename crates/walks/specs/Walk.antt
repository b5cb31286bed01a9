-- Walks along the edges, and the stays and rounds of loops on them.
use Rattle.std.specs.Prelude.{◌≡◌, ℕ, zero, suc, ◌-◌, ◌<◌, ◌≤◌, Bool, true, false, cond, not, ◌&&◌, ◌⊎◌, List, [], ◌∷◌, length, ◌==◌}
use Rattle.records.specs.declared.parts.Loop.{Loop}
use Rattle.records.specs.declared.parts.Edge.{Edge}
use Rattle.records.specs.Contents.{Contents}
use Rattle.task.specs.Graph.{loop_at, within, Leads}

-- the whole task as a loop: its one round begins at block 0
abbrev pub task_loop : Contents → Loop
task_loop c = record { header = 0; last = length c.blocks - 1; limit = 1 }

-- the task loop, and then the named loops: an outer loop before those inside it
abbrev pub all_loops : Contents → List Loop
all_loops c = task_loop c ∷ c.loops

-- The innermost of the first n loops that has block b; the task loop, number 0, has every block.
abbrev pub innermost_of : List Loop → ℕ → ℕ → ℕ
innermost_of ls zero b = 0
innermost_of ls (suc n) b = elim (within (loop_at ls n) b) [ true ↦ n | false ↦ innermost_of ls n b ]

-- the number of the innermost loop around block b
abbrev pub innermost : List Loop → ℕ → ℕ
innermost ls b = innermost_of ls (length ls) b

-- A walk from block h stands at block b and has left the blocks w behind it, the latest first.
abbrev pub Walk : List Edge → ℕ → List ℕ → ℕ → Type 0
Walk es h [] b = b ≡ h
Walk es h (p ∷ w) b = Walk es h w p × Leads es p b

-- the number is one of these
abbrev pub Among : ℕ → List ℕ → Type 0
Among x [] = ⊥
Among x (y ∷ ys) = (x ≡ y) ⊎ Among x ys

-- The rounds of the current stay in a loop, after these blocks, the latest first; 0 outside the loop.
abbrev pub rounds : Loop → List ℕ → ℕ
rounds l [] = 0
rounds l (b ∷ w) = cond (within l b) (cond (b == l.header) (suc (rounds l w)) (rounds l w)) 0

-- entering block b after the blocks w begins a stay in the loop
abbrev pub begins : Loop → ℕ → List ℕ → Bool
begins l b [] = within l b
begins l b (p ∷ w) = within l b && not (within l p)

-- at no time on the walk has a stay had more rounds than its loop's limit
abbrev pub Limited : List Loop → List ℕ → Type 0
Limited ls [] = Unit {0}
Limited ls (b ∷ w) = ((i : ℕ) → i < length ls → rounds (loop_at ls i) (b ∷ w) ≤ (loop_at ls i).limit) × Limited ls w
