-- What the slot kind says of the cache: all that holds from every cache in which a walk may start.
use Rattle.std.specs.Prelude.{◌≡◌, ℕ, ◌<◌, Bool, true, ◌↔◌, List, ◌∷◌, length}
use Rattle.records.specs.Contents.{Contents}
use Rattle.task.specs.Graph.{block_at, loop_at, Within}
use Rattle.walks.specs.Walk.{Walk, rounds, all_loops}
use Rattle.facts.specs.Settling.{state_at, task_states, first_states}
use Rattle.cache_state.specs.Cache.{Cache, Hits as HitsFrom}
use Rattle.cache_state.specs.Fetching.{sure_fetch}
use Rattle.slot_kind.specs.declared.SlotState.{SlotState}
use Rattle.slot_kind.specs.Slots.{slot_kind, slots_fetched}

-- fetch j of block b is sure in a state of the slot kind
abbrev pub slots_sure_fetch : Contents → ℕ → ℕ → SlotState → Bool
slots_sure_fetch c b j x = let g = c.header.geometry in sure_fetch g (slot_kind g) (slots_fetched g) (block_at c.blocks b) j x

-- fetch j of block b hits after the walk w, whatever cache the walk starts with
abbrev pub Hits : Contents → List ℕ → ℕ → ℕ → Type 0
Hits c w b j = (start : Cache) → length start ≡ c.header.geometry.slots → HitsFrom c start w b j

-- it hits on every walk to the block
abbrev pub HitsAlways : Contents → ℕ → ℕ → Type 0
HitsAlways c b j = (w : List ℕ) → Walk c.edges 0 w b → Hits c w b j

-- A fetch is sure in the settled state exactly if it hits after every walk to its block.
abbrev pub SureIsHit : Contents → Type 0
SureIsHit c =
    let k = slot_kind c.header.geometry in
    (b j : ℕ) → b < length c.blocks → j < (block_at c.blocks b).fetches
    → (slots_sure_fetch c b j (state_at k (task_states k c).0 b) ≡ true) ↔ HitsAlways c b j

-- In a loop's first round it is sure exactly if it hits after every walk that stands there in such a round.
abbrev pub FirstIsHit : Contents → Type 0
FirstIsHit c =
    let k = slot_kind c.header.geometry in
    (i b j : ℕ) → i < length (all_loops c) → Within (loop_at (all_loops c) i) b → j < (block_at c.blocks b).fetches
    → (slots_sure_fetch c b j (state_at k (first_states k c (loop_at (all_loops c) i)).0 b) ≡ true)
    ↔ ((w : List ℕ) → Walk c.edges 0 w b → rounds (loop_at (all_loops c) i) (b ∷ w) ≡ 1 → Hits c w b j)
