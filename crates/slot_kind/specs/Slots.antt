-- The slot kind of cache state: for each slot, the program line known to be in it.
use Rattle.std.specs.Prelude.{◌≡◌, ℕ, zero, suc, ◌+◌, ◌<◌, Bool, true, cond, not, ◌&&◌, List, [], ◌∷◌, Some, None, Option, replicate, ◌==◌, ◌≢◌, nat_le, slice_index_or}
use Rattle.records.specs.declared.parts.Geometry.{Geometry}
use Rattle.facts.specs.Kind.{Situation, Kind}
use Rattle.cache_state.specs.Cache.{Resident, empty, slot_of, fetch_all, fetch_lines}
use Rattle.slot_kind.specs.declared.SlotState.{SlotState}

-- the line known to be in a slot, or `empty` if none is
abbrev pub line_in : List ℕ → ℕ → ℕ
line_in a i = slice_index_or a i empty

-- the line that both know
abbrev pub agreed : ℕ → ℕ → ℕ
agreed t u = cond (t == u) t empty

-- what both know of each slot
abbrev pub common_lines : List ℕ → List ℕ → List ℕ
common_lines [] b = []
common_lines (t ∷ a) [] = []
common_lines (t ∷ a) (u ∷ b) = agreed t u ∷ common_lines a b

-- line t stored in a slot; of the slots before it that a short list lacks, nothing is known
abbrev pub stored_line : List ℕ → ℕ → ℕ → List ℕ
stored_line [] zero t = t ∷ []
stored_line [] (suc i) t = empty ∷ stored_line [] i t
stored_line (u ∷ a) zero t = t ∷ a
stored_line (u ∷ a) (suc i) t = u ∷ stored_line a i t

-- a slot counts if its line is known
abbrev pub counted : ℕ → ℕ
counted t = cond (t == empty) 0 1

-- how many of the first n slots have a known line
abbrev pub known_slots : List ℕ → ℕ → ℕ
known_slots a zero = 0
known_slots a (suc n) = counted (line_in a n) + known_slots a n

-- Below, a state's lines are None where no walk has come yet: it adds nothing to a join, and is sure of every line.

-- the cache holds every known line
abbrev pub slots_allow : Geometry → Option (List ℕ) → Situation → Type 0
slots_allow g None c = ⊥
slots_allow g (Some a) c = (i : ℕ) → i < g.slots → (line_in a i ≢ empty) → slice_index_or c i empty ≡ line_in a i

-- line t is known to be in its slot, and is no mark
abbrev pub slots_sure : Geometry → Option (List ℕ) → ℕ → Bool
slots_sure g None t = true
slots_sure g (Some a) t = line_in a (slot_of g t) == t && not (t == empty)

-- what both know
abbrev pub slots_joined : Option (List ℕ) → Option (List ℕ) → Option (List ℕ)
slots_joined None y = y
slots_joined (Some a) None = Some a
slots_joined (Some a) (Some b) = Some (common_lines a b)

-- a state falls by forgetting lines, from above all that know some
abbrev pub slots_ranked : Geometry → Option (List ℕ) → ℕ
slots_ranked g None = g.slots + 1
slots_ranked g (Some a) = known_slots a g.slots

-- after a fetch of line t it is known to be in its slot
abbrev pub lines_fetched : Geometry → ℕ → Option (List ℕ) → Option (List ℕ)
lines_fetched g t None = None
lines_fetched g t (Some a) = Some (stored_line a (slot_of g t) t)

-- the state with these lines
abbrev pub holding : Option (List ℕ) → SlotState
holding lines = record { lines = lines }

-- the state after a fetch of line t
abbrev pub slots_fetched : Geometry → ℕ → SlotState → SlotState
slots_fetched g t x = holding (lines_fetched g t x.lines)

-- it has room for 64 slots
abbrev pub slots_taken : Geometry → Bool
slots_taken g = nat_le 1 g.slots && nat_le g.slots 64

-- the slot kind in a cache of this geometry
abbrev pub slot_kind : Geometry → Kind SlotState
slot_kind g = record {
  allows = λ x c. slots_allow g x.lines c;
  has = Resident g;
  sure = λ x t. slots_sure g x.lines t;
  joined = λ x y. holding (slots_joined x.lines y.lines);
  ranked = λ x. slots_ranked g x.lines;
  height = g.slots + 1;
  nothing_yet = holding None;
  open_state = holding (Some (replicate 64 empty));
  passed = λ _ block x. fetch_all (slots_fetched g) (fetch_lines g block) x;
}
