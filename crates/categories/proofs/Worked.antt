-- Worked tasks: their categories and figures, by computation, with a slot kind over plain lists.
use Rattle.std.proofs.Common.{◌≡◌, ℕ, suc, ◌+◌, ◌<◌, Bool, true, cond, not, ◌&&◌, eqb, List, [], ◌∷◌, length, get_or, set, replicate, refl}
use Rattle.records.specs.declared.parts.Block.{Block}
use Rattle.records.specs.declared.parts.Loop.{Loop}
use Rattle.records.specs.declared.parts.Edge.{Edge}
use Rattle.records.specs.Contents.{Contents}
use Rattle.facts.specs.Kind.{Kind}
use Rattle.cache_state.specs.Cache.{Cache, empty, slot_of, fetch_lines, fetch_all}
use Rattle.longest.specs.Search.{figure_of}
use Rattle.longest.specs.Nine.{nine}
use Rattle.run.specs.Run.{run_along}
use Rattle.categories.specs.declared.category.Category.TheVariants.{AlwaysHit, FirstMiss, FirstHit, AlwaysMiss}
use Rattle.categories.specs.Category.{passed_by, levels_of, marks_of, Marks}
use Rattle.categories.specs.Costs.{charged_at, cycle_costs, pair_costs, cycle_tally, pair_tally}
use Rattle.categories.specs.Meaning.{}

data Slots : Type 0 where
  nothing : Slots
  known : List ℕ → Slots

abbrev common : List ℕ → List ℕ → List ℕ
common [] b = []
common (t ∷ a) [] = []
common (t ∷ a) (u ∷ b) = cond (eqb t u) t empty ∷ common a b

abbrev known_in : List ℕ → ℕ
known_in [] = 0
known_in (t ∷ a) = cond (eqb t empty) 0 1 + known_in a

abbrev joined_slots : Slots → Slots → Slots
joined_slots nothing y = y
joined_slots (known a) nothing = known a
joined_slots (known a) (known b) = known (common a b)

abbrev sure_slots : (ℕ → ℕ) → Slots → ℕ → Bool
sure_slots slot nothing t = true
sure_slots slot (known a) t = eqb (get_or a (slot t) empty) t && not (eqb t empty)

abbrev fetched_slots : (ℕ → ℕ) → ℕ → Slots → Slots
fetched_slots slot t nothing = nothing
fetched_slots slot t (known a) = known (set a (slot t) t)

abbrev ranked_slots : ℕ → Slots → ℕ
ranked_slots n nothing = suc n
ranked_slots n (known a) = known_in a

abbrev allows_slots : Slots → Cache → Type 0
allows_slots nothing cache = ⊥
allows_slots (known a) cache = (i : ℕ) → i < length a → (get_or a i empty ≡ empty → ⊥) → get_or cache i empty ≡ get_or a i empty

-- a slot kind of n slots whose blocks fetch these lines
abbrev slots_by : ℕ → (ℕ → ℕ) → (ℕ → Block → List ℕ) → Kind Slots
slots_by n slot lines = record {
  allows = allows_slots;
  has = λ cache t. get_or cache (slot t) empty ≡ t;
  sure = sure_slots slot;
  joined = joined_slots;
  ranked = ranked_slots n;
  height = suc n;
  nothing_yet = nothing;
  open_state = known (replicate n empty);
  passed = λ b block x. fetch_all (fetched_slots slot) (lines b block) x;
}

module _ (c : Contents) where
  abbrev slots : Kind Slots
  slots = slots_by c.header.geometry.slots (slot_of c.header.geometry) (λ _ block. fetch_lines c.header.geometry block)

  -- the blocks passed: a slot for each block, each block fetching itself
  abbrev blocks_passed : Kind Slots
  blocks_passed = slots_by (length c.blocks) (λ b. b) (λ b _. b ∷ [])

  abbrev marks : Marks
  marks = marks_of slots (fetched_slots (slot_of c.header.geometry)) c (passed_by blocks_passed c)

  abbrev figure : ℕ
  figure = figure_of cycle_tally (cycle_costs c marks) c

  abbrev greatest_pair : ℕ × ℕ
  greatest_pair = figure_of pair_tally (pair_costs c marks) c

abbrev block : ℕ → ℕ → Block
block a n = record { address = a; fetches = n; cycles = 0 }

abbrev edge : ℕ → ℕ → Edge
edge p b = record { from = p; to = b }

abbrev pub record_of : ℕ → List Block → List Loop → List Edge → Contents
record_of n bs ls es =
    record { header = record { geometry = record { line = 16; slots = n }; hit = 1; penalty = 9; window = 1000 }; blocks = bs; loops = ls; edges = es }

abbrev pub record_a : Contents
record_a =
    record_of 4 (block 0 2 ∷ block 8 4 ∷ block 24 2 ∷ []) (record { header = 1; last = 1; limit = 10 } ∷ []) (edge 0 1 ∷ edge 1 1 ∷ edge 1 2 ∷ [])

abbrev pub record_b : Contents
record_b =
    record_of 2 (block 0 2 ∷ block 8 2 ∷ block 32 1 ∷ block 36 1 ∷ []) (record { header = 1; last = 2; limit = 5 } ∷ [])
    (edge 0 1 ∷ edge 1 2 ∷ edge 2 1 ∷ edge 2 3 ∷ [])

abbrev pub record_c : Contents
record_c = record_of 1 (block 0 1 ∷ []) [] []

figure_A : figure record_a ≡ 62
figure_A = refl

pair_A : greatest_pair record_a ≡ (2, 44)
pair_A = refl

marks_A : (marks record_a 0 0 0 ≡ FirstMiss) × (marks record_a 0 1 0 ≡ AlwaysHit) × (marks record_a 1 0 1 ≡ AlwaysHit) × (marks record_a 1 2 1 ≡ FirstMiss) × (marks record_a 1 2 0 ≡ FirstMiss)
marks_A = (refl, refl, refl, refl, refl)

-- line 1 is a first miss at both loops, and charged at the outer one alone
charged_A : (charged_at record_a (marks record_a) 0 ≡ (0 ∷ 1 ∷ [])) × (charged_at record_a (marks record_a) 1 ≡ [])
charged_A = (refl, refl)

figure_B : figure record_b ≡ 108
figure_B = refl

marks_B : (marks record_b 1 0 1 ≡ FirstHit) × (marks record_b 1 0 0 ≡ AlwaysMiss) × (marks record_b 2 0 1 ≡ AlwaysMiss) × (marks record_b 2 0 0 ≡ AlwaysMiss)
marks_B = (refl, refl, refl, refl)

figure_C : (figure record_c ≡ 10) × (marks record_c 0 0 0 ≡ FirstMiss)
figure_C = (refl, refl)

levels_B : (levels_of record_b 1 ≡ (1 ∷ 0 ∷ [])) × (levels_of record_b 3 ≡ (0 ∷ []))
levels_B = (refl, refl)

-- the task of nine blocks: 44 misses and 183 hits
figure_nine : (figure nine ≡ 623) × (greatest_pair nine ≡ (44, 227))
figure_nine = (refl, refl)

-- along its longest walk record B misses just as often as it is charged
run_B : (run_along record_b (empty ∷ empty ∷ []) (3 ∷ 2 ∷ 1 ∷ 2 ∷ 1 ∷ 2 ∷ 1 ∷ 2 ∷ 1 ∷ 2 ∷ 1 ∷ 0 ∷ [])).cycles ≡ 108
run_B = refl
