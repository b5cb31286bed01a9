-- What the search uses of a task: one list of loops, the task loop first, and one list of edges.
use Rattle.std.proofs.Common.{◌≡◌, ℕ, zero, suc, ◌<◌, ◌≤◌, ◌⊎◌, List, [], ◌∷◌, length, refl, inl, inr, le_of_suc-le-suc, not-suc-le-zero, arith}
use Rattle.std.proofs.ByRecursion.{All-from_get_or}
use Rattle.std.proofs.lemmas.Bool.{cases_lt}
use Rattle.records.specs.declared.parts.Loop.{Loop}
use Rattle.records.specs.declared.parts.Edge.{Edge}
use Rattle.records.specs.Contents.{Contents}
use Rattle.records.specs.Layout.{InFormat}
use Rattle.records.proofs.Ranges.{Ranges, ranges}
use Rattle.task.specs.Graph.{loop_at, edge_at, Within, Leads}
use Rattle.task.specs.Rules.{Sound}
use Rattle.task.specs.Laws.{Laws, Climbs, here, on}
use Rattle.task.proofs.Laws.{laws}
use Rattle.task.proofs.Ranged.{loop_range_at}
use Rattle.walks.specs.Walk.{all_loops, innermost_of}
use Rattle.walks.proofs.Inside.{cases_within, leads_below}
use Rattle.longest.specs.Sizes.{Sorted}
use Rattle.longest.proofs.Listing.{Listed, listing}

abbrev pub head : List Loop → ℕ → ℕ
head ls i = (loop_at ls i).header

abbrev pub final : List Loop → ℕ → ℕ
final ls i = (loop_at ls i).last

abbrev pub limit : List Loop → ℕ → ℕ
limit ls i = (loop_at ls i).limit

abbrev pub In : List Loop → ℕ → ℕ → Type 0
In ls i b = Within (loop_at ls i) b

-- the loop that is next around loop i
abbrev pub parent : List Loop → ℕ → ℕ
parent ls i = innermost_of ls i (head ls i)

pub record Shape (n : ℕ) (ls : List Loop) (es : List Edge) : Type 0 where
  pub some : 0 < length ls
  pub first : head ls 0 ≡ 0
  pub covers : (b : ℕ) → b < n → b ≤ final ls 0
  pub once : limit ls 0 ≡ 1
  pub fits : (i : ℕ) → i < length ls → (head ls i ≤ final ls i) × (final ls i < n) × (1 ≤ limit ls i)
  pub up : (i j : ℕ) → i < j → j < length ls → head ls i < head ls j
  pub apart : (i j : ℕ) → i < j → j < length ls → (final ls j ≤ final ls i) ⊎ (final ls i < head ls j)
  pub ends : (p b : ℕ) → Leads es p b → (p < n) × (b < n) × (0 < b)
  pub enter : (i p b : ℕ) → i < length ls → Leads es p b → In ls i b → (In ls i p) ⊎ ((b ≡ head ls i) × (p < b))
  pub back : (p b : ℕ) → Leads es p b → b ≤ p → (i : ℕ) × (i < length ls) × (head ls i ≡ b) × (p ≤ final ls i)
  pub reached : (b : ℕ) → 0 < b → b < n → (p : ℕ) × Leads es p b × (p < b)
  pub again : (i : ℕ) → i < length ls → 1 < limit ls i → (p : ℕ) × Leads es p (head ls i) × (head ls i ≤ p)
  pub sorted : Sorted es

sorted_from : (es : List Edge) → ((j k : ℕ) → j < k → k < length es → (edge_at es j).from ≤ (edge_at es k).from) → Sorted es
sorted_from [] h = tt
sorted_from (e ∷ es) h = (
  All-from_get_or (λ d. e.from ≤ d.from) es (record { from = 0; to = 0 }) (λ k l. h 0 (suc k) (omega arith) (omega arith)),
  sorted_from es (λ j k l m. h (suc j) (suc k) (omega arith) (omega arith)),
)

climb_step : (es : List Edge) (P : ℕ → Type 0) (h b : ℕ) → Climbs es P h b → h < b → (p : ℕ) × Leads es p b × (p < b)
climb_step es P h b (here q) l = absurd (omega arith)
climb_step es P h b (on {p = p} c m e q) l = (p, e, m)

module _ (c : Contents) (format : InFormat c) (rules : Laws c) (listed : Listed c) where
  abbrev n : ℕ
  n = length c.blocks

  abbrev ls : List Loop
  ls = all_loops c

  abbrev all : Ranges c
  all = ranges c format

  fits_at : (i : ℕ) → i < length ls → (head ls i ≤ final ls i) × (final ls i < n) × (1 ≤ limit ls i)
  fits_at zero h = (omega arith, omega (arith, all.some), omega arith)
  fits_at (suc i) h =
      let r = loop_range_at c format i (le_of_suc-le-suc h) in
      (listed.filled i (le_of_suc-le-suc h), omega (arith, r.last, all.some), r.some)

  up_at : (i j : ℕ) → i < j → j < length ls → head ls i < head ls j
  up_at i zero l h = absurd (not-suc-le-zero l)
  up_at zero (suc j) l h = (loop_range_at c format j (le_of_suc-le-suc h)).low
  up_at (suc i) (suc j) l h = (rules.nested i j (le_of_suc-le-suc l) (le_of_suc-le-suc h)).0

  apart_at : (i j : ℕ) → i < j → j < length ls → (final ls j ≤ final ls i) ⊎ (final ls i < head ls j)
  apart_at i zero l h = absurd (not-suc-le-zero l)
  apart_at zero (suc j) l h = inl (loop_range_at c format j (le_of_suc-le-suc h)).last
  apart_at (suc i) (suc j) l h = (rules.nested i j (le_of_suc-le-suc l) (le_of_suc-le-suc h)).1

  back_at : (p b : ℕ) → Leads c.edges p b → b ≤ p → (i : ℕ) × (i < length ls) × (head ls i ≡ b) × (p ≤ final ls i)
  back_at p b e l = let r = rules.back p b e l in (suc r.0, omega (arith, r.1), r.2, r.3.1)

  above_zero : (p b : ℕ) → Leads c.edges p b → 0 < b
  above_zero p b e = elim (cases_lt 0 b) [
    | inl l ↦ l
    | inr l ↦ (let r = rules.back p b e (omega arith) in absurd (omega (arith, (loop_range_at c format r.0 r.1).low, r.2)))
  ]

  enter_at : (i p b : ℕ) → i < length ls → Leads c.edges p b → In ls i b → (In ls i p) ⊎ ((b ≡ head ls i) × (p < b))
  enter_at zero p b h e q = inl (omega arith, omega (arith, leads_below c format p b e))
  enter_at (suc i) p b h e q = elim (cases_within (loop_at c.loops i) p) [
    | inl u ↦ inl u
    | inr u ↦ inr (rules.entered i p b (le_of_suc-le-suc h) e q u)
  ]

  again_at : (i : ℕ) → i < length ls → 1 < limit ls i → (p : ℕ) × Leads c.edges p (head ls i) × (head ls i ≤ p)
  again_at zero h l = absurd (omega arith)
  again_at (suc i) h l = let r = rules.repeats i (le_of_suc-le-suc h) l in (r.0, r.1, r.2.0)

  shaped : Shape n ls c.edges
  shaped = record {
    some = omega arith;
    first = refl;
    covers = λ b h. omega arith;
    once = refl;
    fits = fits_at;
    up = up_at;
    apart = apart_at;
    ends = λ p b e. ((leads_below c format p b e).0, (leads_below c format p b e).1, above_zero p b e);
    enter = enter_at;
    back = back_at;
    reached = λ b z h. climb_step c.edges (λ _. Unit {0}) 0 b (rules.reached b h) z;
    again = again_at;
    sorted = sorted_from c.edges listed.ascending;
  }

pub shape : (c : Contents) → InFormat c → Sound c → Shape (length c.blocks) (all_loops c) c.edges
shape c format sound = shaped c format (laws c format sound) (listing c sound)
