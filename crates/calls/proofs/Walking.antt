-- The open walk: how it begins and goes on, and that its counts are at most the figure.
use Rattle.std.proofs.Common.{◌≡◌, ℕ, zero, suc, ◌^◌, ◌<◌, ◌≤◌, cond, eqb, List, [], ◌∷◌, length, get_or, sym, refl, ap, ◌∙◌, subst, inl, inr, le_of_suc-le-suc, mul-le-mul_right, arith}
use Rattle.std.proofs.lemmas.List.{length-map}
use Rattle.std.proofs.lemmas.Bool.{cases_eq, cond_both, ltb-false}
use Rattle.records.specs.declared.parts.Loop.{Loop}
use Rattle.records.specs.Contents.{Contents}
use Rattle.records.specs.Layout.{InFormat}
use Rattle.records.proofs.Ranges.{ranges}
use Rattle.task.specs.Graph.{loop_at, within}
use Rattle.task.proofs.Ranged.{loop_range_at}
use Rattle.walks.specs.Walk.{all_loops, rounds}
use Rattle.walks.proofs.Inside.{cases_within, rounds_head, rounds_on, rounds_out}
use Rattle.cache_state.specs.Cache.{Cache}
use Rattle.run.specs.Run.{Run, lines_of, entered, fresh, run_along}
use Rattle.run.specs.Open.{Spent, Fits}
use Rattle.run.proofs.Along.{run_rounds, run_rounds_at}
use Rattle.run.proofs.Missed.{misses_few}
use Rattle.longest.specs.Charge.{charge}
use Rattle.categories.specs.Costs.{cycle_costs, cycle_tally}
use Rattle.examine.specs.Findings.{Findings}
use Rattle.calls.specs.Outcomes.{Free}
use Rattle.calls.specs.Held.{Backed, Along, Open}

-- every loop allows a round
limit_some : (c : Contents) → InFormat c → (i : ℕ) → i < length (all_loops c) → 1 ≤ (loop_at (all_loops c) i).limit
limit_some c format zero h = omega arith
limit_some c format (suc i) h = (loop_range_at c format i (le_of_suc-le-suc h)).some

-- the first block begins one round at most
rounds_first : (l : Loop) (b : ℕ) → rounds l (b ∷ []) ≤ 1
rounds_first l b = cond_both (within l b) (cond (eqb b l.header) 1 0) 0 (λ n. n ≤ 1)
    (λ _. cond_both (eqb b l.header) 1 0 (λ n. n ≤ 1) (λ _. omega arith) (λ _. omega arith)) (λ _. omega arith)

-- a walk is open once block 0 is entered
pub begun : (c : Contents) (s : Cache) → InFormat c → length s ≡ c.header.geometry.slots → Along c s [] (entered c 0 (fresh c s))
begun c s format slots = record {
  slots = slots;
  walk = refl;
  limited = (λ i h. omega (arith, rounds_first (loop_at (all_loops c) i) 0, limit_some c format i h), tt);
  run = refl;
}

module _ (c : Contents) (s : Cache) (w : List ℕ) (r : Run) (along : Along c s w r) where
  -- the rounds that the run has counted are those of the walk
  rounds_at : (i : ℕ) → i < length (all_loops c) → get_or r.rounds i 0 ≡ rounds (loop_at (all_loops c) i) (r.block ∷ w)
  rounds_at i h = ap (λ x. get_or x.rounds i 0) along.run ∙ run_rounds_at c s (r.block ∷ w) i h

  -- one block more keeps to the limit of each loop
  within_limit : (b i : ℕ) → i < length (all_loops c) → (Spent c r b → ⊥) → rounds (loop_at (all_loops c) i) (b ∷ r.block ∷ w) ≤ (loop_at (all_loops c) i).limit
  within_limit b i h free =
      let l = loop_at (all_loops c) i in
      let before = along.limited.0 i h in
      let counted = rounds_at i h in
      elim (cases_within l b) [
        | inl inside ↦ elim (cases_eq b l.header) [
          | inl e ↦ (let next = rounds_head l (r.block ∷ w) b inside e in
              let left : l.limit ≤ get_or r.rounds i 0 → ⊥ = λ full. free (i, h, sym e, full) in omega arith)
          | inr ne ↦ (let next = rounds_on l (r.block ∷ w) b inside ne in omega arith)
        ]
        | inr out ↦ (let next = rounds_out l (r.block ∷ w) b out in omega arith)
      ]

  -- the walk goes on where it is free to
  pub stepped : (b : ℕ) → Free c r b → Along c s (r.block ∷ w) (entered c b r)
  stepped b free = record {
    slots = along.slots;
    walk = (along.walk, free.0);
    limited = (λ i h. within_limit b i h free.1, along.limited);
    run = ap (entered c b) along.run;
  }

  -- its cycles are at most the figure
  pub within_figure : (f : Findings) → Backed c f → r.cycles ≤ f.figure
  within_figure f (marks, covered, greatest) =
      let same = ap (λ x. x.cycles) along.run in
      let most = (covered w r.block s along.walk along.slots).cycles in
      let least = ltb-false f.figure (charge cycle_tally (cycle_costs c marks) (all_loops c) (r.block ∷ w)) (greatest.bounded r.block w along.walk along.limited) in
      omega arith

  -- it has rounds for every loop
  pub rounds_long : length r.rounds ≡ length (all_loops c)
  rounds_long = ap (λ x. length x.rounds) along.run ∙ ap length (run_rounds c s (r.block ∷ w)) ∙ length-map (all_loops c) (λ l. rounds l (r.block ∷ w))

-- each miss is a fetch, and each fetch takes a cycle
run_counts : (c : Contents) (s : Cache) → InFormat c → (w : List ℕ) → ((run_along c s w).misses ≤ (run_along c s w).fetches) × ((run_along c s w).fetches ≤ (run_along c s w).cycles)
run_counts c s format [] = (omega arith, omega arith)
run_counts c s format (b ∷ w) =
    let before = run_counts c s format w in
    let few = misses_few c.header.geometry (lines_of c b) (run_along c s w).cache in
    let hits = mul-le-mul_right (length (lines_of c b)) (ranges c format).header.hit_low in
    (omega (arith, before), omega (arith, before))

pub counts : (c : Contents) (s : Cache) (w : List ℕ) (r : Run) → InFormat c → Along c s w r → (r.misses ≤ r.fetches) × (r.fetches ≤ r.cycles)
counts c s w r format along =
    subst (λ x. (x.misses ≤ x.fetches) × (x.fetches ≤ x.cycles)) (sym along.run) (run_counts c s format (r.block ∷ w))

-- so no count comes to 2 ^ 64 where the figure does not
pub fits : (c : Contents) (s : Cache) (w : List ℕ) (r : Run) (f : Findings) (b : ℕ) → InFormat c → Backed c f → Along c s w r → Free c r b → f.figure < 2 ^ 64
    → Fits c b r
fits c s w r f b format backed along free small =
    let next = stepped c s w r along b free in
    let most = within_figure c s (r.block ∷ w) (entered c b r) next f backed in
    let few = counts c s (r.block ∷ w) (entered c b r) format next in
    record {
      long = rounds_long c s w r along;
      cycles = omega arith;
      misses = omega arith;
      fetches = omega arith;
    }

-- the same of a walk that is open, whichever it is
pub open_begun : (c : Contents) (s : Cache) → InFormat c → length s ≡ c.header.geometry.slots → Open c (entered c 0 (fresh c s))
open_begun c s format slots = (s, [], begun c s format slots)

pub open_stepped : (c : Contents) (r : Run) (b : ℕ) → Open c r → Free c r b → Open c (entered c b r)
open_stepped c r b (s, w, along) free = (s, r.block ∷ w, stepped c s w r along b free)

pub open_within : (c : Contents) (r : Run) (f : Findings) → Open c r → Backed c f → r.cycles ≤ f.figure
open_within c r f (s, w, along) backed = within_figure c s w r along f backed

pub open_fits : (c : Contents) (r : Run) (f : Findings) (b : ℕ) → InFormat c → Backed c f → Open c r → Free c r b → f.figure < 2 ^ 64 → Fits c b r
open_fits c r f b format backed (s, w, along) free small = fits c s w r f b format backed along free small
