-- The charge of a walk covers its plain run.
use Rattle.std.proofs.Common.{◌≡◌, ℕ, zero, suc, ◌+◌, ◌*◌, ◌<◌, ◌≤◌, Bool, true, false, cond, ltb, List, [], ◌∷◌, length, get_or, take, sym, refl, ap, ◌∙◌, subst, inl, inr, mul-le-mul_left, mul-zero, mul-add, arith}
use Rattle.std.specs.List.{range_with_len}
use Rattle.std.proofs.lemmas.List.FromFn.{length-range_with_len, get_or-range_with_len, length-map-range_with_len}
use Rattle.std.proofs.lemmas.Bool.{cases_Bool, ltb-false}
use Rattle.records.specs.declared.parts.Geometry.{Geometry}
use Rattle.records.specs.declared.parts.Loop.{Loop}
use Rattle.records.specs.Contents.{Contents}
use Rattle.task.specs.Graph.{block_at, loop_at, Within}
use Rattle.walks.specs.Walk.{Walk, rounds, begins, all_loops, innermost, Among}
use Rattle.facts.specs.Kind.{Kind}
use Rattle.cache_state.specs.Cache.{Cache, slot_of, fetch_line, fetch_cache, fetch_all, walk_cache}
use Rattle.tally.specs.Kinds.{Pair}
use Rattle.longest.specs.Charge.{Costs, begun, entry, charge}
use Rattle.run.specs.Run.{lines_of, misses_of, run_along}
use Rattle.run.proofs.Along.{run_cache, plain_cycles, run_cycles}
use Rattle.categories.specs.declared.category.Category.{Category}
use Rattle.categories.specs.declared.category.Category.TheVariants.{AlwaysHit, FirstMiss, FirstHit, AlwaysMiss}
use Rattle.categories.specs.Category.{fetches_of, line_of, marks_of, Marks}
use Rattle.categories.specs.Costs.{pays_first, pays_later, paying, charged_at, cycle_costs, pair_costs, cycle_tally, pair_tally}
use Rattle.categories.specs.Meaning.{Fitting, Covers, CoveredAlways}
use Rattle.categories.proofs.Grounds.{Grounds}
use Rattle.categories.proofs.Lists.{counting_among}
use Rattle.categories.proofs.Loops.{walk_below, innermost_around, rounds_some}
use Rattle.categories.proofs.States.{length-walk-cache, sure_hits}
use Rattle.categories.proofs.Fits.{category_first}
use Rattle.categories.proofs.Kept.{slots_some}
use Rattle.categories.proofs.Credit.{credit, Covered, credit_block, credit_start, credit_move}
use Rattle.categories.proofs.Charged.{charged_once, first_miss_charged}

-- the charged misses alone
abbrev miss_costs : Contents → Marks → Costs ℕ
miss_costs c marks = record { first = paying c marks pays_first; later = paying c marks pays_later; stay = λ i. length (charged_at c marks i) }

cond_part : (t : Bool) (x y : Pair) → ((cond t x y).0 ≡ cond t x.0 y.0) × ((cond t x y).1 ≡ cond t x.1 y.1)
cond_part true x y = (refl, refl)
cond_part false x y = (refl, refl)

cond_same : (t : Bool) (x : ℕ) → cond t x x ≡ x
cond_same true x = refl
cond_same false x = refl

cond_stay : (t : Bool) (p x : ℕ) → cond t (p * x) 0 ≡ p * cond t x 0
cond_stay true p x = refl
cond_stay false p x = sym (mul-zero p)

-- the three tallies of one walk: pairs, penalties and cycles
module _ (c : Contents) (marks : Marks) where
  abbrev misses : List ℕ → ℕ
  misses w = charge cycle_tally (miss_costs c marks) (all_loops c) w

  begun_pairs : (n b : ℕ) (w : List ℕ)
      → ((begun pair_tally (pair_costs c marks) (all_loops c) n b w).0 ≡ begun cycle_tally (miss_costs c marks) (all_loops c) n b w)
      × ((begun pair_tally (pair_costs c marks) (all_loops c) n b w).1 ≡ 0)
  begun_pairs zero b w = (refl, refl)
  begun_pairs (suc n) b w =
      let r = begun_pairs n b w in
      let t = begins (loop_at (all_loops c) n) b w in
      let p = cond_part t (length (charged_at c marks n), 0) (0, 0) in
      (omega arith, omega (arith, cond_same t 0))

  entry_pairs : (b : ℕ) (w : List ℕ)
      → ((entry pair_tally (pair_costs c marks) (all_loops c) b w).0 ≡ entry cycle_tally (miss_costs c marks) (all_loops c) b w)
      × ((entry pair_tally (pair_costs c marks) (all_loops c) b w).1 ≡ fetches_of c b)
  entry_pairs b w =
      let t = ltb 1 (rounds (loop_at (all_loops c) (innermost (all_loops c) b)) (b ∷ w)) in
      let p = cond_part t (paying c marks pays_later b, fetches_of c b) (paying c marks pays_first b, fetches_of c b) in
      (p.0, p.1 ∙ cond_same t (fetches_of c b))

  pair_misses : (w : List ℕ) → (charge pair_tally (pair_costs c marks) (all_loops c) w).0 ≡ misses w
  pair_misses [] = refl
  pair_misses (b ∷ w) =
      let r = pair_misses w in
      let s = begun_pairs (length (all_loops c)) b w in
      let e = entry_pairs b w in
      omega arith

  pair_fetches : (cache : Cache) (w : List ℕ) → (run_along c cache w).fetches ≡ (charge pair_tally (pair_costs c marks) (all_loops c) w).1
  pair_fetches cache [] = refl
  pair_fetches cache (b ∷ w) =
      let r = pair_fetches cache w in
      let s = begun_pairs (length (all_loops c)) b w in
      let e = entry_pairs b w in
      let z = length-map-range_with_len (fetch_line c.header.geometry (block_at c.blocks b)) 0 (fetches_of c b) in
      omega arith

  begun_cycles : (n b : ℕ) (w : List ℕ)
      → begun cycle_tally (cycle_costs c marks) (all_loops c) n b w ≡ c.header.penalty * begun cycle_tally (miss_costs c marks) (all_loops c) n b w
  begun_cycles zero b w = sym (mul-zero c.header.penalty)
  begun_cycles (suc n) b w =
      let r = begun_cycles n b w in
      let t = begins (loop_at (all_loops c) n) b w in
      let s = cond_stay t c.header.penalty (length (charged_at c marks n)) in
      omega (arith, mul-add c.header.penalty (begun cycle_tally (miss_costs c marks) (all_loops c) n b w) (cond t (length (charged_at c marks n)) 0))

  entry_cycles_lem : (b : ℕ) (w : List ℕ)
      → entry cycle_tally (cycle_costs c marks) (all_loops c) b w
      ≡ ((block_at c.blocks b).cycles + c.header.hit * fetches_of c b) + c.header.penalty * entry cycle_tally (miss_costs c marks) (all_loops c) b w
  entry_cycles_lem b w = elim (cases_Bool (ltb 1 (rounds (loop_at (all_loops c) (innermost (all_loops c) b)) (b ∷ w))))
      [ inl e ↦ rw e (omega arith) | inr e ↦ rw e (omega arith) ]

  charge_cycles : (w : List ℕ) → charge cycle_tally (cycle_costs c marks) (all_loops c) w ≡ plain_cycles c w + c.header.penalty * misses w
  charge_cycles [] = omega (arith, mul-zero c.header.penalty)
  charge_cycles (b ∷ w) =
      let p = c.header.penalty in
      let s = begun cycle_tally (miss_costs c marks) (all_loops c) (length (all_loops c)) b w in
      let x = entry cycle_tally (miss_costs c marks) (all_loops c) b w in
      let z = length-map-range_with_len (fetch_line c.header.geometry (block_at c.blocks b)) 0 (fetches_of c b) in
      let h = ap (λ n. c.header.hit * n) z in
      omega (arith, charge_cycles w, begun_cycles (length (all_loops c)) b w, entry_cycles_lem b w, mul-add p (misses w + s) x, mul-add p (misses w) s)

module _ {K : Type 0} (k : Kind K) (fetched : ℕ → K → K) (passed : ℕ → ℕ → Bool) (c : Contents) (grounds : Grounds k fetched passed c)
    (cache : Cache) (len : length cache ≡ c.header.geometry.slots) where
  abbrev g : Geometry
  g = c.header.geometry

  abbrev marks : Marks
  marks = marks_of k fetched c passed

  abbrev cache_after : List ℕ → Cache
  cache_after w = walk_cache g c.blocks w cache

  abbrev inner : ℕ → Loop
  inner b = loop_at (all_loops c) (innermost (all_loops c) b)

  -- which categories pay in a round of this number
  abbrev pays : ℕ → Category → Bool
  pays r = cond (ltb 1 r) pays_later pays_first

  entry_pays : (b : ℕ) (w : List ℕ) → entry cycle_tally (miss_costs c marks) (all_loops c) b w ≡ paying c marks (pays (rounds (inner b) (b ∷ w))) b
  entry_pays b w = choose (ltb 1 (rounds (inner b) (b ∷ w)))
    where
      choose : (t : Bool) → cond t (paying c marks pays_later b) (paying c marks pays_first b) ≡ paying c marks (cond t pays_later pays_first) b
      choose true = refl
      choose false = refl

  miss_pays : (t : Bool) → cond t pays_later pays_first AlwaysMiss ≡ true
  miss_pays true = refl
  miss_pays false = refl

  -- what pays for a fetch, by its category at the innermost loop
  covered : (w : List ℕ) (b j : ℕ) → Walk c.edges 0 w b → j < fetches_of c b → (x : Category) → marks b j (innermost (all_loops c) b) ≡ x
      → Fitting k fetched c b j (inner b) x
      → Covered g (slots_some c grounds.settled.format) (all_loops c) (charged_at c marks) (length (all_loops c)) b (line_of c b)
      (λ i. pays (rounds (inner b) (b ∷ w)) (marks b i (innermost (all_loops c) b))) j (line_of c b j)
      (fetch_all (fetch_cache g) (take j (lines_of c b)) (cache_after w))
  covered w b j walk few AlwaysHit e f = inl (sure_hits c grounds.fetching grounds.lawful cache len w b j (f w walk))
  covered w b j walk few FirstMiss e f =
      let i = innermost_around c b (walk_below c grounds.settled.format w b walk) in
      let r = first_miss_charged c marks b j (innermost (all_loops c) b) i.1 few e in
      inr (inr (r.0, omega (arith, r.1, i.0), r.2, r.3))
  covered w b j walk few FirstHit e f = elim (cases_Bool (ltb 1 (rounds (inner b) (b ∷ w)))) [
    | inl later ↦ inr (inl (ap (pays (rounds (inner b) (b ∷ w))) e ∙ ap (λ t. cond t pays_later pays_first FirstHit) later))
    | inr first ↦
        (let i = innermost_around c b (walk_below c grounds.settled.format w b walk) in
        let low = rounds_some c grounds.settled.format grounds.settled.laws (innermost (all_loops c) b) i.0 w b walk i.1 in
        let high = ltb-false 1 (rounds (inner b) (b ∷ w)) first in
        inl (sure_hits c grounds.fetching grounds.lawful cache len w b j (f.1 w walk (omega arith))))
  ]
  covered w b j walk few AlwaysMiss e f =
      inr (inl (ap (pays (rounds (inner b) (b ∷ w))) e ∙ miss_pays (ltb 1 (rounds (inner b) (b ∷ w)))))

  -- a line charged at a loop is alone in its slot there
  charged_apart : (b j i : ℕ) → i < length (all_loops c) → Within (loop_at (all_loops c) i) b → j < fetches_of c b
      → (u : ℕ) → Among u (charged_at c marks i) → slot_of g (line_of c b j) ≡ slot_of g u → line_of c b j ≡ u
  charged_apart b j i known h few u m s =
      let r = ((charged_once c marks i).listed u).0 m in
      let alone : Fitting k fetched c r.0 r.1 (loop_at (all_loops c) i) FirstMiss =
      subst (Fitting k fetched c r.0 r.1 (loop_at (all_loops c) i)) r.5 (category_first k fetched passed c grounds i r.0 known r.2 r.1).fits in
      alone b j h few (s ∙ ap (slot_of g) (sym r.4)) ∙ r.4

  -- a block entered: its misses are paid by what it is charged, or out of the credit
  enter_covered : (w : List ℕ) (b : ℕ) → Walk c.edges 0 w b
      → misses_of g (lines_of c b) (cache_after w) + credit g (all_loops c) (charged_at c marks) (length (all_loops c)) b (cache_after (b ∷ w))
      ≤ credit g (all_loops c) (charged_at c marks) (length (all_loops c)) b (cache_after w) + entry cycle_tally (miss_costs c marks) (all_loops c) b w
  enter_covered w b walk =
      let i = innermost_around c b (walk_below c grounds.settled.format w b walk) in
      let some = slots_some c grounds.settled.format in
      let test : ℕ → Bool = λ j. pays (rounds (inner b) (b ∷ w)) (marks b j (innermost (all_loops c) b)) in
      let few : (m : ℕ) → m < length (range_with_len 0 (fetches_of c b)) → m < fetches_of c b = λ m l. omega (arith, length-range_with_len 0 (fetches_of c b)) in
      let r = credit_block g some (all_loops c) (charged_at c marks) (length (all_loops c)) b (line_of c b) test (range_with_len 0 (fetches_of c b)) (cache_after w)
      (length-walk-cache g c.blocks w cache ∙ len)
      (λ j o m known h. (let z = counting_among 0 (fetches_of c b) j m in charged_apart b j o known h (omega arith)))
      (λ m l. (let e : get_or (range_with_len 0 (fetches_of c b)) m 0 ≡ m = get_or-range_with_len 0 (fetches_of c b) m 0 (few m l) ∙ omega arith in
      subst (λ j. Covered g some (all_loops c) (charged_at c marks) (length (all_loops c)) b (line_of c b) test j (line_of c b j)
      (fetch_all (fetch_cache g) (take m (lines_of c b)) (cache_after w))) (sym e)
      (covered w b m walk (few m l) (marks b m (innermost (all_loops c) b)) refl
      (category_first k fetched passed c grounds (innermost (all_loops c) b) b i.0 i.1 m).fits))) in
      omega (arith, entry_pays b w)

  walk_covered : (w : List ℕ) (b : ℕ) → Walk c.edges 0 w b
      → (run_along c cache (b ∷ w)).misses + credit g (all_loops c) (charged_at c marks) (length (all_loops c)) b (cache_after (b ∷ w))
      ≤ charge cycle_tally (miss_costs c marks) (all_loops c) (b ∷ w)
  walk_covered [] b walk =
      let s = credit_start g (all_loops c) (charged_at c marks) (miss_costs c marks) (λ i. refl) cache b (length (all_loops c)) in
      let e = enter_covered [] b walk in
      omega arith
  walk_covered (p ∷ w) b walk =
      let r = walk_covered w p walk.0 in
      let s = credit_move g (all_loops c) (charged_at c marks) (miss_costs c marks) (λ i. refl) (cache_after (p ∷ w)) b (length (all_loops c)) p w in
      let e = enter_covered (p ∷ w) b walk in
      let q = ap (misses_of g (lines_of c b)) (run_cache c cache (p ∷ w)) in
      omega arith

  pub covers : (w : List ℕ) (b : ℕ) → Walk c.edges 0 w b → Covers c marks cache (b ∷ w)
  covers w b walk =
      let r = walk_covered w b walk in
      let few : (run_along c cache (b ∷ w)).misses ≤ misses c marks (b ∷ w) = omega arith in
      record {
        cycles = omega (arith, run_cycles c cache (b ∷ w), charge_cycles c marks (b ∷ w), mul-le-mul_left c.header.penalty few);
        misses = omega (arith, pair_misses c marks (b ∷ w));
        fetches = pair_fetches c marks cache (b ∷ w);
      }

pub covered_always : {K : Type 0} (k : Kind K) (fetched : ℕ → K → K) (passed : ℕ → ℕ → Bool) (c : Contents) → Grounds k fetched passed c
    → CoveredAlways c (marks_of k fetched c passed)
covered_always k fetched passed c grounds w b cache walk len = covers k fetched passed c grounds cache len w b walk
