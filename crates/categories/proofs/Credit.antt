-- The lines charged at the loops around a block and absent from the cache are a credit for misses to come.
use Rattle.std.proofs.Common.{◌≡◌, ℕ, zero, suc, ◌+◌, ◌<◌, ◌≤◌, Bool, true, cond, ◌⊎◌, List, [], ◌∷◌, map, length, get_or, take, refl, ap, subst, inl, inr, arith}
use Rattle.std.proofs.lemmas.Bool.{cases_Bool, cases_lt}
use Rattle.records.specs.declared.parts.Geometry.{Geometry}
use Rattle.records.specs.declared.parts.Loop.{Loop}
use Rattle.task.specs.Graph.{loop_at, within, Within}
use Rattle.walks.specs.Walk.{Among}
use Rattle.cache_state.specs.Cache.{Cache, Resident, slot_of, fetch_cache, fetch_all}
use Rattle.longest.specs.Charge.{Costs, begun}
use Rattle.run.specs.Run.{missed, misses_of}
use Rattle.categories.specs.Costs.{passing, cycle_tally}
use Rattle.categories.proofs.Lists.{passing_yes, passing_no}
use Rattle.categories.proofs.Loops.{within_true, true_within}
use Rattle.categories.proofs.Residence.{missed_cases, missed_not, fetch_length, fetch_resident, fetch_keeps}

-- how many of the lines are not resident
abbrev pub absent : Geometry → Cache → List ℕ → ℕ
absent g cache [] = 0
absent g cache (u ∷ us) = missed g u cache + absent g cache us

absent_most : (g : Geometry) (cache : Cache) (us : List ℕ) → absent g cache us ≤ length us
absent_most g cache [] = omega arith
absent_most g cache (u ∷ us) = let r = absent_most g cache us in elim (missed_cases g u cache) [ inl m ↦ omega arith | inr m ↦ omega arith ]

-- the lines charged at those of the first n loops that have block b, as far as they are not resident
abbrev pub credit : Geometry → List Loop → (ℕ → List ℕ) → ℕ → ℕ → Cache → ℕ
credit g ls charged zero b cache = 0
credit g ls charged (suc n) b cache = credit g ls charged n b cache + cond (within (loop_at ls n) b) (absent g cache (charged n)) 0

-- one fetch, of line t
module _ (g : Geometry) (some : 0 < g.slots) (t : ℕ) (cache : Cache) (len : length cache ≡ g.slots) where
  missed_down : (u : ℕ) → (slot_of g t ≡ slot_of g u → t ≡ u) → missed g u (fetch_cache g t cache) ≤ missed g u cache
  missed_down u h = elim (missed_cases g u cache) [
    | inl m ↦ (let z = missed_not g u (fetch_cache g t cache) (fetch_keeps g some t u cache len h m.0) in omega arith)
    | inr m ↦ elim (missed_cases g u (fetch_cache g t cache)) [ inl z ↦ omega arith | inr z ↦ omega arith ]
  ]

  absent_down : (us : List ℕ) → ((u : ℕ) → Among u us → slot_of g t ≡ slot_of g u → t ≡ u) → absent g (fetch_cache g t cache) us ≤ absent g cache us
  absent_down [] h = omega arith
  absent_down (u ∷ us) h = let a = missed_down u (h u (inl refl)) in let b = absent_down us (λ v m. h v (inr m)) in omega arith

  absent_less : (us : List ℕ) → ((u : ℕ) → Among u us → slot_of g t ≡ slot_of g u → t ≡ u) → Among t us
      → missed g t cache + absent g (fetch_cache g t cache) us ≤ absent g cache us
  absent_less [] h m = absurd m
  absent_less (u ∷ us) h (inl e) =
      let a = absent_down us (λ v m. h v (inr m)) in
      let z : missed g u (fetch_cache g t cache) ≡ 0 =
      subst (λ v. missed g v (fetch_cache g t cache) ≡ 0) e (missed_not g t (fetch_cache g t cache) (fetch_resident g some t cache len)) in
      let y : missed g t cache ≡ missed g u cache = ap (λ v. missed g v cache) e in
      omega arith
  absent_less (u ∷ us) h (inr m) =
      let a = missed_down u (h u (inl refl)) in let b = absent_less us (λ v k. h v (inr k)) m in omega arith

  module _ (ls : List Loop) (charged : ℕ → List ℕ) (b : ℕ) where
    -- no line charged at one of the first n loops around the block shares t's slot
    abbrev pub Apart : ℕ → Type 0
    Apart n = (i : ℕ) → i < n → Within (loop_at ls i) b → (u : ℕ) → Among u (charged i) → slot_of g t ≡ slot_of g u → t ≡ u

    -- t is charged at one of them
    abbrev pub Paid : ℕ → Type 0
    Paid n = (i : ℕ) × (i < n) × Within (loop_at ls i) b × Among t (charged i)

    credit_down : (n : ℕ) → Apart n → credit g ls charged n b (fetch_cache g t cache) ≤ credit g ls charged n b cache
    credit_down zero h = omega arith
    credit_down (suc n) h =
        let r = credit_down n (λ i less. h i (omega arith)) in
        elim (cases_Bool (within (loop_at ls n) b)) [
          | inl e ↦ (let a = absent_down (charged n) (h n (omega arith) (within_true (loop_at ls n) b e)) in rw e (omega arith))
          | inr e ↦ rw e (omega arith)
        ]

    credit_less : (n : ℕ) → Apart n → Paid n → missed g t cache + credit g ls charged n b (fetch_cache g t cache) ≤ credit g ls charged n b cache
    credit_less zero h p = absurd (omega (arith, p.1))
    credit_less (suc n) h p = elim (cases_lt p.0 n) [
      | inl less ↦
          (let r = credit_less n (λ i l. h i (omega arith)) (p.0, less, p.2, p.3) in
          elim (cases_Bool (within (loop_at ls n) b)) [
            | inl e ↦ (let a = absent_down (charged n) (h n (omega arith) (within_true (loop_at ls n) b e)) in rw e (omega arith))
            | inr e ↦ rw e (omega arith)
          ])
      | inr more ↦
          (let same : p.0 ≡ n = omega (arith, p.1) in
          let inside : Within (loop_at ls n) b = subst (λ i. Within (loop_at ls i) b) same p.2 in
          let e : within (loop_at ls n) b ≡ true = true_within (loop_at ls n) b inside in
          let r = credit_down n (λ i l. h i (omega arith)) in
          let a = absent_less (charged n) (h n (omega arith) inside) (subst (λ i. Among t (charged i)) same p.3) in
          rw e (omega arith))
    ]

    -- a fetch that hits, that is paid for now, or whose line is charged at a loop around the block
    pub credit_fetch : (n x : ℕ) → Apart n → Resident g cache t ⊎ ((x ≡ 1) ⊎ Paid n)
        → missed g t cache + credit g ls charged n b (fetch_cache g t cache) ≤ credit g ls charged n b cache + x
    credit_fetch n x h (inl r) = let z = missed_not g t cache r in let d = credit_down n h in omega arith
    credit_fetch n x h (inr (inl e)) = let d = credit_down n h in elim (missed_cases g t cache) [ inl m ↦ omega arith | inr m ↦ omega arith ]
    credit_fetch n x h (inr (inr p)) = let d = credit_less n h p in omega arith

module _ (g : Geometry) (some : 0 < g.slots) (ls : List Loop) (charged : ℕ → List ℕ) (n b : ℕ) (line : ℕ → ℕ) (pays : ℕ → Bool) where
  -- what pays for a fetch of t in this cache
  abbrev pub Covered : ℕ → ℕ → Cache → Type 0
  Covered j t cache = Resident g cache t ⊎ ((pays j ≡ true) ⊎ ((i : ℕ) × (i < n) × Within (loop_at ls i) b × Among t (charged i)))

  pay : ℕ → ℕ
  pay j = length (passing pays (j ∷ []))

  pay_more : (j : ℕ) (js : List ℕ) → length (passing pays (j ∷ js)) ≡ pay j + length (passing pays js)
  unfolding pay
  pay_more j js = elim (cases_Bool (pays j)) [
    | inl e ↦ (let a = ap length (passing_yes pays j js e) in let z = ap length (passing_yes pays j [] e) in omega arith)
    | inr e ↦ (let a = ap length (passing_no pays j js e) in let z = ap length (passing_no pays j [] e) in omega arith)
  ]

  pay_one : (j : ℕ) → pays j ≡ true → pay j ≡ 1
  unfolding pay
  pay_one j e = ap length (passing_yes pays j [] e)

  -- the fetches of a block, in order
  pub credit_block : (js : List ℕ) (cache : Cache) → length cache ≡ g.slots
      → ((j i : ℕ) → Among j js → i < n → Within (loop_at ls i) b → (u : ℕ) → Among u (charged i) → slot_of g (line j) ≡ slot_of g u → line j ≡ u)
      → ((m : ℕ) → m < length js → Covered (get_or js m 0) (line (get_or js m 0)) (fetch_all (fetch_cache g) (take m (map line js)) cache))
      → misses_of g (map line js) cache + credit g ls charged n b (fetch_all (fetch_cache g) (map line js) cache)
      ≤ credit g ls charged n b cache + length (passing pays js)
  credit_block [] cache len h f = omega arith
  credit_block (j ∷ js) cache len h f =
      let one = credit_fetch g some (line j) cache len ls charged b n (pay j) (λ i. h j i (inl refl))
      (elim (f 0 (omega arith)) [ inl r ↦ inl r | inr (inl e) ↦ inr (inl (pay_one j e)) | inr (inr p) ↦ inr (inr p) ]) in
      let rest = credit_block js (fetch_cache g (line j) cache) (fetch_length g some (line j) cache len) (λ i o m. h i o (inr m)) (λ m l. f (suc m) (omega arith)) in
      omega (arith, pay_more j js)

-- on entering a block, the stays that begin pay for the lines charged there
module _ (g : Geometry) (ls : List Loop) (charged : ℕ → List ℕ) (costs : Costs ℕ) (stay : (i : ℕ) → costs.stay i ≡ length (charged i)) (cache : Cache) (b : ℕ) where
  pub credit_start : (n : ℕ) → credit g ls charged n b cache ≤ begun cycle_tally costs ls n b []
  credit_start zero = omega arith
  credit_start (suc n) =
      let r = credit_start n in
      let a = absent_most g cache (charged n) in
      let s = stay n in
      elim (cases_Bool (within (loop_at ls n) b)) [ inl e ↦ rw e (omega arith) | inr e ↦ rw e (omega arith) ]

  pub credit_move : (n p : ℕ) (w : List ℕ) → credit g ls charged n b cache ≤ credit g ls charged n p cache + begun cycle_tally costs ls n b (p ∷ w)
  credit_move zero p w = omega arith
  credit_move (suc n) p w =
      let r = credit_move n p w in
      let a = absent_most g cache (charged n) in
      let s = stay n in
      elim (cases_Bool (within (loop_at ls n) b)) [
        | inl e ↦ elim (cases_Bool (within (loop_at ls n) p)) [ inl f ↦ rw (e, f) (omega arith) | inr f ↦ rw (e, f) (omega arith) ]
        | inr e ↦ rw e (omega arith)
      ]
