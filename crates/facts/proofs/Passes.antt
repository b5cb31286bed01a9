-- What passes keep, and that they end.
use Rattle.std.proofs.Common.{◌≡◌, ℕ, zero, suc, ◌+◌, ◌<◌, ◌≤◌, true, false, eqb, ◌⊎◌, List, [], ◌∷◌, length, set, sum_by, sym, refl, ◌∙◌, subst, inl, inr, not-suc-le-zero, arith, length-set}
use Rattle.std.specs.List.{AllByRecursion}
use Rattle.std.proofs.lemmas.Bool.{cases_Bool, eqb-true, eq-eqb, and_parts, and_from}
use Rattle.std.proofs.lemmas.List.Sums.{sum_by-cons, sum_by-set}
use Rattle.std.proofs.ByRecursion.{All-weaker}
use Rattle.task.specs.Graph.{block_at}
use Rattle.facts.specs.Kind.{Kind}
use Rattle.facts.specs.Laws.{Alike, Above, Lawful}
use Rattle.facts.specs.Settling.{Region, predecessors, state_at, end_state, gathered, turn, turns, pass, unchanged, passes, blocks_of}
use Rattle.facts.proofs.Order.{alike_self, alike_back, alike_then, above_alike}
use Rattle.facts.proofs.Places.{set-each, Precedes, all-predecessors, all_blocks}

-- what each single join keeps, place by place, passes keep
module _ {K : Type 0} (k : Kind K) (r : Region) (Q : ℕ → K → Type 0)
    (step : (p b : ℕ) (x y : K) → Precedes r p b → Q b x → Q p y → Q b (k.joined x (k.passed p (block_at r.blocks p) y))) where
  abbrev Held : List K → Type 0
  Held xs = (i : ℕ) → Q i (state_at k xs i)

  gathered_kept : (b : ℕ) (xs : List K) → Held xs → (ps : List ℕ) → AllByRecursion (λ p. Precedes r p b) ps → (x : K) → Q b x → Q b (gathered k r.blocks xs x ps)
  gathered_kept b xs h [] a x q = q
  gathered_kept b xs h (p ∷ ps) a x q =
      gathered_kept b xs h ps a.1 (k.joined x (end_state k r.blocks xs p)) (step p b x (state_at k xs p) a.0 q (h p))

  turn_kept : (b : ℕ) (xs : List K) → Held xs → Held (turn k r b xs)
  turn_kept b xs h =
      set-each k.nothing_yet Q xs b (gathered k r.blocks xs (state_at k xs b) (predecessors r b)) h
      (gathered_kept b xs h (predecessors r b) (all-predecessors r b (λ p. Precedes r p b) (λ p m. m)) (state_at k xs b) (h b))

  turns_kept : (bs : List ℕ) (xs : List K) → Held xs → Held (turns k r bs xs)
  turns_kept [] xs h = h
  turns_kept (b ∷ bs) xs h = turns_kept bs (turn k r b xs) (turn_kept b xs h)

  pub pass_kept : (xs : List K) → Held xs → Held (pass k r xs)
  pass_kept = turns_kept (blocks_of r.range)

-- the two ways of a pass
module _ {K : Type 0} (k : Kind K) (r : Region) (fuel : ℕ) (xs : List K) where
  pub passes_stop : unchanged k xs (pass k r xs) ≡ true → passes k r (suc fuel) xs ≡ (pass k r xs, 1)
  passes_stop e = rw (e, passes) refl

  pub passes_on : unchanged k xs (pass k r xs) ≡ false
      → passes k r (suc fuel) xs ≡ ((passes k r fuel (pass k r xs)).0, suc (passes k r fuel (pass k r xs)).1)
  passes_on e = rw (e, passes) refl

module _ {K : Type 0} (k : Kind K) (r : Region) where
  pub passes_kept : (P : List K → Type 0) → ((xs : List K) → P xs → P (pass k r xs)) → (fuel : ℕ) (xs : List K) → P xs → P (passes k r fuel xs).0
  passes_kept P s zero xs h = h
  passes_kept P s (suc fuel) xs h = elim (cases_Bool (unchanged k xs (pass k r xs))) [
    | inl e ↦ subst (λ z. P z.0) (sym (passes_stop k r fuel xs e)) (s xs h)
    | inr e ↦ subst (λ z. P z.0) (sym (passes_on k r fuel xs e)) (passes_kept P s fuel (pass k r xs) (s xs h))
  ]

  pub length-turns : (bs : List ℕ) (xs : List K) → length (turns k r bs xs) ≡ length xs
  length-turns [] xs = refl
  length-turns (b ∷ bs) xs =
      length-turns bs (turn k r b xs) ∙ length-set xs b (gathered k r.blocks xs (state_at k xs b) (predecessors r b))

  pub length-pass : (xs : List K) → length (pass k r xs) ≡ length xs
  length-pass xs = length-turns (blocks_of r.range) xs

-- the sum of the ranks
abbrev pub rank_sum : {K : Type 0} → Kind K → List K → ℕ
rank_sum k xs = sum_by k.ranked xs

module _ {K : Type 0} (k : Kind K) where
  pub unchanged_from : (xs ys : List K) → length ys ≡ length xs → ((i : ℕ) → k.ranked (state_at k ys i) ≡ k.ranked (state_at k xs i)) → unchanged k xs ys ≡ true
  unchanged_from [] ys l h = refl
  unchanged_from (x ∷ xs) [] l h = refl
  unchanged_from (x ∷ xs) (y ∷ ys) l h =
      and_from (eqb (k.ranked y) (k.ranked x)) (unchanged k xs ys) (eq-eqb (k.ranked y) (k.ranked x) (h 0))
      (unchanged_from xs ys (omega arith) (λ i. h (suc i)))

  pub unchanged-sum : (xs ys : List K) → length ys ≡ length xs → unchanged k xs ys ≡ true → rank_sum k ys ≡ rank_sum k xs
  unchanged-sum [] [] l e = refl
  unchanged-sum [] (y ∷ ys) l e = absurd (omega arith)
  unchanged-sum (x ∷ xs) [] l e = absurd (omega arith)
  unchanged-sum (x ∷ xs) (y ∷ ys) l e =
      let p = and_parts (eqb (k.ranked y) (k.ranked x)) (unchanged k xs ys) e in
      let a = eqb-true (k.ranked y) (k.ranked x) p.0 in
      let b = unchanged-sum xs ys (omega arith) p.1 in
      let c = sum_by-cons k.ranked x xs in
      let d = sum_by-cons k.ranked y ys in
      omega arith

-- no predecessor of a block of bs has anything to add
abbrev pub Quiet : {K : Type 0} → Kind K → Region → List ℕ → List K → Type 0
Quiet k r bs xs = AllByRecursion (λ b. AllByRecursion (λ p. Above k (state_at k xs b) (end_state k r.blocks xs p)) (predecessors r b)) bs

module _ {K : Type 0} {k : Kind K} (laws : Lawful k) (r : Region) where
  pub end_alike : (xs ys : List K) (p : ℕ) → Alike k (state_at k xs p) (state_at k ys p) → Alike k (end_state k r.blocks xs p) (end_state k r.blocks ys p)
  end_alike xs ys p a = laws.passes p (block_at r.blocks p) (state_at k xs p) (state_at k ys p) a

  pub quiet_alike : (bs : List ℕ) (xs ys : List K) → ((i : ℕ) → Alike k (state_at k xs i) (state_at k ys i)) → Quiet k r bs xs → Quiet k r bs ys
  quiet_alike bs xs ys near =
      All-weaker (λ b. AllByRecursion (λ p. Above k (state_at k xs b) (end_state k r.blocks xs p)) (predecessors r b))
      (λ b. AllByRecursion (λ p. Above k (state_at k ys b) (end_state k r.blocks ys p)) (predecessors r b))
      (λ b. All-weaker (λ p. Above k (state_at k xs b) (end_state k r.blocks xs p)) (λ p. Above k (state_at k ys b) (end_state k r.blocks ys p))
      (λ p. above_alike laws (near b) (end_alike xs ys p (near p))) (predecessors r b))
      bs

  -- a join and then more of them: either both change nothing, or the rank falls
  either_falls : {x e z : K} {Q : Type 0} → Alike k (k.joined x e) x ⊎ (k.ranked (k.joined x e) < k.ranked x)
      → (Alike k z (k.joined x e) × Q) ⊎ (k.ranked z < k.ranked (k.joined x e)) → (Alike k z x × Above k x e × Q) ⊎ (k.ranked z < k.ranked x)
  either_falls (inl a) (inl b) = inl (alike_then b.0 a, a, b.1)
  either_falls {x} {e} (inl a) (inr l) = let q = laws.level (k.joined x e) x a in inr (omega arith)
  either_falls {x} {e} {z} (inr l) (inl b) = let q = laws.level z (k.joined x e) b.0 in inr (omega arith)
  either_falls (inr l) (inr m) = inr (omega arith)

  gathered_falls : (xs : List K) (x : K) (ps : List ℕ)
      → (Alike k (gathered k r.blocks xs x ps) x × AllByRecursion (λ p. Above k x (end_state k r.blocks xs p)) ps)
      ⊎ (k.ranked (gathered k r.blocks xs x ps) < k.ranked x)
  gathered_falls xs x [] = inl (alike_self x, tt)
  gathered_falls xs x (p ∷ ps) =
      let y : K = k.joined x (end_state k r.blocks xs p) in
      elim (either_falls (laws.falls x (end_state k r.blocks xs p)) (gathered_falls xs y ps)) [
        | inl h ↦ inl (
          h.0,
          (
            h.1,
            All-weaker (λ q. Above k y (end_state k r.blocks xs q)) (λ q. Above k x (end_state k r.blocks xs q))
                (λ q. above_alike laws h.1 (alike_self (end_state k r.blocks xs q))) ps h.2,
          ),
        )
        | inr l ↦ inr l
      ]

  -- turns that change nothing
  pub record Still (bs : List ℕ) (xs ys : List K) : Type 0 where
    pub alike : (i : ℕ) → Alike k (state_at k ys i) (state_at k xs i)
    pub quiet : Quiet k r bs xs
    pub equal : rank_sum k ys ≡ rank_sum k xs

  turn_still : (b : ℕ) (bs : List ℕ) (xs ys : List K) (z : K) → b < length xs → Alike k z (state_at k xs b)
      → AllByRecursion (λ p. Above k (state_at k xs b) (end_state k r.blocks xs p)) (predecessors r b) → Still bs (set xs b z) ys → Still (b ∷ bs) xs ys
  turn_still b bs xs ys z l a q s =
      let near : (i : ℕ) → Alike k (state_at k (set xs b z) i) (state_at k xs i) =
      set-each k.nothing_yet (λ i y. Alike k y (state_at k xs i)) xs b z (λ i. alike_self (state_at k xs i)) a in
      record {
        alike = λ i. alike_then (s.alike i) (near i);
        quiet = (q, quiet_alike bs (set xs b z) xs near s.quiet);
        equal = let e = s.equal in let f = sum_by-set k.ranked xs b z k.nothing_yet l in let g = laws.level z (state_at k xs b) a in omega arith;
      }

  pub turns_fall : (bs : List ℕ) (xs : List K) → AllByRecursion (λ b. b < length xs) bs → Still bs xs (turns k r bs xs) ⊎ (rank_sum k (turns k r bs xs) < rank_sum k xs)
  turns_fall [] xs h = inl (record { alike = λ i. alike_self (state_at k xs i); quiet = tt; equal = refl })
  turns_fall (b ∷ bs) xs h =
      let z : K = gathered k r.blocks xs (state_at k xs b) (predecessors r b) in
      let sum : rank_sum k (set xs b z) + k.ranked (state_at k xs b) ≡ rank_sum k xs + k.ranked z = sum_by-set k.ranked xs b z k.nothing_yet h.0 in
      let rest : Still bs (set xs b z) (turns k r bs (set xs b z)) ⊎ (rank_sum k (turns k r bs (set xs b z)) < rank_sum k (set xs b z)) =
      turns_fall bs (set xs b z) (subst (λ n. AllByRecursion (λ c. c < n) bs) (sym (length-set xs b z)) h.1) in
      elim (gathered_falls xs (state_at k xs b) (predecessors r b)) [
        | inl a ↦ elim rest [
          | inl s ↦ inl (turn_still b bs xs (turns k r bs (set xs b z)) z h.0 a.0 a.1 s)
          | inr m ↦ (let e = laws.level z (state_at k xs b) a.0 in inr (omega arith))
        ]
        | inr l ↦ elim rest [ inl s ↦ (let e = s.equal in inr (omega arith)) | inr m ↦ inr (omega arith) ]
      ]

  -- a pass changes nothing, or the ranks fall
  pub pass_falls : (xs : List K) → r.range.last < length xs
      → (Still (blocks_of r.range) xs (pass k r xs) × (unchanged k xs (pass k r xs) ≡ true))
      ⊎ ((rank_sum k (pass k r xs) < rank_sum k xs) × (unchanged k xs (pass k r xs) ≡ false))
  pass_falls xs l = elim (turns_fall (blocks_of r.range) xs (all_blocks (λ b. b < length xs) r.range (λ b w. omega arith))) [
    | inl s ↦ inl (s, unchanged_from k xs (pass k r xs) (length-pass k r xs) (λ i. laws.level (state_at k (pass k r xs) i) (state_at k xs i) (s.alike i)))
    | inr m ↦ inr (
      m,
      elim (cases_Bool (unchanged k xs (pass k r xs)))
          [ inl e ↦ (let q = unchanged-sum k xs (pass k r xs) (length-pass k r xs) e in absurd (omega arith)) | inr e ↦ e ],
    )
  ]

  -- with fuel above the ranks, passes end in quiet states
  pub passes_end : (fuel : ℕ) (xs : List K) → r.range.last < length xs → rank_sum k xs < fuel
      → Quiet k r (blocks_of r.range) (passes k r fuel xs).0 × ((passes k r fuel xs).1 ≤ rank_sum k xs + 1)
  passes_end zero xs l m = absurd (not-suc-le-zero m)
  passes_end (suc fuel) xs l m =
      let Good : List K × ℕ → Type 0 = λ z. Quiet k r (blocks_of r.range) z.0 × (z.1 ≤ rank_sum k xs + 1) in
      elim (pass_falls xs l) [
        | inl s ↦ subst Good (sym (passes_stop k r fuel xs s.1))
            (quiet_alike (blocks_of r.range) xs (pass k r xs) (λ i. alike_back (s.0.alike i)) s.0.quiet, omega arith)
        | inr f ↦ (let q = passes_end fuel (pass k r xs) (subst (λ n. r.range.last < n) (sym (length-pass k r xs)) l) (omega arith) in
            subst Good (sym (passes_on k r fuel xs f.1)) (q.0, omega (arith, q.1)))
      ]
