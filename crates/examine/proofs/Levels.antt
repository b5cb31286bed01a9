-- The levels of a block by their numbers: at place k of the list stands the loop of level k.
use Rattle.std.proofs.Common.{◌≡◌, ℕ, zero, suc, ◌+◌, ◌<◌, ◌≤◌, List, [], ◌∷◌, length, get_or, sym, refl, ap, ◌∙◌, subst, inl, inr, add-one, arith}
use Rattle.std.proofs.lemmas.Bool.{cases_Bool}
use Rattle.records.specs.declared.parts.Loop.{Loop}
use Rattle.records.specs.Contents.{Contents}
use Rattle.task.specs.Graph.{loop_at, within, Within}
use Rattle.task.proofs.Around.{around_more_out, around-all}
use Rattle.walks.specs.Walk.{all_loops, Among}
use Rattle.categories.specs.Category.{having, levels_of}
use Rattle.categories.proofs.Levels.{among_levels}
use Rattle.marks.specs.Table.{level_of}
use Rattle.figure.proofs.Levels.{above_from, above_in}

-- what stands at a place of a list, and where something of a list stands
at_among : (xs : List ℕ) (k : ℕ) → k < length xs → Among (get_or xs k 0) xs
at_among [] k h = absurd (omega arith)
at_among (x ∷ xs) zero h = inl refl
at_among (x ∷ xs) (suc k) h = inr (at_among xs k (omega arith))

among_at : (x : ℕ) (xs : List ℕ) → Among x xs → (k : ℕ) × (k < length xs) × (get_or xs k 0 ≡ x)
among_at x [] m = absurd m
among_at x (y ∷ xs) (inl e) = (0, omega arith, sym e)
among_at x (y ∷ xs) (inr m) = let r = among_at x xs m in (suc r.0, omega (arith, r.1), r.2)

module _ (ls : List Loop) (b : ℕ) where
  -- the loops around the block that come after the one at place k are k more than those from number n on
  abbrev Placed : ℕ → List ℕ → Type 0
  Placed n xs = (k : ℕ) → k < length xs → above_from ls b (suc (get_or xs k 0)) ≡ above_from ls b n + k

  placed_in : (n : ℕ) (xs : List ℕ) → above_from ls b n ≡ above_from ls b (suc n) + 1 → Placed n xs → Placed (suc n) (n ∷ xs)
  placed_in n xs up p zero h = omega arith
  placed_in n xs up p (suc k) h = omega (arith, p k (omega arith))

  placed_having : (n : ℕ) → n ≤ length ls → Placed n (having ls n b)
  placed_having zero few = λ k h. absurd (omega arith)
  placed_having (suc n) few =
      let p = placed_having n (omega arith) in
      elim (cases_Bool (within (loop_at ls n) b)) [
        | inl e ↦ (
            let is : having ls (suc n) b ≡ n ∷ having ls n b = rw (e, having) in
            subst (Placed (suc n)) (sym is) (placed_in n (having ls n b) (above_in ls b n few e) p))
        | inr e ↦ (
            let is : having ls (suc n) b ≡ having ls n b = rw (e, having) in
            let same : above_from ls b n ≡ above_from ls b (suc n) = ap length (around_more_out ls n b few e) ∙ ap (above_from ls b) (add-one n) in
            subst (Placed (suc n)) (sym is) (λ k h. p k h ∙ ap (λ m. m + k) same))
      ]

module _ (c : Contents) (b : ℕ) where
  -- the loop at a level of the block
  pub level_number : (k : ℕ) → k < length (levels_of c b) → get_or (levels_of c b) k 0 < length (all_loops c)
  level_number k h = ((among_levels c b (get_or (levels_of c b) k 0)).0 (at_among (levels_of c b) k h)).0

  pub level_within : (k : ℕ) → k < length (levels_of c b) → Within (loop_at (all_loops c) (get_or (levels_of c b) k 0)) b
  level_within k h = ((among_levels c b (get_or (levels_of c b) k 0)).0 (at_among (levels_of c b) k h)).1

  pub level_of_lem : (k : ℕ) → k < length (levels_of c b) → level_of c b (get_or (levels_of c b) k 0) ≡ k
  level_of_lem k h =
      let none = ap length (around-all (all_loops c) (length (all_loops c)) b (omega arith)) in
      omega (arith, placed_having (all_loops c) b (length (all_loops c)) (omega arith) k h)

  -- the level of a loop around the block
  module _ (i : ℕ) (number : i < length (all_loops c)) (around-it : Within (loop_at (all_loops c) i) b) where
    stands : (k : ℕ) × (k < length (levels_of c b)) × (get_or (levels_of c b) k 0 ≡ i)
    stands = among_at i (levels_of c b) ((among_levels c b i).1 (number, around-it))

    level_place : level_of c b i ≡ stands.0
    level_place = ap (level_of c b) (sym stands.2) ∙ level_of_lem stands.0 stands.1

    pub level_less : level_of c b i < length (levels_of c b)
    level_less = omega (arith, level_place, stands.1)

    pub level_at_lem : get_or (levels_of c b) (level_of c b i) 0 ≡ i
    level_at_lem = ap (λ k. get_or (levels_of c b) k 0) level_place ∙ stands.2
