-- What agrees at the task's blocks and loops gives the same costs, and what costs the same there has the same figure.
use Rattle.std.proofs.Common.{◌≡◌, ℕ, zero, suc, ◌+◌, ◌-◌, ◌*◌, ◌<◌, ◌≤◌, Bool, not, ◌&&◌, ◌||◌, List, [], ◌∷◌, ◌++◌, map, length, sym, refl, ap, ◌∙◌, subst, ap₂, inl, inr, arith}
use Rattle.std.specs.List.{range_with_len}
use Rattle.std.proofs.lemmas.Bool.{cases_Bool, cases_lt}
use Rattle.records.specs.declared.parts.Loop.{Loop}
use Rattle.records.specs.declared.parts.Edge.{Edge}
use Rattle.records.specs.Contents.{Contents}
use Rattle.records.specs.Layout.{InFormat}
use Rattle.task.specs.Graph.{block_at, loop_at, within, Within}
use Rattle.task.specs.Rules.{Sound}
use Rattle.walks.specs.Walk.{all_loops, innermost_of, innermost}
use Rattle.tally.specs.Laws.{Ops}
use Rattle.longest.specs.declared.Cell.{Cell}
use Rattle.longest.specs.Charge.{Costs}
use Rattle.longest.specs.Search.{by_round, cell_of, none_yet, highest, loop_done, loops_done, start_cells, figure_of}
use Rattle.categories.specs.declared.category.Category.{Category}
use Rattle.categories.specs.Category.{fetches_of, line_of, Marks}
use Rattle.categories.specs.Costs.{is_first_miss, pays_first, pays_later, distinct, first_miss_before, charged_fetch, charged_lines, charged_at, paying, cycle_costs, pair_costs}
use Rattle.categories.proofs.Loops.{within_true, innermost_yes, innermost_no}
use Rattle.figure.proofs.Lists.{passing_same, map_same}
use Rattle.figure.proofs.Places.{last_inside}

-- the same costs of every block and of a stay in every loop
pub record CostsAgree {T : Type 0} (c : Contents) (p q : Costs T) : Type 0 where
  pub first : (b : ℕ) → b < length c.blocks → p.first b ≡ q.first b
  pub later : (b : ℕ) → b < length c.blocks → p.later b ≡ q.later b
  pub stay : (i : ℕ) → i < length (all_loops c) → p.stay i ≡ q.stay i

module _ {T : Type 0} (m : Ops T) where
  loops_same : (es : List Edge) (f g : ℕ → T) (ls : List Loop) (i : ℕ) (s : List (Cell T)) → ((k : ℕ) → i ≤ k → k < i + length ls → f k ≡ g k)
      → loops_done m es f ls i s ≡ loops_done m es g ls i s
  loops_same es f g [] i s h = refl
  loops_same es f g (l ∷ ls) i s h =
      ap₂ (loop_done m es l) (h i (omega arith) (omega arith)) (loops_same es f g ls (suc i) s (λ k p q. h k (omega arith) (omega arith)))

  -- the search asks no other costs
  pub figure_agree : (c : Contents) (p q : Costs T) → CostsAgree c p q → figure_of m p c ≡ figure_of m q c
  figure_agree c p q a =
      let cells : start_cells m p (length c.blocks) ≡ start_cells m q (length c.blocks) =
      map_same _ _ 0 (length c.blocks) (λ k l h. ap₂ (λ x y. cell_of k (none_yet m) (by_round x y)) (a.first k (omega arith)) (a.later k (omega arith))) in
      ap (λ s. highest m s m.none)
      (ap (loops_done m c.edges p.stay (all_loops c) 0) cells
      ∙ loops_same c.edges p.stay q.stay (all_loops c) 0 (start_cells m q (length c.blocks)) (λ k l h. a.stay k (omega arith)))

-- the same category of each fetch of a block at each loop around the block
abbrev pub MarksAgree : Contents → Marks → Marks → Type 0
MarksAgree c p q =
    (b j i : ℕ) → b < length c.blocks → j < fetches_of c b → i < length (all_loops c) → Within (loop_at (all_loops c) i) b → p b j i ≡ q b j i

module _ (c : Contents) (p q : Marks) (agree : MarksAgree c p q) (format : InFormat c) (sound : Sound c) where
  -- a block is in its innermost loop
  innermost_around : (b n : ℕ) → b < length c.blocks → n ≤ length (all_loops c)
      → (innermost_of (all_loops c) n b < length (all_loops c)) × Within (loop_at (all_loops c) (innermost_of (all_loops c) n b)) b
  innermost_around b zero h few = (omega arith, (omega arith, omega arith))
  innermost_around b (suc n) h few = elim (cases_Bool (within (loop_at (all_loops c) n) b)) [
    | inl e ↦ subst (λ k. (k < length (all_loops c)) × Within (loop_at (all_loops c) k) b) (sym (innermost_yes (all_loops c) n b e)) (omega arith, within_true (loop_at (all_loops c) n) b e)
    | inr e ↦ subst (λ k. (k < length (all_loops c)) × Within (loop_at (all_loops c) k) b) (sym (innermost_no (all_loops c) n b e)) (innermost_around b n h (omega arith))
  ]

  paying_agree : (pays : Category → Bool) (b : ℕ) → b < length c.blocks → paying c p pays b ≡ paying c q pays b
  paying_agree pays b h =
      let i = innermost (all_loops c) b in
      let at = innermost_around b (length (all_loops c)) h (omega arith) in
      ap length (passing_same (λ j. pays (p b j i)) (λ j. pays (q b j i)) 0 (fetches_of c b) (λ k l less. ap pays (agree b k i h (omega arith) at.0 at.1)))

  before_agree : (b j n : ℕ) → b < length c.blocks → j < fetches_of c b → n ≤ length (all_loops c) → first_miss_before c p b j n ≡ first_miss_before c q b j n
  before_agree b j zero h l few = refl
  before_agree b j (suc n) h l few =
      let rest = before_agree b j n h l (omega arith) in
      let w = within (loop_at (all_loops c) n) b in
      let here : (w && is_first_miss (p b j n)) ≡ (w && is_first_miss (q b j n)) =
      elim (cases_Bool w) [
        | inl e ↦ ap (λ x. w && is_first_miss x) (agree b j n h l (omega arith) (within_true (loop_at (all_loops c) n) b e))
        | inr e ↦ ap (λ x. x && is_first_miss (p b j n)) e ∙ sym (ap (λ x. x && is_first_miss (q b j n)) e)
      ] in
      ap₂ (λ x y. x || y) here rest

  lines_agree : (i a n : ℕ) → i < length (all_loops c) → (loop_at (all_loops c) i).header ≤ a → a + n ≤ suc (loop_at (all_loops c) i).last
      → charged_lines c p i (range_with_len a n) ≡ charged_lines c q i (range_with_len a n)
  lines_agree i a zero number low high = refl
  lines_agree i a (suc n) number low high =
      let inside : a < length c.blocks = omega (arith, last_inside c format sound i number) in
      let each : (k : ℕ) → 0 ≤ k → k < 0 + fetches_of c a → charged_fetch c p i a k ≡ charged_fetch c q i a k =
      λ k l less. ap₂ (λ x y. is_first_miss x && not y) (agree a k i inside (omega arith) number (low, omega arith)) (before_agree a k i inside (omega arith) (omega arith)) in
      ap₂ (λ xs ys. map (line_of c a) xs ++ ys) (passing_same (charged_fetch c p i a) (charged_fetch c q i a) 0 (fetches_of c a) each)
      (lines_agree i (a + 1) n number (omega arith) (omega arith))

  charged_agree : (i : ℕ) → i < length (all_loops c) → charged_at c p i ≡ charged_at c q i
  charged_agree i number =
      let l = loop_at (all_loops c) i in
      elim (cases_lt l.last l.header) [
        | inl none ↦ (let z : suc l.last - l.header ≡ 0 = omega arith in
            ap (λ n. distinct [] (charged_lines c p i (range_with_len l.header n))) z ∙ sym (ap (λ n. distinct [] (charged_lines c q i (range_with_len l.header n))) z))
        | inr some ↦ ap (distinct []) (lines_agree i l.header (suc l.last - l.header) number (omega arith) (omega arith))
      ]

  -- marks that agree cost the same
  pub cycles_agree : CostsAgree c (cycle_costs c p) (cycle_costs c q)
  cycles_agree = record {
    first = λ b h. ap (λ n. (block_at c.blocks b).cycles + (c.header.hit * fetches_of c b + c.header.penalty * n)) (paying_agree pays_first b h);
    later = λ b h. ap (λ n. (block_at c.blocks b).cycles + (c.header.hit * fetches_of c b + c.header.penalty * n)) (paying_agree pays_later b h);
    stay = λ i h. ap (λ xs. c.header.penalty * length xs) (charged_agree i h);
  }

  pub pairs_agree : CostsAgree c (pair_costs c p) (pair_costs c q)
  pairs_agree = record {
    first = λ b h. ap (λ n. (n, fetches_of c b)) (paying_agree pays_first b h);
    later = λ b h. ap (λ n. (n, fetches_of c b)) (paying_agree pays_later b h);
    stay = λ i h. ap (λ xs. (length xs, 0)) (charged_agree i h);
  }
