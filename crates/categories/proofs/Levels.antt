-- The levels of a block: just the loops around it, the innermost first.
use Rattle.std.proofs.Common.{◌≡◌, ℕ, zero, suc, ◌+◌, ◌<◌, ◌≤◌, true, false, ◌↔◌, List, [], ◌∷◌, ◌++◌, length, get_or, take, sym, refl, ap, ◌∙◌, subst, inl, inr, arith, length-append, take-suc}
use Rattle.std.proofs.lemmas.List.{take_all}
use Rattle.std.proofs.lemmas.Bool.{cases_Bool, cases_lt}
use Rattle.records.specs.declared.parts.Loop.{Loop}
use Rattle.records.specs.Contents.{Contents}
use Rattle.task.specs.Graph.{loop_at, within, Within, around, levels}
use Rattle.walks.specs.Walk.{all_loops, task_loop, innermost_of, innermost, Among}
use Rattle.categories.specs.Category.{having, levels_of}
use Rattle.categories.proofs.Loops.{within_true, true_within, false_within, innermost_yes, innermost_no}

module _ (ls : List Loop) (n b : ℕ) where
  having_yes : within (loop_at ls n) b ≡ true → having ls (suc n) b ≡ n ∷ having ls n b
  having_yes q = rw (q, having)

  having_no : within (loop_at ls n) b ≡ false → having ls (suc n) b ≡ having ls n b
  having_no q = rw (q, having)

module _ (l : Loop) (ls : List Loop) (b : ℕ) where
  around_yes : within l b ≡ true → around (l ∷ ls) b ≡ l ∷ around ls b
  around_yes q = rw (q, around)

  around_no : within l b ≡ false → around (l ∷ ls) b ≡ around ls b
  around_no q = rw (q, around)

among_having : (ls : List Loop) (n b i : ℕ) → Among i (having ls n b) ↔ ((i < n) × Within (loop_at ls i) b)
among_having ls zero b i = (λ m. absurd m, λ h. absurd (omega (arith, h.0)))
among_having ls (suc n) b i =
    let r = among_having ls n b i in
    elim (cases_Bool (within (loop_at ls n) b)) [
      | inl e ↦ (
        λ m. elim (subst (Among i) (having_yes ls n b e) m) [
          | inl q ↦ (omega arith, subst (λ x. Within (loop_at ls x) b) (sym q) (within_true (loop_at ls n) b e))
          | inr q ↦ (let z = r.0 q in (omega (arith, z.0), z.1))
        ],
        λ h. subst (Among i) (sym (having_yes ls n b e))
            (elim (cases_lt i n) [ inl less ↦ inr (r.1 (less, h.1)) | inr more ↦ inl (omega (arith, h.0)) ]),
      )
      | inr e ↦ (
        λ m. (let z = r.0 (subst (Among i) (having_no ls n b e) m) in (omega (arith, z.0), z.1)),
        λ h. subst (Among i) (sym (having_no ls n b e))
            (elim (cases_lt i n) [
              | inl less ↦ r.1 (less, h.1)
              | inr more ↦ absurd (false_within (loop_at ls n) b e (subst (λ x. Within (loop_at ls x) b) (omega (arith, h.0)) h.1))
            ]),
      )
    ]

first_having : (ls : List Loop) (n b : ℕ) → get_or (having ls n b) 0 0 ≡ innermost_of ls n b
first_having ls zero b = refl
first_having ls (suc n) b = elim (cases_Bool (within (loop_at ls n) b)) [
  | inl e ↦ ap (λ xs. get_or xs 0 0) (having_yes ls n b e) ∙ sym (innermost_yes ls n b e)
  | inr e ↦ ap (λ xs. get_or xs 0 0) (having_no ls n b e) ∙ first_having ls n b ∙ sym (innermost_no ls n b e)
]

around-append : (ls ms : List Loop) (b : ℕ) → around (ls ++ ms) b ≡ around ls b ++ around ms b
around-append [] ms b = refl
around-append (l ∷ ls) ms b = elim (cases_Bool (within l b)) [
  | inl e ↦ around_yes l (ls ++ ms) b e ∙ ap (λ xs. l ∷ xs) (around-append ls ms b) ∙ sym (ap (λ xs. xs ++ around ms b) (around_yes l ls b e))
  | inr e ↦ around_no l (ls ++ ms) b e ∙ around-append ls ms b ∙ sym (ap (λ xs. xs ++ around ms b) (around_no l ls b e))
]

length-having : (ls : List Loop) (b n : ℕ) → n ≤ length ls → length (having ls n b) ≡ length (around (take n ls) b)
length-having ls b zero h = refl
length-having ls b (suc n) h =
    let one : Loop = loop_at ls n in
    let r = length-having ls b n (omega arith) in
    let split : length (around (take (suc n) ls) b) ≡ length (around (take n ls) b) + length (around (one ∷ []) b) =
    ap (λ xs. length (around xs b)) (take-suc ls n (record { header = 0; last = 0; limit = 0 }) (omega arith))
    ∙ ap length (around-append (take n ls) (one ∷ []) b) ∙ length-append (around (take n ls) b) (around (one ∷ []) b) in
    elim (cases_Bool (within one b)) [
      | inl e ↦ (let a = ap length (having_yes ls n b e) in let z = ap length (around_yes one [] b e) in omega arith)
      | inr e ↦ (let a = ap length (having_no ls n b e) in let z = ap length (around_no one [] b e) in omega arith)
    ]

module _ (c : Contents) (b : ℕ) where
  -- a level is a loop around the block
  pub among_levels : (i : ℕ) → Among i (levels_of c b) ↔ ((i < length (all_loops c)) × Within (loop_at (all_loops c) i) b)
  among_levels = among_having (all_loops c) (length (all_loops c)) b

  -- the innermost first
  pub first_level : get_or (levels_of c b) 0 0 ≡ innermost (all_loops c) b
  first_level = first_having (all_loops c) (length (all_loops c)) b

  -- as many as the block has levels
  pub length-levels : b < length c.blocks → length (levels_of c b) ≡ levels c.loops b
  length-levels h =
      let r = length-having (all_loops c) b (length (all_loops c)) (omega arith) in
      let all = ap (λ xs. length (around xs b)) (take_all (length (all_loops c)) (all_loops c) (omega arith)) in
      let task = ap length (around_yes (task_loop c) c.loops b (true_within (task_loop c) b (omega arith, omega arith))) in
      omega arith
