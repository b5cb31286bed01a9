-- How the loops lie around a block.
use Rattle.std.proofs.Common.{◌≡◌, ℕ, zero, suc, ◌<◌, ◌≤◌, ◌⊎◌, List, length, sym, subst, inl, inr, le_of_suc-le-suc, not-suc-le-zero, arith}
use Rattle.std.proofs.lemmas.Bool.{cases_eq, cases_lt}
use Rattle.records.specs.declared.parts.Loop.{Loop}
use Rattle.records.specs.declared.parts.Edge.{Edge}
use Rattle.task.specs.Graph.{loop_at, Leads}
use Rattle.walks.specs.Walk.{innermost_of, innermost}
use Rattle.walks.proofs.Inside.{true_within, false_within, cases_within, innermost_yes, innermost_no}
use Rattle.longest.proofs.Shape.{Shape, head, In, parent}

pub dec_in : (ls : List Loop) (i b : ℕ) → (In ls i b) ⊎ (In ls i b → ⊥)
dec_in ls i b = cases_within (loop_at ls i) b

-- the innermost of the first n + 1 loops
inner_yes : (ls : List Loop) (n b : ℕ) → In ls n b → innermost_of ls (suc n) b ≡ n
inner_yes ls n b q = innermost_yes ls n b (true_within (loop_at ls n) b q)

inner_no : (ls : List Loop) (n b : ℕ) → (In ls n b → ⊥) → innermost_of ls (suc n) b ≡ innermost_of ls n b
inner_no ls n b q = innermost_no ls n b (false_within (loop_at ls n) b q)

pub around_in : (ls : List Loop) (n b : ℕ) → In ls 0 b → In ls (innermost_of ls n b) b
around_in ls zero b z = z
around_in ls (suc n) b z = elim (dec_in ls n b) [
  | inl q ↦ subst (λ i. In ls i b) (sym (inner_yes ls n b q)) q
  | inr q ↦ subst (λ i. In ls i b) (sym (inner_no ls n b q)) (around_in ls n b z)
]

pub around_less : (ls : List Loop) (n b m : ℕ) → 0 < m → n ≤ m → innermost_of ls n b < m
around_less ls zero b m z h = z
around_less ls (suc n) b m z h = elim (dec_in ls n b) [
  | inl q ↦ subst (λ i. i < m) (sym (inner_yes ls n b q)) h
  | inr q ↦ subst (λ i. i < m) (sym (inner_no ls n b q)) (around_less ls n b m z (omega arith))
]

pub around_most : (ls : List Loop) (n b i : ℕ) → i < n → In ls i b → i ≤ innermost_of ls n b
around_most ls zero b i h q = absurd (not-suc-le-zero h)
around_most ls (suc n) b i h q = elim (dec_in ls n b) [
  | inl u ↦ subst (λ j. i ≤ j) (sym (inner_yes ls n b u)) (le_of_suc-le-suc h)
  | inr u ↦ subst (λ j. i ≤ j) (sym (inner_no ls n b u)) (elim (cases_eq i n) [
    | inl e ↦ absurd (u (subst (λ j. In ls j b) e q))
    | inr ne ↦ around_most ls n b i (omega arith) q
  ])
]

module _ {n : ℕ} {ls : List Loop} {es : List Edge} (shape : Shape n ls es) where
  abbrev inner : ℕ → ℕ
  inner b = innermost ls b

  pub in_task : (b : ℕ) → b < n → In ls 0 b
  in_task b h = (omega (arith, shape.first), shape.covers b h)

  pub inner_less : (b : ℕ) → inner b < length ls
  inner_less b = around_less ls (length ls) b (length ls) shape.some (omega arith)

  pub inner_in : (b : ℕ) → b < n → In ls (inner b) b
  inner_in b h = around_in ls (length ls) b (in_task b h)

  pub inner_most : (b i : ℕ) → i < length ls → In ls i b → i ≤ inner b
  inner_most b i h q = around_most ls (length ls) b i h q

  pub head_in : (i : ℕ) → i < length ls → In ls i (head ls i)
  head_in i h = (omega arith, (shape.fits i h).0)

  pub head_block : (i : ℕ) → i < length ls → head ls i < n
  head_block i h = omega (arith, shape.fits i h)

  -- the loop that b heads is its innermost
  pub heads : (b i : ℕ) → i < length ls → head ls i ≡ b → b < n → i ≡ inner b
  heads b i h e l =
      let q : In ls i b = subst (In ls i) e (head_in i h) in
      let m = inner_most b i h q in
      let k = inner_in b l in
      elim (cases_eq i (inner b)) [
        | inl e ↦ e
        | inr ne ↦ absurd (omega (arith, shape.up i (inner b) (omega arith) (inner_less b)))
      ]

  pub parent_less : (i : ℕ) → 0 < i → parent ls i < i
  parent_less i h = around_less ls i (head ls i) i h (omega arith)

  pub parent_in : (i b : ℕ) → 0 < i → i < length ls → In ls i b → In ls (parent ls i) b
  parent_in i b z h q =
      let l = parent_less i z in
      let p : In ls (parent ls i) (head ls i) = around_in ls i (head ls i) (in_task (head ls i) (head_block i h)) in
      elim (shape.apart (parent ls i) i l h) [
        | inl a ↦ (omega arith, omega arith)
        | inr a ↦ absurd (omega arith)
      ]

  -- what lies further out lies around the parent
  pub parent_most : (i j b : ℕ) → i < j → j < length ls → In ls i b → In ls j b → i ≤ parent ls j
  parent_most i j b l h p q = around_most ls j (head ls j) i l (omega (arith, shape.up i j l h), omega arith)

  -- a loop around b that b does not head was stayed in before
  pub from_in : (p b i : ℕ) → Leads es p b → i < length ls → In ls i b → (head ls i ≡ b → ⊥) → In ls i p
  from_in p b i e h q ne = elim (shape.enter i p b h e q) [ inl u ↦ u | inr u ↦ absurd (ne (sym u.0)) ]

  -- an edge back stays in the loop that it goes to the header of
  pub back_in : (p b : ℕ) → Leads es p b → b ≤ p → (head ls (inner b) ≡ b) × In ls (inner b) p
  back_in p b e l =
      let w = shape.back p b e l in
      let s : w.0 ≡ inner b = heads b w.0 w.1 w.2 (shape.ends p b e).1 in
      (subst (λ i. head ls i ≡ b) s w.2, subst (λ i. In ls i p) s (omega (arith, w.2), w.3))

  -- a loop around a header is around the whole loop
  pub wider : (i j x : ℕ) → i < length ls → j < length ls → In ls j (head ls i) → In ls i x → In ls j x
  wider i j x h k q p = elim (cases_lt j i) [
    | inl l ↦ elim (shape.apart j i l h) [ inl u ↦ (omega arith, omega arith) | inr u ↦ absurd (omega arith) ]
    | inr l ↦ elim (cases_eq j i) [
      | inl u ↦ subst (λ y. In ls y x) (sym u) p
      | inr u ↦ absurd
          (omega (arith, shape.up i j (omega arith) k))
    ]
  ]

  -- the loop next inside i that has x
  pub inside : (k i j x : ℕ) → j ≤ k → i < j → j < length ls → In ls i x → In ls j x → (m : ℕ) × (i < m) × (m < length ls)
      × (parent ls m ≡ i) × In ls m x
  inside zero i j x l k h p q = absurd (omega arith)
  inside (suc n) i j x l k h p q = elim (cases_eq (parent ls j) i) [
    | inl u ↦ (j, k, h, u, q)
    | inr u ↦ (
        let z : 0 < j = omega arith in
        let a = parent_less j z in
        let b = parent_most i j x k h p q in
        inside n i (parent ls j) x (omega arith) (omega arith) (omega arith) p (parent_in j x z h q))
  ]
