-- How long a walk within the limits is, and what it charges where every entry and every stay costs the same.
use Rattle.std.proofs.Common.{◌≡◌, ℕ, zero, suc, ◌+◌, ◌*◌, ◌<◌, ◌≤◌, Bool, true, false, cond, eqb, ltb, List, [], ◌∷◌, length, sym, refl, subst, inl, inr, le_trans, not-suc-le-zero, mul-le-mul_right, suc-mul, zero-mul, arith}
use Rattle.std.specs.List.{AllByRecursion}
use Rattle.std.proofs.lemmas.Bool.{cases_eq, cases_lt, cond-true, cond-false, eq-eqb, ne_eqb}
use Rattle.records.specs.declared.parts.Loop.{Loop}
use Rattle.records.specs.declared.parts.Edge.{Edge}
use Rattle.task.specs.Graph.{loop_at, Leads}
use Rattle.walks.specs.Walk.{innermost, Walk, rounds, begins, Limited}
use Rattle.tally.specs.Kinds.{cycles}
use Rattle.tally.specs.Lawful.{cycles_lawful}
use Rattle.longest.specs.Charge.{Costs, begun, entry, charge}
use Rattle.longest.proofs.Shape.{Shape, head}
use Rattle.longest.proofs.Entries.{standing, charge_start, charge_first, charge_again, charge_inside}
use Rattle.longest.proofs.Counts.{visits, deep, entries_few}

same_both : {X : Type 0} (t : Bool) (x : X) → cond t x x ≡ x
same_both true x = refl
same_both false x = refl

abbrev sum_to : ℕ → (ℕ → ℕ) → ℕ
sum_to zero g = 0
sum_to (suc n) g = sum_to n g + g n

sum_zero : (n : ℕ) → sum_to n (λ _. 0) ≡ 0
sum_zero zero = refl
sum_zero (suc n) = omega (arith, sum_zero n)

sum-add : (n : ℕ) (f g h : ℕ → ℕ) → ((x : ℕ) → h x ≡ f x + g x) → sum_to n h ≡ sum_to n f + sum_to n g
sum-add zero f g h e = refl
sum-add (suc n) f g h e = omega (arith, sum-add n f g h e, e n)

sum-none : (n b : ℕ) → n ≤ b → sum_to n (λ x. cond (eqb b x) 1 0) ≡ 0
sum-none zero b l = refl
sum-none (suc n) b l = omega (arith, sum-none n b (omega arith), cond-false {A = ℕ} (eqb b n) 1 0 (ne_eqb b n (λ e. omega arith)))

sum_one : (n b : ℕ) → b < n → sum_to n (λ x. cond (eqb b x) 1 0) ≡ 1
sum_one zero b l = absurd (not-suc-le-zero l)
sum_one (suc n) b l = elim (cases_eq b n) [
  | inl e ↦ omega (arith, sum-none n b (omega arith), cond-true {A = ℕ} (eqb b n) 1 0 (eq-eqb b n e))
  | inr e ↦ omega (arith, sum_one n b (omega arith), cond-false {A = ℕ} (eqb b n) 1 0 (ne_eqb b n e))
]

sum-most : (n t : ℕ) (f : ℕ → ℕ) → ((x : ℕ) → x < n → f x ≤ t) → sum_to n f ≤ n * t
sum-most zero t f h = omega arith
sum-most (suc n) t f h = omega (arith, sum-most n t f (λ x l. h x (omega arith)), h n (omega arith), suc-mul n t)

module _ (ls : List Loop) where
  no_stays : (x k b : ℕ) (w : List ℕ) → begun cycles (visits x) ls k b w ≡ 0
  no_stays x zero b w = refl
  no_stays x (suc k) b w = omega (arith, no_stays x k b w, same_both {X = ℕ} (begins (loop_at ls k) b w) 0)

  visit : (x b : ℕ) (w : List ℕ) → charge cycles (visits x) ls (b ∷ w) ≡ charge cycles (visits x) ls w + cond (eqb b x) 1 0
  visit x b w = omega (
    arith,
    no_stays x (length ls) b w,
    same_both {X = ℕ} (ltb 1 (rounds (loop_at ls (innermost ls b)) (b ∷ w)))
        (cond (eqb b x) 1 0),
  )

  -- the visits of all blocks are the blocks visited
  visits-all : (n : ℕ) (v : List ℕ) → AllByRecursion (λ b. b < n) v → sum_to n (λ x. charge cycles (visits x) ls v) ≡ length v
  visits-all n [] h = sum_zero n
  visits-all n (b ∷ w) h =
      let e = sum-add n (λ x. charge cycles (visits x) ls w) (λ x. cond (eqb b x) 1 0) (λ x. charge cycles (visits x) ls (b ∷ w))
      (λ x. visit x b w) in
      omega (arith, e, visits-all n w h.1, sum_one n b h.0)

-- each entry and each stay costs the same
abbrev pub even : ℕ → Costs ℕ
even s = record { first = λ _. s; later = λ _. s; stay = λ _. s }

module _ {n : ℕ} {ls : List Loop} {es : List Edge} (shape : Shape n ls es) where
  walk_blocks : (w : List ℕ) (b : ℕ) → Walk es 0 w b → Limited ls (b ∷ w) → AllByRecursion (λ x. x < n) (b ∷ w)
  walk_blocks [] b u k = ((standing shape [] b u k).block, tt)
  walk_blocks (p ∷ w) b u k = ((standing shape (p ∷ w) b u k).block, walk_blocks w p u.0 k.1)

  length-few : (t : ℕ) → ((x : ℕ) → x < n → deep shape 1 x ≤ t) → (w : List ℕ) (b : ℕ) → Walk es 0 w b → Limited ls (b ∷ w)
      → length (b ∷ w) ≤ n * t
  length-few t h w b u k =
      let few = sum-most n t (λ x. charge cycles (visits x) ls (b ∷ w)) (λ x l. le_trans (entries_few shape x l w b u k) (h x l)) in
      omega (arith, visits-all ls n (b ∷ w) (walk_blocks w b u k))

  module _ (s : ℕ) where
    entry_even : (b : ℕ) (w : List ℕ) → entry cycles (even s) ls b w ≡ s
    entry_even b w = same_both (ltb 1 (rounds (loop_at ls (innermost ls b)) (b ∷ w))) s

    entry_adds : (p b : ℕ) (w : List ℕ) → Leads es p b → charge cycles (even s) ls (b ∷ p ∷ w) ≤ charge cycles (even s) ls (p ∷ w) + (s + s)
    entry_adds p b w e =
        let one = entry_even b (p ∷ w) in
        elim (cases_lt p b) [
          | inr l ↦ omega (arith, charge_again cycles_lawful (even s) shape p b w e l)
          | inl l ↦ elim (cases_eq (head ls (innermost ls b)) b) [
            | inl u ↦ omega (arith, charge_first cycles_lawful (even s) shape p b w e u l)
            | inr u ↦ omega (arith, charge_inside cycles_lawful (even s) shape p b w e u)
          ]
        ]

    charge_even : (w : List ℕ) (b : ℕ) → Walk es 0 w b → charge cycles (even s) ls (b ∷ w) ≤ length (b ∷ w) * (s + s)
    charge_even [] b u = subst (λ x. charge cycles (even s) ls (x ∷ []) ≤ length (x ∷ []) * (s + s)) (sym u)
        (omega (arith, charge_start cycles_lawful (even s) shape, entry_even 0 [], suc-mul 0 (s + s), zero-mul (s + s)))
    charge_even (p ∷ w) b u = omega (arith, entry_adds p b w u.1, charge_even w p u.0, suc-mul (length (p ∷ w)) (s + s))

    pub charge_few : (t : ℕ) → ((x : ℕ) → x < n → deep shape 1 x ≤ t) → (w : List ℕ) (b : ℕ) → Walk es 0 w b → Limited ls (b ∷ w)
        → charge cycles (even s) ls (b ∷ w) ≤ n * t * (s + s)
    charge_few t h w b u k = le_trans (charge_even w b u) (mul-le-mul_right (s + s) (length-few t h w b u k))
