-- Rounds, stays and charges along a walk, entry by entry.
use Rattle.std.proofs.Common.{◌≡◌, ℕ, zero, suc, ◌+◌, ◌<◌, ◌≤◌, true, false, cond, not, eqb, List, [], ◌∷◌, length, sym, refl, ap, ◌∙◌, subst, ap₂, inl, inr, not-suc-le-zero, add-one, arith}
use Rattle.std.proofs.lemmas.Bool.{cases_Bool, cases_eq, cond-true, cond-false, eq-eqb, ne_eqb, and_parts, and_from, not-true, not_from_false}
use Rattle.records.specs.declared.parts.Loop.{Loop}
use Rattle.records.specs.declared.parts.Edge.{Edge}
use Rattle.task.specs.Graph.{loop_at, within, Leads}
use Rattle.walks.specs.Walk.{innermost, Walk, rounds, begins, Limited}
use Rattle.walks.proofs.Inside.{within_true, true_within, within_false, false_within}
use Rattle.tally.specs.Laws.{Ops, TallyLaws}
use Rattle.longest.specs.Charge.{Costs, begun, entry, charge}
use Rattle.longest.proofs.Shape.{Shape, head, limit, In}
use Rattle.longest.proofs.Nest.{in_task, inner_less, inner_in, heads, from_in}
use Rattle.longest.proofs.Sums.{right}

-- the rounds of loop i when block b is entered after the blocks w
module _ (ls : List Loop) (i b : ℕ) (w : List ℕ) where
  abbrev was : ℕ
  was = rounds (loop_at ls i) w

  abbrev turns : ℕ
  turns = cond (eqb b (head ls i)) (suc was) was

  pub left_out : (In ls i b → ⊥) → rounds (loop_at ls i) (b ∷ w) ≡ 0
  left_out h = cond-false (within (loop_at ls i) b) turns 0 (false_within (loop_at ls i) b h)

  pub one_more : In ls i b → head ls i ≡ b → rounds (loop_at ls i) (b ∷ w) ≡ was + 1
  one_more q h =
      cond-true (within (loop_at ls i) b) turns 0 (true_within (loop_at ls i) b q)
      ∙ cond-true (eqb b (head ls i)) (suc was) was (eq-eqb b (head ls i) (sym h)) ∙ sym (add-one was)

  pub kept_on : In ls i b → (head ls i ≡ b → ⊥) → rounds (loop_at ls i) (b ∷ w) ≡ was
  kept_on q h =
      cond-true (within (loop_at ls i) b) turns 0 (true_within (loop_at ls i) b q)
      ∙ cond-false (eqb b (head ls i)) (suc was) was (ne_eqb b (head ls i) (λ e. h (sym e)))

-- a walk within the limits stands at block b
pub record Standing (n : ℕ) (ls : List Loop) (b : ℕ) (w : List ℕ) : Type 0 where
  pub block : b < n
  pub some : (i : ℕ) → i < length ls → In ls i b → 1 ≤ rounds (loop_at ls i) (b ∷ w)
  pub under : (i : ℕ) → i < length ls → rounds (loop_at ls i) (b ∷ w) ≤ limit ls i

module _ {n : ℕ} {ls : List Loop} {es : List Edge} (shape : Shape n ls es) where
  pub zero_block : 0 < n
  zero_block = omega (arith, shape.fits 0 shape.some)

  -- only the task loop has block 0
  pub only_task : (i : ℕ) → i < length ls → In ls i 0 → i ≡ 0
  only_task i h q = elim (cases_eq i 0) [ inl e ↦ e | inr ne ↦ absurd (omega (arith, shape.up 0 i (omega arith) h)) ]

  pub standing : (w : List ℕ) (b : ℕ) → Walk es 0 w b → Limited ls (b ∷ w) → Standing n ls b w
  standing [] b e k = record {
    block = subst (λ x. x < n) (sym e) zero_block;
    some = λ i h q. omega (arith, one_more ls i b [] q (omega arith));
    under = k.0;
  }
  standing (p ∷ w) b (u, e) k =
      let s = standing w p u k.1 in
      record {
        block = (shape.ends p b e).1;
        some = λ i h q. elim (cases_eq (head ls i) b) [
          | inl v ↦ omega (arith, one_more ls i b (p ∷ w) q v)
          | inr v ↦ omega (arith, kept_on ls i b (p ∷ w) q v, s.some i h (from_in shape p b i e h q v))
        ];
        under = k.0;
      }

  -- what an entry leaves alone
  pub keeps : (p b i : ℕ) (w : List ℕ) → Leads es p b → i < length ls → In ls i b → (head ls i ≡ b → ⊥) → (In ls i p)
      × (rounds (loop_at ls i) (b ∷ p ∷ w) ≡ rounds (loop_at ls i) (p ∷ w))
  keeps p b i w e h q ne = (from_in shape p b i e h q ne, kept_on ls i b (p ∷ w) q ne)

  -- a stay begins only at a header, and only by a step forward
  pub begins_only : (p b i : ℕ) (w : List ℕ) → Leads es p b → i < length ls → begins (loop_at ls i) b (p ∷ w) ≡ true → (head ls i ≡ b)
      × (p < b)
  begins_only p b i w e h t =
      let u = and_parts (within (loop_at ls i) b) (not (within (loop_at ls i) p)) t in
      let out = within_false (loop_at ls i) p (not-true (within (loop_at ls i) p) u.1) in
      elim (shape.enter i p b h e (within_true (loop_at ls i) b u.0)) [ inl q ↦ absurd (out q) | inr q ↦ (sym q.0, q.1) ]

  pub begins_not : (p b i : ℕ) (w : List ℕ) → Leads es p b → i < length ls → (head ls i ≡ b → p < b → ⊥)
      → begins (loop_at ls i) b (p ∷ w) ≡ false
  begins_not p b i w e h never = elim (cases_Bool (begins (loop_at ls i) b (p ∷ w))) [
    | inl t ↦ (let u = begins_only p b i w e h t in absurd (never u.0 u.1))
    | inr t ↦ t
  ]

module _ {T : Type 0} {m : Ops T} {size : T → ℕ} (laws : TallyLaws m size) (costs : Costs T) (ls : List Loop) (b : ℕ) (w : List ℕ) where
  begun_none : (k : ℕ) → ((i : ℕ) → i < k → begins (loop_at ls i) b w ≡ false) → begun m costs ls k b w ≡ m.none
  begun_none zero h = refl
  begun_none (suc k) h =
      ap₂ m.plus (begun_none k (λ i l. h i (omega arith)))
      (cond-false (begins (loop_at ls k) b w) (costs.stay k) m.none (h k (omega arith))) ∙ laws.neutral m.none

  begun_one : (k j : ℕ) → j < k → begins (loop_at ls j) b w ≡ true → ((i : ℕ) → i < k → (i ≡ j → ⊥) → begins (loop_at ls i) b w ≡ false)
      → begun m costs ls k b w ≡ costs.stay j
  begun_one zero j l t h = absurd (not-suc-le-zero l)
  begun_one (suc k) j l t h = elim (cases_eq j k) [
    | inl e ↦ ap₂ m.plus (begun_none k (λ i g. h i (omega arith) (λ u. omega arith)))
        (cond-true (begins (loop_at ls k) b w) (costs.stay k) m.none (subst (λ x. begins (loop_at ls x) b w ≡ true) e t))
        ∙ laws.neutral (costs.stay k) ∙ ap costs.stay (sym e)
    | inr ne ↦ ap₂ m.plus (begun_one k j (omega arith) t (λ i g u. h i (omega arith) u))
        (cond-false (begins (loop_at ls k) b w) (costs.stay k) m.none (h k (omega arith) (λ u. ne (sym u)))) ∙ right laws (costs.stay j)
  ]

  pub with_stay : (j : ℕ) → j < length ls → begins (loop_at ls j) b w ≡ true
      → ((i : ℕ) → i < length ls → (i ≡ j → ⊥) → begins (loop_at ls i) b w ≡ false)
      → charge m costs ls (b ∷ w) ≡ m.plus (m.plus (charge m costs ls w) (costs.stay j)) (entry m costs ls b w)
  with_stay j l t h = ap (λ x. m.plus (m.plus (charge m costs ls w) x) (entry m costs ls b w)) (begun_one (length ls) j l t h)

  pub without_stay : ((i : ℕ) → i < length ls → begins (loop_at ls i) b w ≡ false)
      → charge m costs ls (b ∷ w) ≡ m.plus (charge m costs ls w) (entry m costs ls b w)
  without_stay h = ap (λ x. m.plus (m.plus (charge m costs ls w) x) (entry m costs ls b w)) (begun_none (length ls) h)
      ∙ ap (λ x. m.plus x (entry m costs ls b w)) (right laws (charge m costs ls w))

module _ {T : Type 0} {m : Ops T} {size : T → ℕ} (laws : TallyLaws m size) (costs : Costs T) {n : ℕ} {ls : List Loop} {es : List Edge}
    (shape : Shape n ls es) where
  abbrev inner : ℕ → ℕ
  inner b = innermost ls b

  pub charge_start : charge m costs ls (0 ∷ []) ≡ m.plus (costs.stay 0) (entry m costs ls 0 [])
  charge_start =
      with_stay laws costs ls 0 [] 0 shape.some (true_within (loop_at ls 0) 0 (in_task shape 0 (zero_block shape)))
      (λ i h ne. false_within (loop_at ls i) 0 (λ q. ne (only_task shape i h q)))
      ∙ ap (λ x. m.plus x (entry m costs ls 0 [])) (laws.neutral (costs.stay 0))

  module _ (p b : ℕ) (w : List ℕ) (e : Leads es p b) where
    -- a stay begins
    pub charge_first : head ls (inner b) ≡ b → p < b
        → charge m costs ls (b ∷ p ∷ w) ≡ m.plus (m.plus (charge m costs ls (p ∷ w)) (costs.stay (inner b))) (entry m costs ls b (p ∷ w))
    charge_first u l =
        let h = inner_less shape b in
        let bl = (shape.ends p b e).1 in
        let q = inner_in shape b bl in
        let out : In ls (inner b) p → ⊥ = λ v. omega arith in
        let t = and_from (within (loop_at ls (inner b)) b) (not (within (loop_at ls (inner b)) p)) (true_within (loop_at ls (inner b)) b q)
        (not_from_false (within (loop_at ls (inner b)) p) (false_within (loop_at ls (inner b)) p out)) in
        with_stay laws costs ls b (p ∷ w) (inner b) h t (λ i g ne. begins_not shape p b i w e g (λ v _. ne (heads shape b i g v bl)))

    -- a further round begins
    pub charge_again : b ≤ p → charge m costs ls (b ∷ p ∷ w) ≡ m.plus (charge m costs ls (p ∷ w)) (entry m costs ls b (p ∷ w))
    charge_again l = without_stay laws costs ls b (p ∷ w) (λ i h. begins_not shape p b i w e h (λ _ v. omega arith))

    -- a round goes on
    pub charge_inside : (head ls (inner b) ≡ b → ⊥)
        → charge m costs ls (b ∷ p ∷ w) ≡ m.plus (charge m costs ls (p ∷ w)) (entry m costs ls b (p ∷ w))
    charge_inside ne = without_stay laws costs ls b (p ∷ w)
        (λ i h. begins_not shape p b i w e h (λ v _. ne (subst (λ j. head ls j ≡ b) (heads shape b i h v (shape.ends p b e).1) v)))
