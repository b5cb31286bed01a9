-- A walk within the limits enters a block at most as often as the limits around it allow.
use Rattle.std.proofs.Common.{◌≡◌, ℕ, zero, suc, ◌+◌, ◌-◌, ◌*◌, ◌<◌, ◌≤◌, max, Bool, true, false, cond, eqb, ltb, leb, ◌⊎◌, List, [], ◌∷◌, length, drop, sym, refl, ap, ◌∙◌, subst, ap₂, inl, inr, mul-le-mul_right, suc-mul, mul-le-mul, one-mul, arith, drop-cons}
use lib.Seq.{drop-length}
use Rattle.std.proofs.lemmas.Bool.{cases_eq, cases_lt, cond-true, cond-false, cond_both, le-leb, lt-leb, lt-ltb, le-ltb, ltb-false, eq-eqb, ne_eqb}
use Rattle.records.specs.declared.parts.Loop.{Loop}
use Rattle.records.specs.declared.parts.Edge.{Edge}
use Rattle.task.specs.Graph.{loop_at, within, around, product, limits}
use Rattle.walks.specs.Walk.{innermost, Walk, Limited}
use Rattle.walks.proofs.Inside.{within_true, true_within, false_within}
use Rattle.tally.specs.Kinds.{cycles}
use Rattle.tally.specs.Lawful.{cycles_lawful}
use Rattle.longest.specs.Charge.{Costs, charge}
use Rattle.longest.proofs.Shape.{Shape, head, final, limit, In, parent}
use Rattle.longest.proofs.Nest.{dec_in, around_most, inner_less, inner_in, inner_most, head_in, parent_less, parent_in, parent_most}
use Rattle.longest.proofs.Sums.{Le}
use Rattle.longest.proofs.Found.{Found, Covers, cost}
use Rattle.longest.proofs.Above.{bounded}

-- the costs by which a charge counts the entries of x
abbrev pub visits : ℕ → Costs ℕ
visits x = record { first = λ b. cond (eqb b x) 1 0; later = λ b. cond (eqb b x) 1 0; stay = λ _. 0 }

-- the last block of the outermost of these loops around b, or b
abbrev top : List Loop → ℕ → ℕ
top [] b = b
top (l ∷ ls) b = max (cond (within l b) l.last b) (top ls b)

module _ {n : ℕ} {ls : List Loop} {es : List Edge} (shape : Shape n ls es) where
  -- the product of the limits of the loops from i on around x
  abbrev pub deep : ℕ → ℕ → ℕ
  deep i x = limits (drop i ls) x

  deep_is : (i x : ℕ) → i < length ls → deep i x ≡ limits (loop_at ls i ∷ drop (suc i) ls) x
  deep_is i x h = ap (λ y. limits y x) (drop-cons ls i _ h)

  deep_in : (i x : ℕ) → i < length ls → In ls i x → deep i x ≡ limit ls i * deep (suc i) x
  deep_in i x h q =
      let e : around (loop_at ls i ∷ drop (suc i) ls) x ≡ loop_at ls i ∷ around (drop (suc i) ls) x =
      rw (true_within (loop_at ls i) x q, around) in
      deep_is i x h ∙ ap product e

  deep_out : (i x : ℕ) → i < length ls → (In ls i x → ⊥) → deep i x ≡ deep (suc i) x
  deep_out i x h q =
      let e : around (loop_at ls i ∷ drop (suc i) ls) x ≡ around (drop (suc i) ls) x = rw (false_within (loop_at ls i) x q, around) in
      deep_is i x h ∙ ap product e

  deep_end : (x : ℕ) → deep (length ls) x ≡ 1
  deep_end x = ap (λ y. limits y x) (drop-length ls)

  deep_some : (k i x : ℕ) → i + k ≡ length ls → 1 ≤ deep i x
  deep_some zero i x e = let u : length ls ≡ i = omega arith in subst (λ j. 1 ≤ deep j x) u (omega (arith, deep_end x))
  deep_some (suc k) i x e =
      let h : i < length ls = omega arith in
      let r = deep_some k (suc i) x (omega arith) in
      elim (dec_in ls i x) [
        | inl q ↦ (let p : 1 * 1 ≤ limit ls i * deep (suc i) x = mul-le-mul (shape.fits i h).2 r in omega (arith, deep_in i x h q))
        | inr q ↦ omega (arith, deep_out i x h q)
      ]

  deep_skip : (d i x : ℕ) → i + d ≤ length ls → ((j : ℕ) → i ≤ j → j < i + d → In ls j x → ⊥) → deep i x ≡ deep (i + d) x
  deep_skip zero i x l h = let e : i ≡ i + 0 = omega arith in ap (λ j. deep j x) e
  deep_skip (suc d) i x l h =
      let e : suc i + d ≡ i + suc d = omega arith in
      deep_out i x (omega arith) (h i (omega arith) (omega arith))
      ∙ deep_skip d (suc i) x (omega arith) (λ j u v. h j (omega arith) (omega arith)) ∙ ap (λ j. deep j x) e

  -- in a loop o of which i is a child around x
  deep_child : (o i x : ℕ) → o ≡ parent ls i → 0 < i → i < length ls → In ls i x → deep (suc o) x ≡ limit ls i * deep (suc i) x
  deep_child o i x u z h q =
      let l = parent_less shape i z in
      let e : suc o + (i - suc o) ≡ i = omega arith in
      deep_skip (i - suc o) (suc o) x (omega arith) (λ j a b p. omega (arith, parent_most shape j i x (omega arith) h p q))
      ∙ ap (λ j. deep j x) e ∙ deep_in i x h q

  -- how far a round of loop i has come at block b
  abbrev far : ℕ → ℕ → ℕ
  far i b = top (drop (suc i) ls) b

  top_self : (xs : List Loop) (b : ℕ) → b ≤ top xs b
  top_self [] b = omega arith
  top_self (l ∷ xs) b = omega (arith, top_self xs b)

  -- i is given as the place where the list begins
  top-drop : (j x : ℕ) → j < length ls → top (drop j ls) x ≡ max (cond (within (loop_at ls j) x) (final ls j) x) (top (drop (suc j) ls) x)
  top-drop j x h = ap (λ y. top y x) (drop-cons ls j _ h)

  far_in : (d i b : ℕ) → i + d < length ls → In ls (i + d) b → final ls (i + d) ≤ top (drop i ls) b
  far_in zero i b h q =
      let e : i + 0 ≡ i = omega arith in
      let q' = subst (λ j. In ls j b) e q in
      let y : cond (within (loop_at ls i) b) (final ls i) b ≡ final ls i = cond-true _ (final ls i) b (true_within (loop_at ls i) b q') in
      subst (λ j. final ls j ≤ top (drop i ls) b) (sym e) (omega (arith, top-drop i b (omega arith)))
  far_in (suc d) i b h q =
      let e : suc i + d ≡ i + suc d = omega arith in
      let r = far_in d (suc i) b (omega arith) (subst (λ j. In ls j b) (sym e) q) in
      let r' : final ls (i + suc d) ≤ top (drop (suc i) ls) b = subst (λ j. final ls j ≤ top (drop (suc i) ls) b) e r in
      omega (arith, top-drop i b (omega arith))

  -- what bounds b and the ends of the loops from i on around b bounds how far it is
  far_least : (d i b t : ℕ) → i + d ≡ length ls → b < t → ((j : ℕ) → i ≤ j → j < length ls → In ls j b → final ls j < t)
      → top (drop i ls) b < t
  far_least zero i b t e l h =
      let u : length ls ≡ i = omega arith in
      subst (λ j. top (drop j ls) b < t) u (subst (λ y. top y b < t) (sym (drop-length ls)) l)
  far_least (suc d) i b t e l h =
      let r = far_least d (suc i) b t (omega arith) l (λ j u v q. h j (omega arith) v q) in
      let g : i < length ls = omega arith in
      let y : cond (within (loop_at ls i) b) (final ls i) b < t =
      cond_both (within (loop_at ls i) b) (final ls i) b (λ z. z < t) (λ w. h i (omega arith) g (within_true (loop_at ls i) b w))
      (λ _. l) in
      omega (arith, top-drop i b g)

  far_before : (i t p : ℕ) → i < length ls → p < t → ((j : ℕ) → i < j → j < length ls → In ls j p → In ls j t → ⊥) → far i p < t
  far_before i t p h l no_both = far_least (length ls - suc i) (suc i) p t (omega arith) l (λ j u v q. elim (cases_lt (final ls j) t) [
    | inl w ↦ w
    | inr w ↦ absurd (no_both j u v q (omega arith, w))
  ])

  module _ (x : ℕ) (block : x < n) where
    -- the entries of x in one round of loop i
    abbrev share : ℕ → ℕ
    share i = cond (within (loop_at ls i) x) (deep (suc i) x) 0

    abbrev certificate : Found ℕ
    certificate = record {
      val = λ i _ b. cond (leb x (far i b)) (share i) 0;
      ent = λ i _. cond (ltb x (head ls i)) (share (parent ls i)) 0;
      turn = λ i _. share i;
      base = λ i r. (r - 1) * share i;
      all = λ i _. limit ls i * share i;
    }

    le : (a b : ℕ) → a ≤ b → Le cycles a b
    le a b h = le-ltb b a h

    val_most : (i b : ℕ) → cond (leb x (far i b)) (share i) 0 ≤ share i
    val_most i b = cond_both (leb x (far i b)) (share i) 0 (λ y. y ≤ share i) (λ _. omega arith) (λ _. omega arith)

    val_full : (i b : ℕ) → x ≤ far i b → cond (leb x (far i b)) (share i) 0 ≡ share i
    val_full i b h = cond-true (leb x (far i b)) (share i) 0 (le-leb x (far i b) h)

    val_none : (i b : ℕ) → far i b < x → cond (leb x (far i b)) (share i) 0 ≡ 0
    val_none i b h = cond-false (leb x (far i b)) (share i) 0 (lt-leb x (far i b) h)

    share_in : (i : ℕ) → In ls i x → share i ≡ deep (suc i) x
    share_in i q = cond-true (within (loop_at ls i) x) (deep (suc i) x) 0 (true_within (loop_at ls i) x q)

    share_out : (i : ℕ) → (In ls i x → ⊥) → share i ≡ 0
    share_out i q = cond-false (within (loop_at ls i) x) (deep (suc i) x) 0 (false_within (loop_at ls i) x q)

    share_some : (i : ℕ) → i < length ls → In ls i x → 1 ≤ share i
    share_some i h q = omega (arith, share_in i q, deep_some (length ls - suc i) (suc i) x (omega arith))

    cost_is : (k : Bool) (b : ℕ) → cost (visits x) k b ≡ cond (eqb b x) 1 0
    cost_is true b = refl
    cost_is false b = refl

    -- an entry counts at x only
    counts : (k : Bool) (b : ℕ) → ((b ≡ x) × (cost (visits x) k b ≡ 1)) ⊎ ((b ≡ x → ⊥) × (cost (visits x) k b ≡ 0))
    counts k b = elim (cases_eq b x) [
      | inl e ↦ inl (e, cost_is k b ∙ cond-true (eqb b x) 1 0 (eq-eqb b x e))
      | inr e ↦ inr (e, cost_is k b ∙ cond-false (eqb b x) 1 0 (ne_eqb b x e))
    ]

    begin_at : (i : ℕ) (k : Bool) → i < length ls → cost (visits x) k (head ls i) ≤ cond (leb x (far i (head ls i))) (share i) 0
    begin_at i k h = elim (counts k (head ls i)) [
      | inr e ↦ omega (arith, e.1)
      | inl e ↦ (
          let q : In ls i x = subst (In ls i) e.0 (head_in shape i h) in
          omega (arith, e.1, val_full i (head ls i) (omega (arith, e.0, top_self (drop (suc i) ls) (head ls i))), share_some i h q))
    ]

    step_at : (i p b : ℕ) (k : Bool) → i ≡ innermost ls b → b < n → p < b
        → cond (leb x (far i p)) (share i) 0 + cost (visits x) k b ≤ cond (leb x (far i b)) (share i) 0
    step_at i p b k u bl l =
        let h : i < length ls = omega (arith, inner_less shape b) in
        let before = far_before i b p h l (λ j y z q w. omega (arith, inner_most shape b j z w)) in
        let own = top_self (drop (suc i) ls) b in
        elim (counts k b) [
          | inl e ↦ (
              let q : In ls i x = subst (λ j. In ls j x) (sym u) (subst (In ls (innermost ls b)) e.0 (inner_in shape b bl)) in
              omega (arith, e.1, val_none i p (omega (arith, e.0)), val_full i b (omega (arith, e.0)), share_some i h q))
          | inr e ↦ elim (cases_lt (far i p) x) [
            | inl w ↦ omega (arith, e.1, val_none i p w)
            | inr w ↦ omega (arith, e.1, val_full i b (omega arith), val_most i p)
          ]
        ]

    into_at : (o i p : ℕ) → o ≡ parent ls i → 0 < i → i < length ls → p < head ls i
        → cond (leb x (far o p)) (share o) 0 ≤ cond (ltb x (head ls i)) (share o) 0
    into_at o i p u z h l =
        let pl = parent_less shape i z in
        let before = far_before o (head ls i) p (omega arith) l (λ j y v q w. elim (cases_lt j i) [
          | inl a ↦ omega (arith, around_most ls i (head ls i) j a w)
          | inr a ↦ elim (cases_eq j i) [ inl b ↦ omega (arith, ap (head ls) b) | inr b ↦ omega (arith, shape.up i j (omega arith) v) ]
        ]) in
        elim (cases_lt x (head ls i)) [
          | inl w ↦ omega (arith, cond-true (ltb x (head ls i)) (share o) 0 (lt-ltb x (head ls i) w), val_most o p)
          | inr w ↦ omega (arith, val_none o p (omega arith))
        ]

    child_at : (o i b : ℕ) → o ≡ parent ls i → 0 < i → i < length ls → In ls i b
        → cond (ltb x (head ls i)) (share o) 0 + limit ls i * share i ≤ cond (leb x (far o b)) (share o) 0
    child_at o i b u z h q =
        let pl = parent_less shape i z in
        let e : suc o + (i - suc o) ≡ i = omega arith in
        let long : final ls i ≤ far o b =
        subst (λ j. final ls j ≤ far o b) e (far_in (i - suc o) (suc o) b (omega arith) (subst (λ j. In ls j b) (sym e) q)) in
        elim (dec_in ls i x) [
          | inl y ↦ (
              let yo : In ls o x = subst (λ j. In ls j x) (sym u) (parent_in shape i x z h y) in
              let s : share o ≡ limit ls i * share i =
              share_in o yo ∙ deep_child o i x u z h y ∙ ap (λ d. limit ls i * d) (sym (share_in i y)) in
              omega (arith, s, cond-false (ltb x (head ls i)) (share o) 0 (le-ltb x (head ls i) y.0), val_full o b (omega arith)))
          | inr y ↦ (
              let s : limit ls i * share i ≡ 0 = ap (λ d. limit ls i * d) (share_out i y) ∙ omega arith in
              elim (cases_lt x (head ls i)) [
                | inl w ↦ omega (
                  arith,
                  s,
                  cond-true (ltb x (head ls i)) (share o) 0 (lt-ltb x (head ls i) w),
                  val_full o b
                      (omega (arith, shape.fits i h)),
                )
                | inr w ↦ omega (arith, s, cond-false (ltb x (head ls i)) (share o) 0 (le-ltb x (head ls i) w))
              ])
        ]

    stays_at : (i r b : ℕ) → 1 ≤ r → r ≤ limit ls i → (r - 1) * share i + cond (leb x (far i b)) (share i) 0 ≤ limit ls i * share i
    stays_at i r b y z =
        let e : suc (r - 1) ≡ r = omega arith in
        let s : r * share i ≡ (r - 1) * share i + share i = ap (λ d. d * share i) (sym e) ∙ suc-mul (r - 1) (share i) in
        omega (arith, s, val_most i b, mul-le-mul_right (share i) z)

    more_at : (i r : ℕ) → 1 ≤ r → (r - 1) * share i + share i ≤ (r + 1 - 1) * share i
    more_at i r y =
        let e : suc (r - 1) ≡ r + 1 - 1 = omega arith in
        omega (arith, sym (suc-mul (r - 1) (share i)) ∙ ap (λ d. d * share i) e)

    certified : Covers cycles (visits x) n ls es certificate
    certified = record {
      begin = λ i k h. le _ _ (begin_at i k h);
      step = λ i p b k u ne e l. le _ _ (step_at i p b k u (shape.ends p b e).1 l);
      child = λ o i b k u z h q. le _ _
          (subst (λ j. cond (ltb x (head ls i)) (share j) 0 + limit ls i * share i ≤ cond (leb x (far o b)) (share o) 0) u
          (child_at o i b u z h q));
      into = λ o i p k u z h e l. le _ _
          (subst (λ j. cond (leb x (far o p)) (share o) 0 ≤ cond (ltb x (head ls i)) (share j) 0) u (into_at o i p u z h l));
      turns = λ i p k h e l. le _ _ (val_most i p);
      one = λ i h. le _ _ (omega arith);
      more = λ i r h y. le _ _ (more_at i r y);
      stays = λ i r b h y z q. le _ _ (stays_at i r b y z);
    }

    -- the entries of x
    pub entries_few : (w : List ℕ) (b : ℕ) → Walk es 0 w b → Limited ls (b ∷ w) → charge cycles (visits x) ls (b ∷ w) ≤ deep 1 x
    entries_few w b u k =
        let q : In ls 0 x = (omega (arith, shape.first), shape.covers x block) in
        let s : limit ls 0 * share 0 ≡ deep 1 x = ap₂ (λ y z. y * z) shape.once (share_in 0 q) ∙ one-mul (deep 1 x) in
        omega (
          arith,
          s,
          ltb-false (limit ls 0 * share 0) (charge cycles (visits x) ls (b ∷ w))
              (bounded cycles_lawful shape certified w b u k),
        )
