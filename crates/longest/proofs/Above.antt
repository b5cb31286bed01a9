-- No walk within the limits charges more than what covers every local step.
use Rattle.std.proofs.Common.{◌≡◌, ℕ, zero, suc, ◌+◌, ◌<◌, ◌≤◌, Bool, cond, eqb, List, [], ◌∷◌, length, sym, refl, ap, ◌∙◌, subst, inl, inr, arith}
use Rattle.std.proofs.lemmas.Bool.{cases_eq, cases_lt, cond-true, cond-false, ne_eqb, eq-eqb}
use Rattle.records.specs.declared.parts.Loop.{Loop}
use Rattle.records.specs.declared.parts.Edge.{Edge}
use Rattle.task.specs.Graph.{loop_at, Leads}
use Rattle.walks.specs.Walk.{innermost, Walk, rounds, Limited}
use Rattle.tally.specs.Laws.{Ops, TallyLaws}
use Rattle.longest.specs.Charge.{Costs, entry, charge}
use Rattle.longest.proofs.Shape.{Shape, head, In, parent}
use Rattle.longest.proofs.Nest.{in_task, inner_less, inner_in, inner_most, heads, parent_less, parent_in, parent_most, back_in}
use Rattle.longest.proofs.Sums.{Le, same, trans, kept, both, right, stay_begins, round_begins, stepped, folded}
use Rattle.longest.proofs.Found.{Found, Covers, cost, is_later}
use Rattle.longest.proofs.Entries.{Standing, standing, one_more, left_out, keeps, zero_block, charge_start, charge_first, charge_again, charge_inside}

-- since i: the charge before the present round of loop i began
module _ {T : Type 0} (m : Ops T) (ls : List Loop) (f : Found T) where
  abbrev at : List ℕ → ℕ → ℕ
  at v i = rounds (loop_at ls i) v

  abbrev sum-at : List ℕ → (ℕ → T) → ℕ → ℕ → T
  sum-at v since i b = m.plus (since i) (f.val i (is_later (at v i)) b)

  abbrev sum-out : List ℕ → (ℕ → T) → ℕ → T
  sum-out v since i = m.plus (m.plus (since (parent ls i)) (f.ent i (is_later (at v (parent ls i))))) (f.base i (at v i))

  record Since (b : ℕ) (v : List ℕ) (c : T) : Type 0 where
    since : ℕ → T
    out : (i : ℕ) → 0 < i → i < length ls → In ls i b → Le m (since i) (sum-out v since i)
    top : Le m (since 0) (f.base 0 1)
    here : Le m c (sum-at v since (innermost ls b) b)

  -- only what it reads
  same_out : (v v' : List ℕ) (a a' : ℕ → T) (i : ℕ) → a' i ≡ a i → a' (parent ls i) ≡ a (parent ls i) → at v' i ≡ at v i
      → at v' (parent ls i) ≡ at v (parent ls i) → Le m (a i) (sum-out v a i) → Le m (a' i) (sum-out v' a' i)
  same_out v v' a a' i e1 e2 e3 e4 h = rw (e1, e2, e3, e4, sum-out) h

module _ {T : Type 0} {m : Ops T} {size : T → ℕ} (laws : TallyLaws m size) {costs : Costs T} {n : ℕ} {ls : List Loop} {es : List Edge}
    {f : Found T} (shape : Shape n ls es) (covers : Covers m costs n ls es f) where
  -- the sum holds further out
  outward : (b : ℕ) (w : List ℕ) (c : T) → Standing n ls b w → (s : Since m ls f b (b ∷ w) c) → (k j i : ℕ) → j ≤ k → j < length ls
      → In ls j b → Le m c (sum-at m ls f (b ∷ w) s.since j b) → i ≤ j → In ls i b → Le m c (sum-at m ls f (b ∷ w) s.since i b)
  outward b w c r s zero j i l h q here d qi = subst (λ x. Le m c (sum-at m ls f (b ∷ w) s.since x b)) (omega arith) here
  outward b w c r s (suc k) j i l h q here d qi = elim (cases_eq i j) [
    | inl e ↦ subst (λ x. Le m c (sum-at m ls f (b ∷ w) s.since x b)) (sym e) here
    | inr ne ↦ (
        let v : List ℕ = b ∷ w in
        let o = parent ls j in
        let z : 0 < j = omega arith in
        let u = parent_less shape j z in
        let there : Le m c (sum-at m ls f v s.since o b) =
        folded laws c (s.since j) (f.val j (is_later (at m ls f v j)) b) (s.since o) (f.ent j (is_later (at m ls f v o)))
        (f.base j (at m ls f v j)) (f.all j b) _ here (s.out j z h q)
        (covers.stays j (at m ls f v j) b h (r.some j h q) (r.under j h) q)
        (covers.child o j b (is_later (at m ls f v o)) refl z h q)
        in
        outward b w c r s k o i (omega arith) (omega arith) (parent_in shape j b z h q) there (parent_most shape i j b (omega arith) h qi q)
        qi)
  ]

  everywhere : (b : ℕ) (w : List ℕ) (c : T) → Standing n ls b w → (s : Since m ls f b (b ∷ w) c) → (i : ℕ) → i < length ls → In ls i b
      → Le m c (sum-at m ls f (b ∷ w) s.since i b)
  everywhere b w c r s i h q = outward b w c r s (innermost ls b) (innermost ls b) i (omega arith) (inner_less shape b)
      (inner_in shape b r.block) s.here (inner_most shape b i h q) q

  module _ (p b : ℕ) (w : List ℕ) (c : T) (r : Standing n ls p w) (s : Since m ls f p (p ∷ w) c) (e : Leads es p b) where
    abbrev old : List ℕ
    old = p ∷ w

    abbrev next : List ℕ
    next = b ∷ p ∷ w

    abbrev k : ℕ
    k = innermost ls b

    abbrev own : ℕ → ℕ
    own i = at m ls f next i

    abbrev before : ℕ → ℕ
    before i = at m ls f old i

    less_k : k < length ls
    less_k = inner_less shape b

    in_k : In ls k b
    in_k = inner_in shape b (shape.ends p b e).1

    others : (i : ℕ) → i < length ls → In ls i b → (i ≡ k → ⊥) → (In ls i p) × (own i ≡ before i)
    others i h q ne = keeps shape p b i w e h q (λ u. ne (heads shape b i h u (shape.ends p b e).1))

    advance : (c' : T) (since : ℕ → T) → ((i : ℕ) → (i ≡ k → ⊥) → since i ≡ s.since i)
        → (0 < k → Le m (since k) (sum-out m ls f next since k)) → Le m (since 0) (f.base 0 1) → Le m c' (sum-at m ls f next since k b)
        → Since m ls f b next c'
    advance c' since agree outer top here = record {
      since = since;
      out = λ i z h q. elim (cases_eq i k) [
        | inl u ↦ subst (λ x. Le m (since x) (sum-out m ls f next since x)) (sym u) (outer (omega arith))
        | inr ne ↦ (
            let most = inner_most shape b i h q in
            let l = parent_less shape i z in
            let apart : parent ls i ≡ k → ⊥ = λ u. omega arith in
            same_out m ls f old next s.since since i (agree i ne) (agree (parent ls i) apart) (others i h q ne).1
            (others (parent ls i) (omega arith) (parent_in shape i b z h q) apart).1 (s.out i z h (others i h q ne).0))
      ];
      top = top;
      here = here;
    }

    -- a round of the loop that b heads begins, and st is what its stay costs
    begun : head ls k ≡ b → 0 < k → (st : T) (since : ℕ → T)
        → charge m costs ls next ≡ m.plus (m.plus (charge m costs ls old) st) (entry m costs ls b old) → c ≡ charge m costs ls old
        → since k ≡ m.plus c st → ((i : ℕ) → (i ≡ k → ⊥) → since i ≡ s.since i) → Le m (m.plus c st) (sum-out m ls f next s.since k)
        → Since m ls f b next (charge m costs ls next)
    begun u z st since ch is mine rest o =
        let l = parent_less shape k z in
        let g : Le m (cost costs (is_later (own k)) b) (f.val k (is_later (own k)) b) =
        subst (λ x. Le m (cost costs (is_later (own k)) x) (f.val k (is_later (own k)) x)) u
        (covers.begin k (is_later (own k)) less_k) in
        let x = entry m costs ls b old in
        let y = f.val k (is_later (own k)) b in
        let now : charge m costs ls next ≡ m.plus (m.plus c st) x = ch ∙ ap (λ d. m.plus (m.plus d st) x) (sym is) in
        advance _ since rest (λ _. rw (mine, rest (parent ls k) (λ v. omega arith), sum-out) o) (rw (rest 0 (λ v. omega arith)) s.top)
        (subst (λ d. Le m d (m.plus (since k) y)) (sym now)
        (subst (λ d. Le m (m.plus (m.plus c st) x) (m.plus d y)) (sym mine) (kept laws x y (m.plus c st) g)))

    -- by a step from without
    comes : head ls k ≡ b → 0 < k → p < b → Le m (m.plus c (costs.stay k)) (sum-out m ls f next s.since k)
    comes u z l =
        let o = parent ls k in
        let ol = parent_less shape k z in
        let ot = others o (omega (arith, less_k)) (parent_in shape k b z less_k in_k) (λ v. omega arith) in
        let one : own k ≡ 1 = omega (arith, one_more ls k b old in_k u, left_out ls k p w (λ v. omega arith)) in
        rw (one, ot.1, sum-out) (stay_begins laws c (s.since o) (f.val o (is_later (before o)) p) (f.ent k (is_later (before o)))
        (costs.stay k) (f.base k 1) (everywhere p w c r s o (omega (arith, less_k)) ot.0)
        (covers.into o k p (is_later (before o)) refl z less_k (rw u e) (omega arith)) (covers.one k less_k))

    -- by an edge back
    returns : head ls k ≡ b → 0 < k → b ≤ p → Le m c (sum-out m ls f next s.since k)
    returns u z l =
        let qp = (back_in shape p b e l).1 in
        let o = parent ls k in
        let ol = parent_less shape k z in
        let ot = others o (omega (arith, less_k)) (parent_in shape k b z less_k in_k) (λ v. omega arith) in
        let x = before k in
        let more : own k ≡ before k + 1 = one_more ls k b old in_k u in
        let some = r.some k less_k qp in
        rw (more, ot.1, sum-out) (round_begins laws c (s.since k) (f.val k (is_later x) p)
        (m.plus (s.since o) (f.ent k (is_later (before o)))) (f.base k x) (f.turn k (is_later x)) (f.base k (x + 1))
        (everywhere p w c r s k less_k qp) (covers.turns k p (is_later x) less_k (rw u e) (omega arith)) (s.out k z less_k qp)
        (covers.more k x less_k some))

    -- inside a round
    goes : (head ls k ≡ b → ⊥) → c ≡ charge m costs ls old → Since m ls f b next (charge m costs ls next)
    goes ne is =
        let kt = keeps shape p b k w e less_k in_k ne in
        let up : p < b = elim (cases_lt p b) [ inl l ↦ l | inr l ↦ absurd (ne (back_in shape p b e l).0) ] in
        let ch : charge m costs ls next ≡ m.plus c (cost costs (is_later (before k)) b) =
        charge_inside laws costs shape p b w e ne ∙ ap (λ x. m.plus x (entry m costs ls b old)) (sym is)
        ∙ ap (λ x. m.plus c (cost costs (is_later x) b)) kt.1
        in
        advance _ s.since (λ i _. refl) (λ z.
        let o = parent ls k in
        let ol = parent_less shape k z in
        same_out m ls f old next s.since s.since k refl refl kt.1
        (others o (omega (arith, less_k)) (parent_in shape k b z less_k in_k) (λ u. omega arith)).1 (s.out k z less_k kt.0))
        s.top (subst (λ d. Le m d (m.plus (s.since k) (f.val k (is_later (own k)) b))) (sym ch)
        (subst (λ d. Le m (m.plus c (cost costs (is_later (before k)) b)) (m.plus (s.since k) (f.val k (is_later d) b))) (sym kt.1)
        (stepped laws c (s.since k) (f.val k (is_later (before k)) p) (cost costs (is_later (before k)) b) _
        (everywhere p w c r s k less_k kt.0) (covers.step k p b (is_later (before k)) refl ne e up))))

    walked : c ≡ charge m costs ls old → Since m ls f b next (charge m costs ls next)
    walked is = elim (cases_eq (head ls k) b) [
      | inr ne ↦ goes ne is
      | inl u ↦ (
          let z : 0 < k = elim (cases_eq k 0)
          [ inl v ↦ absurd (omega (arith, ap (head ls) v, shape.first, (shape.ends p b e).2)) | inr v ↦ omega arith ] in
          let since : T → ℕ → T = λ st i. cond (eqb i k) (m.plus c st) (s.since i) in
          let mine : (st : T) → since st k ≡ m.plus c st = λ st. cond-true (eqb k k) (m.plus c st) (s.since k) (eq-eqb k k refl) in
          let rest : (st : T) (i : ℕ) → (i ≡ k → ⊥) → since st i ≡ s.since i =
          λ st i ne. cond-false (eqb i k) (m.plus c st) (s.since i) (ne_eqb i k ne) in
          elim (cases_lt p b) [
            | inl l ↦ begun u z (costs.stay k) (since (costs.stay k)) (charge_first laws costs shape p b w e u l) is
                (mine (costs.stay k)) (rest (costs.stay k)) (comes u z l)
            | inr l ↦ (
                let ch : charge m costs ls next ≡ m.plus (m.plus (charge m costs ls old) m.none) (entry m costs ls b old) =
                charge_again laws costs shape p b w e l
                ∙ ap (λ x. m.plus x (entry m costs ls b old)) (sym (right laws (charge m costs ls old))) in
                begun u z m.none (since m.none) ch is (mine m.none) (rest m.none) (rw (right laws) (returns u z l)))
          ])
    ]

  started : Since m ls f 0 (0 ∷ []) (charge m costs ls (0 ∷ []))
  started =
      let k : 0 ≡ innermost ls 0 = heads shape 0 0 shape.some shape.first (zero_block shape) in
      let u : head ls (innermost ls 0) ≡ 0 = subst (λ i. head ls i ≡ 0) k shape.first in
      let kind : Bool = is_later (at m ls f (0 ∷ []) (innermost ls 0)) in
      let g : Le m (cost costs kind 0) (f.val (innermost ls 0) kind 0) =
      subst (λ x. Le m (cost costs kind x) (f.val (innermost ls 0) kind x)) u
      (covers.begin (innermost ls 0) kind (inner_less shape 0)) in
      record {
        since = costs.stay;
        out = λ i z h u. absurd (omega (arith, shape.up 0 i z h));
        top = covers.one 0 shape.some;
        here = rw (charge_start laws costs shape)
            (subst (λ i. Le m (m.plus (costs.stay 0) (entry m costs ls 0 [])) (m.plus (costs.stay i) (f.val (innermost ls 0) kind 0)))
            k (kept laws _ _ (costs.stay 0) g));
      }

  since_of : (w : List ℕ) (b : ℕ) → Walk es 0 w b → Limited ls (b ∷ w) → Since m ls f b (b ∷ w) (charge m costs ls (b ∷ w))
  since_of [] b e k = subst (λ x. Since m ls f x (x ∷ []) (charge m costs ls (x ∷ []))) (sym e) started
  since_of (p ∷ w) b (u, e) k = walked p b w (charge m costs ls (p ∷ w)) (standing shape w p u k.1) (since_of w p u k.1) e refl

  pub bounded : (w : List ℕ) (b : ℕ) → Walk es 0 w b → Limited ls (b ∷ w) → Le m (charge m costs ls (b ∷ w)) (f.all 0 b)
  bounded w b u k =
      let v : List ℕ = b ∷ w in
      let r = standing shape w b u k in
      let s = since_of w b u k in
      let h = shape.some in
      let q = in_task shape b r.block in
      let some = r.some 0 h q in
      let one : at m ls f v 0 ≡ 1 = omega (arith, r.under 0 h, shape.once) in
      let here = everywhere b w (charge m costs ls v) r s 0 h q in
      let top : Le m (s.since 0) (f.base 0 (at m ls f v 0)) = subst (λ x. Le m (s.since 0) (f.base 0 x)) (sym one) s.top in
      let x = f.val 0 (is_later (at m ls f v 0)) b in
      trans laws _ (m.plus (s.since 0) x) _ here
      (trans laws _ (m.plus (f.base 0 (at m ls f v 0)) x) _ (both laws _ _ x x top (same laws x))
      (covers.stays 0 (at m ls f v 0) b h some (r.under 0 h) q))
