-- What is attained locally is attained by a walk within the limits.
use Rattle.std.proofs.Common.{◌≡◌, ℕ, zero, suc, ◌+◌, ◌<◌, ◌≤◌, List, [], ◌∷◌, length, sym, refl, ap, ◌∙◌, subst, inl, inr, not-suc-le-zero, arith}
use Rattle.std.proofs.lemmas.Bool.{cases_eq}
use Rattle.records.specs.declared.parts.Loop.{Loop}
use Rattle.records.specs.declared.parts.Edge.{Edge}
use Rattle.task.specs.Graph.{loop_at, Leads}
use Rattle.walks.specs.Walk.{innermost, Walk, rounds, Limited}
use Rattle.tally.specs.Laws.{Ops, TallyLaws}
use Rattle.longest.specs.Charge.{Costs, entry, charge}
use Rattle.longest.proofs.Shape.{Shape, head, limit, In}
use Rattle.longest.proofs.Nest.{dec_in, in_task, inner_less, inner_in, inner_most, head_in, head_block, heads, from_in, back_in, wider, inside}
use Rattle.longest.proofs.Found.{Found, Attains, cost, is_later}
use Rattle.longest.proofs.Entries.{one_more, left_out, kept_on, zero_block, charge_start, charge_first, charge_again, charge_inside}

-- a walk within the limits stands at b and charges c
pub record Stands {T : Type 0} (m : Ops T) (costs : Costs T) (ls : List Loop) (es : List Edge) (b : ℕ) (w : List ℕ) (c : T) : Type 0 where
  pub walk : Walk es 0 w b
  pub limited : Limited ls (b ∷ w)
  pub charged : charge m costs ls (b ∷ w) ≡ c

module _ {n : ℕ} {ls : List Loop} {es : List Edge} (shape : Shape n ls es) where
  limited_next : (p b : ℕ) (w : List ℕ) → Limited ls (p ∷ w) → Leads es p b
      → ((i : ℕ) → i < length ls → head ls i ≡ b → rounds (loop_at ls i) (p ∷ w) + 1 ≤ limit ls i) → Limited ls (b ∷ p ∷ w)
  limited_next p b w k e room = (
    λ i h. elim (dec_in ls i b) [
      | inr q ↦ omega (arith, left_out ls i b (p ∷ w) q)
      | inl q ↦ elim (cases_eq (head ls i) b) [
        | inl u ↦ omega (arith, one_more ls i b (p ∷ w) q u, room i h u)
        | inr u ↦ omega (arith, kept_on ls i b (p ∷ w) q u, k.0 i h)
      ]
    ],
    k,
  )

  limited_start : Limited ls (0 ∷ [])
  limited_start = (
    λ i h. elim (dec_in ls i 0) [
      | inr q ↦ omega (arith, left_out ls i 0 [] q)
      | inl q ↦ omega (arith, one_more ls i 0 [] q (omega arith), shape.fits i h)
    ],
    tt,
  )

module _ {T : Type 0} {m : Ops T} {size : T → ℕ} (laws : TallyLaws m size) {costs : Costs T} {n : ℕ} {ls : List Loop} {es : List Edge}
    {f : Found T} (shape : Shape n ls es) (attains : Attains m costs n ls es f) where
  abbrev W : ℕ → List ℕ → T → Type 0
  W = Stands m costs ls es

  abbrev at : List ℕ → ℕ → ℕ
  at v i = rounds (loop_at ls i) v

  -- one block further
  goes_on : (p b : ℕ) (w : List ℕ) (c d : T) → W p w c → Leads es p b → Limited ls (b ∷ p ∷ w) → charge m costs ls (b ∷ p ∷ w) ≡ d
      → W b (p ∷ w) d
  goes_on p b w c d s e k is = record { walk = (s.walk, e); limited = k; charged = is }

  -- a walk on to x that leaves alone the rounds of the loops that Stays names
  record Reach (Stays : ℕ → Type 0) (v : List ℕ) (x : ℕ) (c : T) : Type 0 where
    blocks : List ℕ
    stands : W x blocks c
    same : (j : ℕ) → j < length ls → Stays j → at (x ∷ blocks) j ≡ at v j

  -- from the start of a round of i, any block of i in this round
  abbrev RoundT : ℕ → Type 0
  RoundT i = (w : List ℕ) (c : T) → W (head ls i) w (m.plus c (cost costs (is_later (at (head ls i ∷ w) i)) (head ls i))) → (x : ℕ)
      → In ls i x → Reach (λ j. In ls j (head ls i)) (head ls i ∷ w) x (m.plus c (f.val i (is_later (at (head ls i ∷ w) i)) x))

  -- from outside loop i, any block of i by a whole stay
  abbrev StayT : ℕ → Type 0
  StayT i = (p : ℕ) (w : List ℕ) (c : T) → W p w c → Leads es p (head ls i) → p < head ls i → (x : ℕ) → In ls i x
      → Reach (λ j. In ls j (head ls i) × (j ≡ i → ⊥)) (p ∷ w) x (m.plus c (f.all i x))

  -- one block further in a round
  step_on : (i x p : ℕ) → i < length ls → i ≡ innermost ls x → (head ls i ≡ x → ⊥) → In ls i x → Leads es p x → (v : List ℕ) (c : T)
      → f.val i (is_later (at v i)) x ≡ m.plus (f.val i (is_later (at v i)) p) (cost costs (is_later (at v i)) x)
      → Reach (λ j. In ls j (head ls i)) v p (m.plus c (f.val i (is_later (at v i)) p))
      → Reach (λ j. In ls j (head ls i)) v x (m.plus c (f.val i (is_later (at v i)) x))
  step_on i x p h i_is u q e v c is a =
      let k = is_later (at v i) in
      let bx : x < n = omega (arith, shape.fits i h) in
      let never : (j : ℕ) → j < length ls → head ls j ≡ x → ⊥ =
      λ j g y. u (subst (λ z. head ls z ≡ x) (heads shape x j g y bx ∙ sym i_is) y) in
      let old : List ℕ = p ∷ a.blocks in
      let keep : (j : ℕ) → j < length ls → In ls j (head ls i) → at (x ∷ old) j ≡ at v j =
      λ j g qj. kept_on ls j x old (wider shape i j x h g qj q) (never j g) ∙ a.same j g qj in
      let ch : entry m costs ls x old ≡ cost costs k x =
      ap (λ j. cost costs (is_later (at (x ∷ old) j)) x) (sym i_is)
      ∙ ap (λ r. cost costs (is_later r) x) (keep i h (head_in shape i h)) in
      let sum : charge m costs ls (x ∷ old) ≡ m.plus c (f.val i k x) =
      charge_inside laws costs shape p x a.blocks e (λ y. never (innermost ls x) (inner_less shape x) y)
      ∙ ap (λ y. m.plus y (entry m costs ls x old)) a.stands.charged ∙ ap (m.plus (m.plus c (f.val i k p))) ch
      ∙ laws.assoc c _ _ ∙ ap (m.plus c) (sym is)
      in
      record {
        blocks = old;
        stands = goes_on p x a.blocks _ _ a.stands e
            (limited_next shape p x a.blocks a.stands.limited e (λ j g y. absurd (never j g y))) sum;
        same = keep;
      }

  -- a whole stay of a loop j inside i
  stay_on : (i j x p : ℕ) → i < length ls → i < j → j < length ls → In ls i (head ls j) → (v : List ℕ) (c y z : T)
      → y ≡ m.plus z (f.all j x) → (a : Reach (λ l. In ls l (head ls i)) v p (m.plus c z))
      → Reach (λ l. In ls l (head ls j) × (l ≡ j → ⊥)) (p ∷ a.blocks) x (m.plus (m.plus c z) (f.all j x))
      → Reach (λ l. In ls l (head ls i)) v x (m.plus c y)
  stay_on i j x p h l g qh v c y z is a b =
      let up = shape.up i j l g in
      record {
        blocks = b.blocks;
        stands = subst (W x b.blocks) (laws.assoc c z (f.all j x) ∙ ap (m.plus c) (sym is)) b.stands;
        same = λ o k qo. b.same o k (wider shape i o (head ls j) h k qo qh, λ e. omega (arith, ap (head ls) e)) ∙ a.same o k qo;
      }

  -- n: a bound on x
  round_from : (i : ℕ) → i < length ls → ((j : ℕ) → i < j → j < length ls → StayT j) → (w : List ℕ) (c : T)
      → W (head ls i) w (m.plus c (cost costs (is_later (at (head ls i ∷ w) i)) (head ls i))) → (n x : ℕ) → x < n → In ls i x
      → Reach (λ j. In ls j (head ls i)) (head ls i ∷ w) x (m.plus c (f.val i (is_later (at (head ls i ∷ w) i)) x))
  round_from i h deeper w c s zero x l q = absurd (not-suc-le-zero l)
  round_from i h deeper w c s (suc n) x l q =
      let v : List ℕ = head ls i ∷ w in
      let k = is_later (at v i) in
      elim (cases_eq (head ls i) x) [
        | inl u ↦ subst (λ y. Reach (λ j. In ls j (head ls i)) v y (m.plus c (f.val i k y))) u record {
          blocks = w;
          stands = subst (λ y. W (head ls i) w (m.plus c y)) (sym (attains.begin i k h)) s;
          same = λ j _ _. refl;
        }
        | inr u ↦ elim (cases_eq i (innermost ls x)) [
          | inl e ↦ (
              let a = attains.step i x k e u (omega (arith, shape.fits i h)) in
              step_on i x a.0 h e u q a.1 v c a.3
              (round_from i h deeper w c s n a.0 (omega (arith, a.2)) (from_in shape a.0 x i a.1 h q u)))
          | inr e ↦ (
              let d = inside shape (innermost ls x) i (innermost ls x) x (omega arith) (omega (arith, inner_most shape x i h q))
              (inner_less shape x) q (inner_in shape x (omega (arith, shape.fits i h))) in
              let j = d.0 in
              let z : 0 < j = omega (arith, d.1) in
              let up = shape.up i j d.1 d.2 in
              let into = attains.into i j k (sym d.3) z d.2 in
              let qh : In ls i (head ls j) = (omega arith, omega (arith, d.4)) in
              let a = round_from i h deeper w c s n into.0 (omega (arith, into.2, d.4))
              (from_in shape into.0 (head ls j) i into.1 h qh (λ y. omega arith)) in
              stay_on i j x into.0 h d.1 d.2 qh v c (f.val i k x) (f.val i k into.0)
              (attains.child i j x k (sym d.3) z d.2 d.4 ∙ ap (λ y. m.plus y (f.all j x)) into.3) a
              (deeper j d.1 d.2 into.0 a.blocks (m.plus c (f.val i k into.0)) a.stands into.1 into.2 x
              d.4))
        ]
      ]

  -- a round of i begins
  enters : (i : ℕ) → i < length ls → (p : ℕ) (w : List ℕ) → Limited ls (p ∷ w) → Leads es p (head ls i) → at (p ∷ w) i + 1 ≤ limit ls i
      → (Limited ls (head ls i ∷ p ∷ w)) × (at (head ls i ∷ p ∷ w) i ≡ at (p ∷ w) i + 1)
      × ((j : ℕ) → j < length ls → In ls j (head ls i) × (j ≡ i → ⊥) → at (head ls i ∷ p ∷ w) j ≡ at (p ∷ w) j)
  enters i h p w k e l =
      let bh = head_block shape i h in
      let only : (j : ℕ) → j < length ls → head ls j ≡ head ls i → j ≡ i =
      λ j g y. heads shape (head ls i) j g y bh ∙ sym (heads shape (head ls i) i h refl bh) in (
        limited_next shape p (head ls i) w k e (λ j g y. subst (λ z. at (p ∷ w) z + 1 ≤ limit ls z) (sym (only j g y)) l),
        one_more ls i (head ls i) (p ∷ w) (head_in shape i h) refl,
        λ j g q. kept_on ls j (head ls i) (p ∷ w) q.0 (λ y. q.1 (only j g y)),
      )

  -- the start of round r of a stay of i
  record Turn (i : ℕ) (v : List ℕ) (c : T) (r : ℕ) : Type 0 where
    blocks : List ℕ
    stands : W (head ls i) blocks (m.plus (m.plus c (f.base i r)) (cost costs (is_later (at (head ls i ∷ blocks) i)) (head ls i)))
    own : at (head ls i ∷ blocks) i ≡ r
    same : (j : ℕ) → j < length ls → In ls j (head ls i) × (j ≡ i → ⊥) → at (head ls i ∷ blocks) j ≡ at v j

  -- the cost of a header is that of its own loop
  head_entry : (i : ℕ) → i < length ls → (w : List ℕ)
      → entry m costs ls (head ls i) w ≡ cost costs (is_later (at (head ls i ∷ w) i)) (head ls i)
  head_entry i h w = ap (λ j. cost costs (is_later (at (head ls i ∷ w) j)) (head ls i))
      (sym (heads shape (head ls i) i h refl (head_block shape i h)))

  module _ (i : ℕ) (h : i < length ls) where
    abbrev hd : ℕ
    hd = head ls i

    i_is : i ≡ innermost ls hd
    i_is = heads shape hd i h refl (head_block shape i h)

    first_turn : (p : ℕ) (w : List ℕ) (c : T) → W p w c → Leads es p hd → p < hd → Turn i (p ∷ w) c 1
    first_turn p w c s e l =
        let none_so_far : at (p ∷ w) i ≡ 0 = left_out ls i p w (λ q. omega arith) in
        let en = enters i h p w s.limited e (omega (arith, shape.fits i h)) in
        let own : at (hd ∷ p ∷ w) i ≡ 1 = omega (arith, en.1) in
        let kk = cost costs (is_later (at (hd ∷ p ∷ w) i)) hd in
        let sum : charge m costs ls (hd ∷ p ∷ w) ≡ m.plus (m.plus c (f.base i 1)) kk =
        charge_first laws costs shape p hd w e (ap (head ls) (sym i_is)) l
        ∙ ap (λ x. m.plus (m.plus x (costs.stay (innermost ls hd))) (entry m costs ls hd (p ∷ w))) s.charged
        ∙ ap (λ j. m.plus (m.plus c (costs.stay j)) (entry m costs ls hd (p ∷ w))) (sym i_is)
        ∙ ap (λ y. m.plus (m.plus c y) (entry m costs ls hd (p ∷ w))) (sym (attains.one i h))
        ∙ ap (m.plus (m.plus c (f.base i 1))) (head_entry i h (p ∷ w))
        in
        record { blocks = p ∷ w; stands = goes_on p hd w c _ s e en.0 sum; own = own; same = en.2 }

    next_turn : (v : List ℕ) (c : T) (r : ℕ) → 1 ≤ r → r < limit ls i → RoundT i → Turn i v c r → Turn i v c (r + 1)
    next_turn v c r z l round a =
        let x : List ℕ = hd ∷ a.blocks in
        let t = attains.turns i (is_later (at x i)) h (omega arith) in
        let p = t.0 in
        let qp : In ls i p = subst (λ j. In ls j p) (sym i_is) (back_in shape p hd t.1 t.2).1 in
        let b = round a.blocks (m.plus c (f.base i r)) a.stands p qp in
        let old : List ℕ = p ∷ b.blocks in
        let was : at old i ≡ r = b.same i h (head_in shape i h) ∙ a.own in
        let en = enters i h p b.blocks b.stands.limited t.1 (omega arith) in
        let own : at (hd ∷ old) i ≡ r + 1 = omega (arith, en.1) in
        let kk = cost costs (is_later (at (hd ∷ old) i)) hd in
        let y = f.val i (is_later (at x i)) p in
        let bs : f.base i (r + 1) ≡ m.plus (f.base i r) y =
        attains.more i r h z l ∙ ap (λ d. m.plus (f.base i r) (f.turn i (is_later d))) (sym a.own) ∙ ap (m.plus (f.base i r)) t.3
        in
        let sum : charge m costs ls (hd ∷ old) ≡ m.plus (m.plus c (f.base i (r + 1))) kk =
        charge_again laws costs shape p hd b.blocks t.1 t.2
        ∙ ap (λ d. m.plus d (entry m costs ls hd old)) (b.stands.charged ∙ laws.assoc c _ _ ∙ ap (m.plus c) (sym bs))
        ∙ ap (m.plus (m.plus c (f.base i (r + 1)))) (head_entry i h old)
        in
        record {
          blocks = old;
          stands = goes_on p hd b.blocks _ _ b.stands t.1 en.0 sum;
          own = own;
          same =
              λ j g q. en.2 j g q ∙ b.same j g q.0 ∙ a.same j g q;
        }

    turn_from : RoundT i → (p : ℕ) (w : List ℕ) (c : T) → W p w c → Leads es p hd → p < hd → (r : ℕ) → 1 ≤ r → r ≤ limit ls i
        → Turn i (p ∷ w) c r
    turn_from round p w c s e l zero k u = absurd (omega arith)
    turn_from round p w c s e l (suc zero) k u = first_turn p w c s e l
    turn_from round p w c s e l (suc (suc r)) k u =
        let is : suc r + 1 ≡ suc (suc r) = omega arith in
        subst (Turn i (p ∷ w) c) is (next_turn (p ∷ w) c (suc r) (omega arith) (omega arith) round
        (turn_from round p w c s e l (suc r) (omega arith) (omega arith)))

    stay_from : RoundT i → StayT i
    stay_from round p w c s e l x q =
        let t = attains.stays i x h q in
        let a = turn_from round p w c s e l t.0 t.1 t.2 in
        let b = round a.blocks (m.plus c (f.base i t.0)) a.stands x q in
        let sum : m.plus (m.plus c (f.base i t.0)) (f.val i (is_later (at (hd ∷ a.blocks) i)) x) ≡ m.plus c (f.all i x) =
        laws.assoc c _ _ ∙ ap (m.plus c) (ap (λ y. m.plus (f.base i t.0) (f.val i (is_later y) x)) a.own ∙ sym t.3) in
        record { blocks = b.blocks; stands = subst (W x b.blocks) sum b.stands; same = λ j g y. b.same j g y.0 ∙ a.same j g y }

  every_round : (k i : ℕ) → i < length ls → length ls ≤ i + k → RoundT i
  every_round zero i h l = absurd (omega arith)
  every_round (suc k) i h l =
      λ w c s x q. round_from i h (λ j u g. stay_from j g (every_round k j g (omega arith))) w c s (suc x) x (omega arith) q

  started : W 0 [] (m.plus (costs.stay 0) (cost costs (is_later (at (0 ∷ []) 0)) 0))
  started = record {
    walk = refl;
    limited = limited_start shape;
    charged = charge_start laws costs shape
        ∙ ap (λ j. m.plus (costs.stay 0) (cost costs (is_later (at (0 ∷ []) j)) 0))
        (sym (heads shape 0 0 shape.some shape.first (zero_block shape)));
  }

  pub attained : (b : ℕ) → b < n → (w : List ℕ) × Stands m costs ls es b w (f.all 0 b)
  attained b l =
      let h = shape.some in
      let q = in_task shape b l in
      let t = attains.stays 0 b h q in
      let is1 : t.0 ≡ 1 = omega (arith, shape.once, t.1, t.2) in
      let one : at (0 ∷ []) 0 ≡ 1 = one_more ls 0 0 [] (in_task shape 0 (zero_block shape)) shape.first in
      let base : costs.stay 0 ≡ f.base 0 t.0 = sym (attains.one 0 h) ∙ ap (f.base 0) (sym is1) in
      let w : W (head ls 0) [] (m.plus (f.base 0 t.0) (cost costs (is_later (at (head ls 0 ∷ []) 0)) (head ls 0))) =
      subst (λ y. W y [] (m.plus (f.base 0 t.0) (cost costs (is_later (at (y ∷ []) 0)) y))) (sym shape.first)
      (subst (λ y. W 0 [] (m.plus y (cost costs (is_later (at (0 ∷ []) 0)) 0))) base started)
      in
      let a = every_round (length ls) 0 h (omega arith) [] (f.base 0 t.0) w b q in
      let rounds_is : at (head ls 0 ∷ []) 0 ≡ t.0 = ap (λ y. at (y ∷ []) 0) shape.first ∙ one ∙ sym is1 in (
        a.blocks,
        subst (W b a.blocks) (ap (λ y. m.plus (f.base 0 t.0) (f.val 0 (is_later y) b)) rounds_is ∙ sym t.3)
            a.stands,
      )
