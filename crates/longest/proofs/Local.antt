-- The search covers every local step, and attains what it holds.
use Rattle.std.proofs.Common.{◌≡◌, ℕ, zero, suc, ◌+◌, ◌-◌, ◌<◌, ◌≤◌, Bool, true, false, List, length, sym, refl, ap, ◌∙◌, subst, inl, inr, arith}
use Rattle.std.proofs.lemmas.Bool.{cases_eq, cases_lt, lt-ltb, le-ltb}
use Rattle.records.specs.declared.parts.Loop.{Loop}
use Rattle.records.specs.declared.parts.Edge.{Edge}
use Rattle.task.specs.Graph.{loop_at, edge_at, Leads}
use Rattle.walks.specs.Walk.{innermost}
use Rattle.tally.specs.Laws.{Ops, TallyLaws}
use Rattle.longest.specs.declared.ByRound.{ByRound}
use Rattle.longest.specs.declared.Cell.{Cell}
use Rattle.longest.specs.Charge.{Costs}
use Rattle.longest.specs.Search.{by_round, none_yet, greater, value, before, whole}
use Rattle.longest.proofs.Shape.{Shape, head, final, limit, In, parent}
use Rattle.longest.proofs.Nest.{inner_less, inner_in, head_in, head_block, heads, parent_less, parent_in, from_in}
use Rattle.longest.proofs.Entries.{zero_block}
use Rattle.longest.proofs.Sums.{Le, same, same_le, trans, anti, least, right, both, part, greater_left, greater_right, greater_either, times_none, times_more}
use Rattle.longest.proofs.Found.{Found, Covers, Attains, cost, is_later}
use Rattle.longest.proofs.Pushes.{kind, kind_none, reach_at, forward_parts, forward_from, backward_parts, backward_from, round_each, round_either, turned_each, turned_either}
use Rattle.longest.proofs.Tables.{held, passed, turn_of, all_of, fresh_at, all_is, val_direct, val_child}

-- the charge before round r
module _ {T : Type 0} {m : Ops T} {size : T → ℕ} (laws : TallyLaws m size) (st : T) (turn : ByRound T) where
  pub before_more : (r : ℕ) → 1 ≤ r → before m st turn (r + 1) ≡ m.plus (before m st turn r) (kind (is_later r) turn)
  before_more zero h = absurd (omega arith)
  before_more (suc zero) h = ap (λ x. m.plus st (m.plus turn.first x)) (times_none laws turn.later)
      ∙ ap (m.plus st) (right laws turn.first)
  before_more (suc (suc r)) h =
      let e : suc (suc r) + 1 ≡ suc (suc (suc r)) = omega arith in
      ap (before m st turn) e
      ∙ ap (λ x. m.plus st (m.plus turn.first x)) (times_more laws r turn.later)
      ∙ ap (m.plus st) (sym (laws.assoc turn.first (m.times r turn.later) turn.later))
      ∙ sym (laws.assoc st _ turn.later)
      ∙ ap (λ k. m.plus (before m st turn (suc (suc r))) (kind k turn)) (sym (lt-ltb 1 (suc (suc r)) (omega arith)))

  pub before_up : (d r : ℕ) → 1 ≤ r → Le m (before m st turn r) (before m st turn (r + d))
  before_up zero r h = let e : r ≡ r + 0 =
      omega arith in subst (λ x. Le m (before m st turn r) (before m st turn x)) e (same laws (before m st turn r))
  before_up (suc d) r h =
      let e : (r + d) + 1 ≡ r + suc d = omega arith in
      let x = before m st turn (r + d) in
      let s : Le m x (before m st turn ((r + d) + 1)) =
      subst (Le m x) (sym (before_more (r + d) (omega arith))) (part laws x (kind (is_later (r + d)) turn)) in
      subst (λ y. Le m (before m st turn r) (before m st turn y)) e (trans laws _ x _ (before_up d r h) s)

-- a whole stay: by one round, or by all
module _ {T : Type 0} {m : Ops T} {size : T → ℕ} (laws : TallyLaws m size) (most : ℕ) (st : T) (turn x : ByRound T) where
  abbrev pub once : T
  once = m.plus st x.first

  abbrev pub often : T
  often = m.plus (before m st turn most) x.later

  pub whole_one : most ≤ 1 → whole m most st turn x ≡ once
  whole_one l = rw (le-ltb 1 most l, whole)

  pub whole_more : 1 < most → whole m most st turn x ≡ greater m once often
  whole_more l = rw (lt-ltb 1 most l, whole)

  pub whole_covers : (r : ℕ) → 1 ≤ r → r ≤ most → Le m (m.plus (before m st turn r) (kind (is_later r) x)) (whole m most st turn x)
  whole_covers zero h l = absurd (omega arith)
  whole_covers (suc zero) h l = elim (cases_lt 1 most) [
    | inr g ↦ same_le laws once _ (sym (whole_one g))
    | inl g ↦ subst (Le m once) (sym (whole_more g)) (greater_left laws once often)
  ]
  whole_covers (suc (suc r)) h l =
      let g : 1 < most = omega arith in
      let e : suc (suc r) + (most - suc (suc r)) ≡ most = omega arith in
      let y = before m st turn (suc (suc r)) in
      let u : Le m y (before m st turn most) =
      subst (λ z. Le m y (before m st turn z)) e (before_up laws st turn (most - suc (suc r)) (suc (suc r)) h) in
      let v : Le m (m.plus y x.later) often = both laws y (before m st turn most) x.later x.later u (same laws x.later) in
      let w : Le m (m.plus y x.later) (whole m most st turn x) =
      subst (Le m (m.plus y x.later)) (sym (whole_more g)) (trans laws _ often _ v (greater_right laws once often)) in
      subst (λ k. Le m (m.plus y (kind k x)) (whole m most st turn x)) (sym (lt-ltb 1 (suc (suc r)) (omega arith))) w

  pub whole_some : 1 ≤ most → (r : ℕ) × (1 ≤ r) × (r ≤ most) × (whole m most st turn x ≡ m.plus (before m st turn r) (kind (is_later r) x))
  whole_some h = elim (cases_lt 1 most) [
    | inr l ↦ (1, omega arith, h, whole_one l)
    | inl l ↦ elim (greater_either laws once often) [
      | inl u ↦ (1, omega arith, h, whole_more l ∙ u)
      | inr u ↦ (most, h, omega arith, whole_more l ∙ u ∙ ap (λ k. m.plus (before m st turn most) (kind k x)) (sym (lt-ltb 1 most l)))
    ]
  ]

module _ {T : Type 0} {m : Ops T} {size : T → ℕ} (laws : TallyLaws m size) (costs : Costs T) {n : ℕ} {ls : List Loop} {es : List Edge}
    (shape : Shape n ls es) where
  abbrev P : ℕ → List (Cell T)
  P i = passed m costs n ls es i

  abbrev val : ℕ → Bool → ℕ → T
  val i k b = kind k (value m (P i) b)

  abbrev arrives : ℕ → Bool → ℕ → T
  arrives i k a = kind k (reach_at m (P i) a)

  abbrev turn : ℕ → Bool → T
  turn i k = kind k (turn_of m costs n ls es i)

  abbrev pub found : Found T
  found = record {
    val = val;
    ent = λ i k. arrives (parent ls i) k (head ls i);
    turn = turn;
    base = λ i r. before m (costs.stay i) (turn_of m costs n ls es i) r;
    all = all_of m costs n ls es;
  }

  module _ (i : ℕ) (h : i < length ls) (k : Bool) where
    room : final ls i < length (held m costs n ls es (suc i))
    room = omega (arith, shape.fits i h, (fresh_at m costs shape (suc i) h).long)

    arrive_each : (p a : ℕ) → Leads es p a → head ls i ≤ p → p < a → a ≤ final ls i → Le m (val i k p) (arrives i k a)
    arrive_each p a (j, l, from, to) x y z =
        let t = forward_from (loop_at ls i) (edge_at es j) (omega arith) (omega arith) (omega arith) in
        let u : Le m (val i k (edge_at es j).from) (arrives i k (edge_at es j).to) =
        round_each laws (loop_at ls i) k es (held m costs n ls es (suc i)) shape.sorted (fresh_at m costs shape (suc i) h).low room j
        l t in
        subst (λ b. Le m (val i k p) (arrives i k b)) to (subst (λ b. Le m (val i k b) (arrives i k (edge_at es j).to)) from u)

    -- what reaches a block at first
    blank_at : (a : ℕ) → kind k (reach_at m (held m costs n ls es (suc i)) a) ≡ m.none
    blank_at a = ap (kind k) ((fresh_at m costs shape (suc i) h).reach a) ∙ kind_none m k

    arrive_some : (p a : ℕ) → Leads es p a → head ls i ≤ p → p < a → a ≤ final ls i → (q : ℕ) × Leads es q a × (q < a)
        × (arrives i k a ≡ val i k q)
    arrive_some p a e x y z = elim (round_either laws (loop_at ls i) k es (held m costs n ls es (suc i)) shape.sorted
        (fresh_at m costs shape (suc i) h).low room a) [
          | inr b ↦ (
            (edge_at es b.0).from,
            (b.0, b.1, refl, b.3),
            omega
                (arith, forward_parts (loop_at ls i) (edge_at es b.0) b.2, b.3),
            b.4,
          )
          | inl u ↦ (
              let none : arrives i k a ≡ m.none = u ∙ blank_at a in (
                p,
                e,
                y,
                none ∙ anti laws m.none (val i k p) (least laws (val i k p))
                    (subst (Le m (val i k p)) none (arrive_each p a e x y z)),
              ))
        ]

    -- nothing reaches the header in a round
    arrive_head : arrives i k (head ls i) ≡ m.none
    arrive_head = elim (round_either laws (loop_at ls i) k es (held m costs n ls es (suc i)) shape.sorted
        (fresh_at m costs shape (suc i) h).low room (head ls i)) [
          | inl u ↦ u ∙ blank_at (head ls i)
          | inr b ↦ absurd (omega (arith, forward_parts (loop_at ls i) (edge_at es b.0) b.2, b.3))
        ]

    turn_each : (p : ℕ) → Leads es p (head ls i) → head ls i ≤ p → Le m (val i k p) (turn i k)
    turn_each p (j, l, from, to) x =
        let t = backward_from (loop_at ls i) (edge_at es j) to (omega arith) in
        subst (λ b. Le m (val i k b) (turn i k)) from (turned_each laws (loop_at ls i) k (P i) es (none_yet m) j l t)

    turn_some : (p : ℕ) → Leads es p (head ls i) → head ls i ≤ p → (q : ℕ) × Leads es q (head ls i) × (head ls i ≤ q)
        × (turn i k ≡ val i k q)
    turn_some p e x = elim (turned_either laws (loop_at ls i) k (P i) es (none_yet m)) [
      | inr b ↦ (let q = backward_parts (loop_at ls i) (edge_at es b.0) b.2 in
          ((edge_at es b.0).from, (b.0, b.1, refl, q.0), q.1, b.3))
      | inl u ↦ (
          let none : turn i k ≡ m.none = u ∙ kind_none m k in
          (p, e, x, none ∙ anti laws m.none (val i k p) (least laws (val i k p)) (subst (Le m (val i k p)) none (turn_each p e x))))
    ]

    -- the three kinds of block
    val_head : val i k (head ls i) ≡ cost costs k (head ls i)
    val_head =
        let l = head_block shape i h in
        val_direct m costs shape i h k (head ls i) (heads shape (head ls i) i h refl l) l
        ∙ ap (λ x. m.plus x (cost costs k (head ls i))) arrive_head ∙ laws.neutral (cost costs k (head ls i))

    val_inner : (j b : ℕ) → i ≡ parent ls j → 0 < j → j < length ls → In ls j b
        → val i k b ≡ m.plus (arrives i k (head ls j)) (all_of m costs n ls es j b)
    val_inner j b u z g q = val_child m costs shape i h k j b u z g q
        ∙ ap (m.plus (arrives i k (head ls j))) (both_same k (all_of m costs n ls es j b))
      where
        both_same : (k : Bool) (x : T) → kind k (by_round x x) ≡ x
        both_same true x = refl
        both_same false x = refl

  -- the header of a loop lies in its parent, and does not head it
  child_in : (o i : ℕ) → o ≡ parent ls i → 0 < i → i < length ls → (o < length ls) × In ls o (head ls i) × (head ls o < head ls i)
  child_in o i u z h =
      let l = parent_less shape i z in
      let x : o < i = omega arith in
      (omega arith, subst (λ j. In ls j (head ls i)) (sym u) (parent_in shape i (head ls i) z h (head_in shape i h)), shape.up o i x h)

  block_in : (i b : ℕ) → i ≡ innermost ls b → b < n → (i < length ls) × In ls i b
  block_in i b u l = (omega (arith, inner_less shape b), subst (λ j. In ls j b) (sym u) (inner_in shape b l))

  pub covers : Covers m costs n ls es found
  covers = record {
    begin = λ i k h. same_le laws _ _ (sym (val_head i h k));
    step = λ i p b k u ne e l.
        let bl = (shape.ends p b e).1 in
        let q = block_in i b u bl in
        let qp = from_in shape p b i e q.0 q.1 ne in
        subst (Le m (m.plus (val i k p) (cost costs k b))) (sym (val_direct m costs shape i q.0 k b u bl))
        (both laws (val i k p) (arrives i k b) (cost costs k b) (cost costs k b) (arrive_each i q.0 k p b e qp.0 l q.1.1)
        (same laws (cost costs k b)));
    child = λ o i b k u z h q. same_le laws _ _
        (ap (λ j. m.plus (arrives j k (head ls i)) (all_of m costs n ls es i b)) (sym u)
        ∙ sym (val_inner o (child_in o i u z h).0 k i b u z h q));
    into = λ o i p k u z h e l.
        let q = child_in o i u z h in
        let qp = from_in shape p (head ls i) o e q.0 q.1 (λ v. omega arith) in
        subst (λ j. Le m (val o k p) (arrives j k (head ls i))) u (arrive_each o q.0 k p (head ls i) e qp.0 l q.1.1);
    turns = λ i p k h e l. turn_each i h k p e l;
    one = λ i h. same laws (costs.stay i);
    more = λ i r h x. same_le laws _ _ (sym (before_more laws (costs.stay i) (turn_of m costs n ls es i) r x));
    stays = λ i r b h x y q. subst (Le m (m.plus (before m (costs.stay i) (turn_of m costs n ls es i) r) (val i (is_later r) b)))
        (sym (all_is m costs shape i b h q))
        (whole_covers laws (limit ls i) (costs.stay i) (turn_of m costs n ls es i) (value m (P i) b) r x y);
  }

  pub attains : Attains m costs n ls es found
  attains = record {
    begin = λ i k h. val_head i h k;
    step = λ i b k u ne l.
        let q = block_in i b u l in
        let z : 0 < b = elim (cases_eq b 0) [
          | inr v ↦ omega arith
          | inl v ↦ absurd
              (ne (ap (head ls) (u ∙ ap (innermost ls) v ∙ sym (heads shape 0 0 shape.some shape.first (zero_block shape)))
              ∙ shape.first ∙ sym v))
        ] in
        let r = shape.reached b z l in
        let qp = from_in shape r.0 b i r.1 q.0 q.1 ne in
        let s = arrive_some i q.0 k r.0 b r.1 qp.0 r.2 q.1.1 in
        (s.0, s.1, s.2, val_direct m costs shape i q.0 k b u l ∙ ap (λ x. m.plus x (cost costs k b)) s.3);
    child = λ o i b k u z h q. val_inner o (child_in o i u z h).0 k i b u z h q
        ∙ ap (λ j. m.plus (arrives j k (head ls i)) (all_of m costs n ls es i b)) u;
    into = λ o i k u z h.
        let q = child_in o i u z h in
        let r = shape.reached (head ls i) (omega arith) (head_block shape i h) in
        let qp = from_in shape r.0 (head ls i) o r.1 q.0 q.1 (λ v. omega arith) in
        let s = arrive_some o q.0 k r.0 (head ls i) r.1 qp.0 r.2 q.1.1 in
        (s.0, s.1, s.2, ap (λ j. arrives j k (head ls i)) (sym u) ∙ s.3);
    turns = λ i k h l. let r = shape.again i h l in turn_some i h k r.0 r.1 r.2;
    one = λ i h. refl;
    more = λ i r h x y. before_more laws (costs.stay i) (turn_of m costs n ls es i) r x;
    stays = λ i b h q.
        let s = whole_some laws (limit ls i) (costs.stay i) (turn_of m costs n ls es i) (value m (P i) b) (shape.fits i h).2 in
        (s.0, s.1, s.2, all_is m costs shape i b h q ∙ s.3);
  }
