-- One round of a loop by its edges: every edge inside it is covered, and what is reached is reached by an edge.
use Rattle.std.proofs.Common.{◌≡◌, ℕ, zero, suc, ◌<◌, ◌≤◌, Bool, true, false, cond, eqb, ltb, leb, ◌⊎◌, List, [], ◌∷◌, length, get_or, set, sym, refl, ap, ◌∙◌, subst, ap₂, inl, inr, le_of_suc-le-suc, not-suc-le-zero, arith, length-set, get_or-set_other, get_or-set_same}
use Rattle.std.specs.List.{AllByRecursion}
use Rattle.std.proofs.lemmas.Bool.{cases_Bool, cases_eq, and_parts, and_from, leb-true, ltb-true, eqb-true, le-leb, lt-ltb, eq-eqb}
use Rattle.records.specs.declared.parts.Loop.{Loop}
use Rattle.records.specs.declared.parts.Edge.{Edge}
use Rattle.task.specs.Graph.{edge_at, Within}
use Rattle.tally.specs.Laws.{Ops, TallyLaws}
use Rattle.longest.specs.declared.ByRound.{ByRound}
use Rattle.longest.specs.declared.Cell.{Cell}
use Rattle.longest.specs.Search.{cell_of, forward, backward, greater, none_yet, plus_both, greater_both, cell_at, value, pushed, round_of, turned}
use Rattle.longest.specs.Sizes.{Sorted, Low}
use Rattle.longest.proofs.Sums.{Le, same, trans, greater_left, greater_right, greater_either}

-- what holds in a first, or in a later round
abbrev pub kind : {T : Type 0} → Bool → ByRound T → T
kind k x = cond k x.later x.first

pub forward_parts : (l : Loop) (e : Edge) → forward l e ≡ true → (l.header ≤ e.from) × (e.from < e.to) × (e.to ≤ l.last)
forward_parts l e t =
    let u = and_parts (leb l.header e.from) _ t in
    let v = and_parts (ltb e.from e.to) (leb e.to l.last) u.1 in
    (leb-true l.header e.from u.0, ltb-true e.from e.to v.0, leb-true e.to l.last v.1)

pub forward_from : (l : Loop) (e : Edge) → l.header ≤ e.from → e.from < e.to → e.to ≤ l.last → forward l e ≡ true
forward_from l e x y z =
    and_from (leb l.header e.from) _ (le-leb l.header e.from x)
    (and_from (ltb e.from e.to) (leb e.to l.last) (lt-ltb e.from e.to y) (le-leb e.to l.last z))

pub backward_parts : (l : Loop) (e : Edge) → backward l e ≡ true → (e.to ≡ l.header) × (l.header ≤ e.from)
backward_parts l e t =
    let u = and_parts (eqb e.to l.header) (leb l.header e.from) t in
    (eqb-true e.to l.header u.0, leb-true l.header e.from u.1)

pub backward_from : (l : Loop) (e : Edge) → e.to ≡ l.header → l.header ≤ e.from → backward l e ≡ true
backward_from l e x y = and_from (eqb e.to l.header) (leb l.header e.from) (eq-eqb e.to l.header x)
    (le-leb l.header e.from y)

module _ {T : Type 0} (m : Ops T) where
  pub kind_plus : (k : Bool) (x y : ByRound T) → kind k (plus_both m x y) ≡ m.plus (kind k x) (kind k y)
  kind_plus true x y = refl
  kind_plus false x y = refl

  pub kind_greater : (k : Bool) (x y : ByRound T) → kind k (greater_both m x y) ≡ greater m (kind k x) (kind k y)
  kind_greater true x y = refl
  kind_greater false x y = refl

  pub kind_none : (k : Bool) → kind k (none_yet m) ≡ m.none
  kind_none true = refl
  kind_none false = refl

  abbrev pub reach_at : List (Cell T) → ℕ → ByRound T
  reach_at s a = (cell_at m s a).reach

  -- the cells differ at most in what reaches them
  pub record Alike (s u : List (Cell T)) : Type 0 where
    pub long : length u ≡ length s
    pub anchor : (a : ℕ) → (cell_at m u a).anchor ≡ (cell_at m s a).anchor
    pub weight : (a : ℕ) → (cell_at m u a).weight ≡ (cell_at m s a).weight

  pub low_alike : (s u : List (Cell T)) → Alike s u → Low m s → Low m u
  low_alike s u q low a = subst (λ x. x ≤ a) (sym (q.anchor a)) (low a)

  module _ (l : Loop) where
    -- the cell that an edge ends at, raised
    abbrev pub raised : Edge → List (Cell T) → Cell T
    raised e s = cell_of (cell_at m s e.to).anchor (greater_both m (reach_at s e.to) (value m s e.from)) (cell_at m s e.to).weight

    pub pushed_yes : (e : Edge) (s : List (Cell T)) → forward l e ≡ true → pushed m l e s ≡ set s e.to (raised e s)
    pushed_yes e s t = rw (t, pushed)

    pub pushed_no : (e : Edge) (s : List (Cell T)) → forward l e ≡ false → pushed m l e s ≡ s
    pushed_no e s t = rw (t, pushed)

    set_alike : (s : List (Cell T)) (b : ℕ) (r : ByRound T) → b < length s
        → Alike s (set s b (cell_of (cell_at m s b).anchor r (cell_at m s b).weight))
    set_alike s b r h =
        let x = cell_of (cell_at m s b).anchor r (cell_at m s b).weight in
        let d = cell_of 0 (none_yet m) (none_yet m) in
        record {
          long = length-set s b x;
          anchor = λ a. elim (cases_eq a b) [
            | inl e ↦ ap (λ y. (get_or (set s b x) y d).anchor) e ∙ ap (λ (c : Cell T). c.anchor) (get_or-set_same s b x d h)
                ∙ ap (λ y. (cell_at m s y).anchor) (sym e)
            | inr ne ↦ ap (λ (c : Cell T). c.anchor) (get_or-set_other s b a x d ne)
          ];
          weight = λ a. elim (cases_eq a b) [
            | inl e ↦ ap (λ y. (get_or (set s b x) y d).weight) e ∙ ap (λ (c : Cell T). c.weight) (get_or-set_same s b x d h)
                ∙ ap (λ y. (cell_at m s y).weight) (sym e)
            | inr ne ↦ ap (λ (c : Cell T). c.weight) (get_or-set_other s b a x d ne)
          ];
        }

    alike_self : (s : List (Cell T)) → Alike s s
    alike_self s = record { long = refl; anchor = λ a. refl; weight = λ a. refl }

    alike_trans : (s u v : List (Cell T)) → Alike s u → Alike u v → Alike s v
    alike_trans s u v p q = record
        { long = q.long ∙ p.long; anchor = λ a. q.anchor a ∙ p.anchor a; weight = λ a. q.weight a ∙ p.weight a }

    pub pushed_alike : (e : Edge) (s : List (Cell T)) → l.last < length s → Alike s (pushed m l e s)
    pushed_alike e s h = elim (cases_Bool (forward l e)) [
      | inl t ↦ subst (Alike s) (sym (pushed_yes e s t)) (set_alike s e.to _ (omega (arith, forward_parts l e t)))
      | inr t ↦ subst (Alike s) (sym (pushed_no e s t)) (alike_self s)
    ]

    pub round_alike : (es : List Edge) (s : List (Cell T)) → l.last < length s → Alike s (round_of m l es s)
    round_alike [] s h = alike_self s
    round_alike (e ∷ es) s h =
        let q = pushed_alike e s h in
        alike_trans s (pushed m l e s) _ q (round_alike es (pushed m l e s) (omega (arith, q.long)))

    -- an edge changes what reaches its end, and nothing else
    pub reach_other : (e : Edge) (s : List (Cell T)) (a : ℕ) → (forward l e ≡ true → a ≡ e.to → ⊥)
        → reach_at (pushed m l e s) a ≡ reach_at s a
    reach_other e s a h = elim (cases_Bool (forward l e)) [
      | inl t ↦ ap (λ u. reach_at u a) (pushed_yes e s t) ∙ ap (λ (c : Cell T). c.reach) (get_or-set_other s e.to a _ _ (h t))
      | inr t ↦ ap (λ u. reach_at u a) (pushed_no e s t)
    ]

    reach_end : (e : Edge) (s : List (Cell T)) → forward l e ≡ true → l.last < length s
        → reach_at (pushed m l e s) e.to ≡ greater_both m (reach_at s e.to) (value m s e.from)
    reach_end e s t h = ap (λ u. reach_at u e.to) (pushed_yes e s t)
        ∙ ap (λ (c : Cell T). c.reach) (get_or-set_same s e.to (raised e s) _ (omega (arith, forward_parts l e t)))

    -- edges that leave p or later blocks change nothing up to p
    reach_stable : (es : List Edge) (s : List (Cell T)) (p a : ℕ) → AllByRecursion (λ d. p ≤ d.from) es → a ≤ p
        → reach_at (round_of m l es s) a ≡ reach_at s a
    reach_stable [] s p a h k = refl
    reach_stable (e ∷ es) s p a h k =
        reach_stable es (pushed m l e s) p a h.1 k ∙ reach_other e s a (λ t q. omega (arith, h.0, forward_parts l e t))

    -- and none changes what reaches a block outside the loop
    pub reach_outside : (es : List Edge) (s : List (Cell T)) (a : ℕ) → (Within l a → ⊥) → reach_at (round_of m l es s) a ≡ reach_at s a
    reach_outside [] s a h = refl
    reach_outside (e ∷ es) s a h =
        reach_outside es (pushed m l e s) a h ∙ reach_other e s a (λ t q. h (let p = forward_parts l e t in (omega arith, omega arith)))

    -- the value of p is read from what reaches its anchor
    value_alike : (s u : List (Cell T)) (p : ℕ) → Alike s u → reach_at u (cell_at m s p).anchor ≡ reach_at s (cell_at m s p).anchor
        → value m u p ≡ value m s p
    value_alike s u p q e = ap₂ (plus_both m) (ap (reach_at u) (q.anchor p) ∙ e) (q.weight p)

    pub value_pushed : (e : Edge) (s : List (Cell T)) (p : ℕ) → p ≤ e.from → Low m s → l.last < length s
        → value m (pushed m l e s) p ≡ value m s p
    value_pushed e s p h low room =
        value_alike s (pushed m l e s) p (pushed_alike e s room)
        (reach_other e s (cell_at m s p).anchor (λ t q. omega (arith, low p, forward_parts l e t)))

    pub value_round : (es : List Edge) (s : List (Cell T)) (p : ℕ) → AllByRecursion (λ d. p ≤ d.from) es → Low m s → l.last < length s
        → value m (round_of m l es s) p ≡ value m s p
    value_round es s p h low room =
        value_alike s (round_of m l es s) p (round_alike es s room) (reach_stable es s p (cell_at m s p).anchor h (low p))

    -- at the turn of an edge, what it leaves has its last value
    pub value_head : (e : Edge) (es : List Edge) (s : List (Cell T)) → Sorted (e ∷ es) → Low m s → l.last < length s
        → value m (round_of m l (e ∷ es) s) e.from ≡ value m s e.from
    value_head e es s sorted low room =
        let q = pushed_alike e s room in
        value_round es (pushed m l e s) e.from sorted.0 (low_alike s (pushed m l e s) q low) (omega (arith, q.long))
        ∙ value_pushed e s e.from (omega arith) low room

module _ {T : Type 0} {m : Ops T} {size : T → ℕ} (laws : TallyLaws m size) (l : Loop) (k : Bool) where
  abbrev R : List (Cell T) → ℕ → T
  R s a = kind k (reach_at m s a)

  abbrev V : List (Cell T) → ℕ → T
  V s p = kind k (value m s p)

  -- what reaches the end of an edge is the greater of what did and of what the edge leaves
  raised_is : (e : Edge) (s : List (Cell T)) → forward l e ≡ true → l.last < length s
      → R (pushed m l e s) e.to ≡ greater m (R s e.to) (V s e.from)
  raised_is e s t room = ap (kind k) (reach_end m l e s t room) ∙ kind_greater m k (reach_at m s e.to) (value m s e.from)

  push_up : (e : Edge) (s : List (Cell T)) (a : ℕ) → l.last < length s → Le m (R s a) (R (pushed m l e s) a)
  push_up e s a room = elim (cases_Bool (forward l e)) [
    | inr t ↦ subst (λ u. Le m (R s a) (R u a)) (sym (pushed_no m l e s t)) (same laws (R s a))
    | inl t ↦ elim (cases_eq a e.to) [
      | inl q ↦ subst (λ b. Le m (R s b) (R (pushed m l e s) b)) (sym q)
          (subst (Le m (R s e.to)) (sym (raised_is e s t room)) (greater_left laws (R s e.to) (V s e.from)))
      | inr q ↦ subst (λ x. Le m (R s a) (kind k x)) (sym (reach_other m l e s a (λ _. q))) (same laws (R s a))
    ]
  ]

  round_up : (es : List Edge) (s : List (Cell T)) (a : ℕ) → l.last < length s → Le m (R s a) (R (round_of m l es s) a)
  round_up [] s a room = same laws (R s a)
  round_up (e ∷ es) s a room =
      trans laws (R s a) (R (pushed m l e s) a) _ (push_up e s a room)
      (round_up es (pushed m l e s) a (omega (arith, (pushed_alike m l e s room).long)))

  pub round_each : (es : List Edge) (s : List (Cell T)) → Sorted es → Low m s → l.last < length s → (j : ℕ) → j < length es
      → forward l (edge_at es j) ≡ true → Le m (V (round_of m l es s) (edge_at es j).from) (R (round_of m l es s) (edge_at es j).to)
  round_each [] s sorted low room j h t = absurd (not-suc-le-zero h)
  round_each (e ∷ es) s sorted low room zero h t =
      let u = pushed m l e s in
      let end = R (round_of m l es u) e.to in
      let x : Le m (V s e.from) (R u e.to) =
      subst (Le m (V s e.from)) (sym (raised_is e s t room)) (greater_right laws (R s e.to) (V s e.from)) in
      let y = round_up es u e.to (omega (arith, (pushed_alike m l e s room).long)) in
      subst (λ z. Le m (kind k z) end) (sym (value_head m l e es s sorted low room)) (trans laws (V s e.from) (R u e.to) end x y)
  round_each (e ∷ es) s sorted low room (suc j) h t =
      let q = pushed_alike m l e s room in
      round_each es (pushed m l e s) sorted.1 (low_alike m s (pushed m l e s) q low) (omega (arith, q.long)) j (le_of_suc-le-suc h) t

  -- an edge of these ends at a and brings what reaches it
  abbrev pub Brings : List Edge → List (Cell T) → ℕ → Type 0
  Brings es u a = (j : ℕ) × (j < length es) × (forward l (edge_at es j) ≡ true) × ((edge_at es j).to ≡ a) × (R u a ≡ V u (edge_at es j).from)

  push_either : (e : Edge) (s : List (Cell T)) (a : ℕ) → l.last < length s → (R (pushed m l e s) a ≡ R s a)
      ⊎ ((forward l e ≡ true) × (e.to ≡ a) × (R (pushed m l e s) a ≡ V s e.from))
  push_either e s a room = elim (cases_Bool (forward l e)) [
    | inr t ↦ inl (ap (λ u. R u a) (pushed_no m l e s t))
    | inl t ↦ elim (cases_eq a e.to) [
      | inr q ↦ inl (ap (kind k) (reach_other m l e s a (λ _. q)))
      | inl q ↦ elim (greater_either laws (R s e.to) (V s e.from)) [
        | inl g ↦ inl (ap (R (pushed m l e s)) q ∙ raised_is e s t room ∙ g ∙ ap (R s) (sym q))
        | inr g ↦ inr (t, sym q, ap (R (pushed m l e s)) q ∙ raised_is e s t room ∙ g)
      ]
    ]
  ]

  pub round_either : (es : List Edge) (s : List (Cell T)) → Sorted es → Low m s → l.last < length s → (a : ℕ)
      → (R (round_of m l es s) a ≡ R s a) ⊎ Brings es (round_of m l es s) a
  round_either [] s sorted low room a = inl refl
  round_either (e ∷ es) s sorted low room a =
      let q = pushed_alike m l e s room in
      elim (round_either es (pushed m l e s) sorted.1 (low_alike m s (pushed m l e s) q low) (omega (arith, q.long)) a) [
        | inr b ↦ inr (suc b.0, omega (arith, b.1), b.2, b.3, b.4)
        | inl x ↦ elim (push_either e s a room) [
          | inl y ↦ inl (x ∙ y)
          | inr y ↦ inr (0, omega arith, y.0, y.1, x ∙ y.2 ∙ ap (kind k) (sym (value_head m l e es s sorted low room)))
        ]
      ]

  -- the edges back to the header
  abbrev pub backs : List (Cell T) → Edge → ByRound T → ByRound T
  backs s e x = elim (backward l e) [ true ↦ greater_both m x (value m s e.from) | false ↦ x ]

  backs_yes : (s : List (Cell T)) (e : Edge) (x : ByRound T) → backward l e ≡ true
      → kind k (backs s e x) ≡ greater m (kind k x) (V s e.from)
  backs_yes s e x t = ap (kind k) (rw (t, backs)) ∙ kind_greater m k x (value m s e.from)

  backs_no : (s : List (Cell T)) (e : Edge) (x : ByRound T) → backward l e ≡ false → backs s e x ≡ x
  backs_no s e x t = rw (t, backs)

  backs_up : (s : List (Cell T)) (e : Edge) (x : ByRound T) → Le m (kind k x) (kind k (backs s e x))
  backs_up s e x = elim (cases_Bool (backward l e)) [
    | inl t ↦ subst (Le m (kind k x)) (sym (backs_yes s e x t)) (greater_left laws (kind k x) (V s e.from))
    | inr t ↦ subst (λ y. Le m (kind k x) (kind k y)) (sym (backs_no s e x t)) (same laws (kind k x))
  ]

  turned_up : (s : List (Cell T)) (es : List Edge) (x : ByRound T) → Le m (kind k x) (kind k (turned m l s es x))
  turned_up s [] x = same laws (kind k x)
  turned_up s (e ∷ es) x = trans laws (kind k x) (kind k (backs s e x)) _ (backs_up s e x) (turned_up s es (backs s e x))

  pub turned_each : (s : List (Cell T)) (es : List Edge) (x : ByRound T) (j : ℕ) → j < length es → backward l (edge_at es j) ≡ true
      → Le m (V s (edge_at es j).from) (kind k (turned m l s es x))
  turned_each s [] x j h t = absurd (not-suc-le-zero h)
  turned_each s (e ∷ es) x zero h t =
      trans laws (V s e.from) (kind k (backs s e x)) _
      (subst (Le m (V s e.from)) (sym (backs_yes s e x t)) (greater_right laws (kind k x) (V s e.from)))
      (turned_up s es (backs s e x))
  turned_each s (e ∷ es) x (suc j) h t = turned_each s es (backs s e x) j (le_of_suc-le-suc h) t

  pub turned_either : (s : List (Cell T)) (es : List Edge) (x : ByRound T) → (kind k (turned m l s es x) ≡ kind k x)
      ⊎ ((j : ℕ) × (j < length es) × (backward l (edge_at es j) ≡ true) × (kind k (turned m l s es x) ≡ V s (edge_at es j).from))
  turned_either s [] x = inl refl
  turned_either s (e ∷ es) x = elim (turned_either s es (backs s e x)) [
    | inr b ↦ inr (suc b.0, omega (arith, b.1), b.2, b.3)
    | inl q ↦ elim (cases_Bool (backward l e)) [
      | inr t ↦ inl (q ∙ ap (kind k) (backs_no s e x t))
      | inl t ↦ elim (greater_either laws (kind k x) (V s e.from)) [
        | inl g ↦ inl (q ∙ backs_yes s e x t ∙ g)
        | inr g ↦ inr (0, omega arith, t, q ∙ backs_yes s e x t ∙ g)
      ]
    ]
  ]
