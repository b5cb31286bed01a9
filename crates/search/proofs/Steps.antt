-- The steps of the search's loops, over plain lists.
use Rattle.std.proofs.Common.{◌≡◌, ℕ, zero, suc, ◌+◌, ◌-◌, ◌*◌, ◌^◌, ◌<◌, ◌≤◌, true, false, List, [], ◌∷◌, length, get_or, drop, set, sym, refl, ap, ◌∙◌, subst, ap₂, inl, inr, arith, get_or-set_other, get_or-set_same}
use Rattle.std.proofs.lemmas.List.{get_or_read, drop_more, at_drop_more, ext_get_or}
use Rattle.std.proofs.lemmas.Bool.{cases_lt, cases_eq}
use Rattle.std.proofs.lemmas.List.FromFn.{fill_by_all}
use Rattle.records.specs.declared.parts.Loop.{Loop}
use Rattle.records.specs.declared.parts.Edge.{Edge}
use Rattle.task.specs.Graph.{edge_at, Within}
use Rattle.tally.specs.Laws.{Ops, TallyLaws}
use Rattle.longest.specs.declared.ByRound.{ByRound}
use Rattle.longest.specs.declared.Cell.{Cell}
use Rattle.longest.specs.Charge.{Costs}
use Rattle.longest.specs.Search.{forward, backward, plus_both, greater_both, none_yet, cell_at, value, arrived, pushed, round_of, turned, before, whole, stayed, closed, start_cell, start_cells}
use Rattle.longest.specs.Sizes.{Sorted, Low, BacksInside, ValuesSmall, Small, Ready}
use Rattle.longest.proofs.Pushes.{forward_parts, backward_parts, pushed_yes, pushed_no, pushed_alike, low_alike, round_alike, value_head}
use Rattle.longest.proofs.Tables.{blank, closed_long, closed_in, closed_out, closed_low}
use Rattle.longest.proofs.Sim.{size_times}

module _ {T : Type 0} (m : Ops T) where
  -- two cells as they are read
  module _ (s : List (Cell T)) (b : ℕ) (x y : Cell T) (h : b < length s) (low : Low m s) (x-is : x ≡ get_or s b x) where
    cell_is : x ≡ cell_at m s b
    cell_is = get_or_read s b x h x-is (blank m)

    pub anchor_in : x.anchor < length s
    anchor_in = omega (arith, low b, ap (λ (c : Cell T). c.anchor) cell_is)

    pub read_value : y ≡ get_or s x.anchor y → plus_both m y.reach x.weight ≡ value m s b
    read_value y-is =
        let anchor : y ≡ cell_at m s (cell_at m s b).anchor =
        get_or_read s x.anchor y anchor_in y-is (blank m) ∙ ap (λ (c : Cell T). cell_at m s c.anchor) cell_is in
        ap₂ (λ (c d : Cell T). plus_both m c.reach d.weight) anchor cell_is

pub sorted-drop : (es : List Edge) (k : ℕ) → Sorted es → Sorted (drop k es)
sorted-drop es zero h = h
sorted-drop [] (suc k) h = tt
sorted-drop (e ∷ es) (suc k) h = sorted-drop es k h.1

-- one edge more of a round
module _ {T : Type 0} (m : Ops T) (l : Loop) (es : List Edge) (k : ℕ) (h : k < length es) (s : List (Cell T)) where
  abbrev blank_edge : Edge
  blank_edge = record { from = 0; to = 0 }

  opened : drop k es ≡ edge_at es k ∷ drop (k + 1) es
  opened = drop_more es k blank_edge h

  pub round_next : round_of m l (drop k es) s ≡ round_of m l (drop (k + 1) es) (pushed m l (edge_at es k) s)
  round_next = ap (λ ds. round_of m l ds s) opened

  pub pushed_next : (u : List (Cell T)) → forward l (edge_at es k) ≡ true → u ≡ arrived m s (edge_at es k).to (value m s (edge_at es k).from)
      → u ≡ pushed m l (edge_at es k) s
  pushed_next u t is = is ∙ sym (pushed_yes m l (edge_at es k) s t)

  pub passed_next : (u : List (Cell T)) → forward l (edge_at es k) ≡ false → u ≡ s → u ≡ pushed m l (edge_at es k) s
  passed_next u t is = is ∙ sym (pushed_no m l (edge_at es k) s t)

  module _ (low : Low m s) (room : l.last < length s) where
    -- the invariant of the round's loop
    pub round_again : (u all : List (Cell T)) → u ≡ pushed m l (edge_at es k) s → round_of m l (drop k es) s ≡ all
        → (round_of m l (drop (k + 1) es) u ≡ all) × Low m u
    round_again u all is inv = (
      ap (round_of m l (drop (k + 1) es)) is ∙ sym round_next ∙ inv,
      subst (Low m) (sym is) (low_alike m s (pushed m l (edge_at es k) s) (pushed_alike m l (edge_at es k) s room) low),
    )

    -- what the edge leaves has its last value, which is small
    pub small_turn : (size : T → ℕ) (all : List (Cell T)) → Sorted es → forward l (edge_at es k) ≡ true → round_of m l (drop k es) s ≡ all
        → ValuesSmall m size l all → (size (value m s (edge_at es k).from).first < 2 ^ 63)
        × (size (value m s (edge_at es k).from).later < 2 ^ 63)
    small_turn size all sorted t inv small =
        let p = (edge_at es k).from in
        let f = forward_parts l (edge_at es k) t in
        let now : value m all p ≡ value m s p =
        ap (λ u. value m u p) (sym inv ∙ ap (λ ds. round_of m l ds s) opened)
        ∙ value_head m l (edge_at es k) (drop (k + 1) es) s (subst Sorted opened (sorted-drop es k sorted)) low room in
        subst (λ v. (size v.first < 2 ^ 63) × (size v.later < 2 ^ 63)) now (small p (omega arith, omega arith))

-- one edge more of the edges back
module _ {T : Type 0} (m : Ops T) (l : Loop) (s : List (Cell T)) (es : List Edge) (k : ℕ) (h : k < length es) where
  turned_next : (x : ByRound T) → turned m l s (drop k es) x ≡ turned m l s (edge_at es k ∷ drop (k + 1) es) x
  turned_next x = at_drop_more (λ ds. turned m l s ds x) es k (record { from = 0; to = 0 }) h

  pub turned_taken : (x y : ByRound T) → backward l (edge_at es k) ≡ true → y ≡ greater_both m x (value m s (edge_at es k).from)
      → turned m l s (drop (k + 1) es) y ≡ turned m l s (drop k es) x
  turned_taken x y t is =
      let open_it : turned m l s (edge_at es k ∷ drop (k + 1) es) x ≡ turned m l s (drop (k + 1) es)
      (greater_both m x (value m s (edge_at es k).from)) = rw (t, turned) in
      ap (turned m l s (drop (k + 1) es)) is ∙ sym open_it ∙ sym (turned_next x)

  pub turned_left : (x y : ByRound T) → backward l (edge_at es k) ≡ false → y ≡ x
      → turned m l s (drop (k + 1) es) y ≡ turned m l s (drop k es) x
  turned_left x y t is =
      let open_it : turned m l s (edge_at es k ∷ drop (k + 1) es) x ≡ turned m l s (drop (k + 1) es) x = rw (t, turned) in
      ap (turned m l s (drop (k + 1) es)) is ∙ sym open_it ∙ sym (turned_next x)

  -- the edge leaves a block of the loop
  pub back_block : backward l (edge_at es k) ≡ true → BacksInside l es → Within l (edge_at es k).from
  back_block t inside = ((backward_parts l (edge_at es k) t).1, inside k h t)

-- the sums before the last round
pub record BeforeParts {T : Type 0} (m : Ops T) (size : T → ℕ) (limit : ℕ) (stay : T) (turn : ByRound T) : Type 0 where
  pub rounds : (limit - 2) * size turn.later < 2 ^ 63
  pub turns : size turn.first + size (m.times (limit - 2) turn.later) < 2 ^ 63
  pub all : size stay + size (m.plus turn.first (m.times (limit - 2) turn.later)) < 2 ^ 63
  pub is : m.plus stay (m.plus turn.first (m.times (limit - 2) turn.later)) ≡ before m stay turn limit

pub before_parts : {T : Type 0} {m : Ops T} {size : T → ℕ} → TallyLaws m size → (limit : ℕ) (stay : T) (turn : ByRound T) → 1 < limit
    → size (before m stay turn limit) < 2 ^ 63 → BeforeParts m size limit stay turn
before_parts {m = m} {size = size} laws limit stay turn l h =
    let e : suc (suc (limit - 2)) ≡ limit = omega arith in
    let x = m.times (limit - 2) turn.later in
    let is : m.plus stay (m.plus turn.first x) ≡ before m stay turn limit = ap (before m stay turn) e in
    let a = laws.size_plus stay (m.plus turn.first x) in
    let b = laws.size_plus turn.first x in
    let d = size_times laws (limit - 2) turn.later in
    let z = ap size is in
    record { rounds = omega arith; turns = omega arith; all = omega arith; is = is }

-- a loop is closed from its last block down, and has come to block b
module _ {T : Type 0} (m : Ops T) (l : Loop) (st : T) (t : ByRound T) (s : List (Cell T)) (low : Low m s) (room : l.last < length s) where
  abbrev end : List (Cell T)
  end = closed m l st t s

  abbrev pub Closing : List (Cell T) → ℕ → Type 0
  Closing u b = ((a : ℕ) → a < b → cell_at m u a ≡ cell_at m s a) × ((a : ℕ) → b ≤ a → cell_at m u a ≡ cell_at m end a)

  pub closing_none : Closing s (l.last + 1)
  closing_none = (λ a _. refl, λ a h. sym (closed_out m l st t s a (λ q. omega arith)))

  module _ (u : List (Cell T)) (b : ℕ) (inv : Closing u b) where
    pub closing_low : Low m u
    closing_low a = elim (cases_lt a b) [
      | inl h ↦ omega (arith, low a, ap (λ (c : Cell T). c.anchor) (inv.0 a h))
      | inr h ↦ omega (arith, closed_low m l st t s low a, ap (λ (c : Cell T). c.anchor) (inv.1 a h))
    ]

    pub closing_value : 0 < b → value m u (b - 1) ≡ value m s (b - 1)
    closing_value h =
        let own = inv.0 (b - 1) (omega arith) in
        let a = (cell_at m s (b - 1)).anchor in
        let at_anchor : cell_at m u (cell_at m u (b - 1)).anchor ≡ cell_at m s a =
        ap (λ (c : Cell T). cell_at m u c.anchor) own ∙ inv.0 a (omega (arith, low (b - 1))) in
        ap₂ (λ (c d : Cell T). plus_both m c.reach d.weight) at_anchor own

    pub closing_more : (x : T) → l.header < b → b ≤ l.last + 1 → length u ≡ length s → x ≡ whole m l.limit st t (value m s (b - 1))
        → Closing (set u (b - 1) (stayed m l x)) (b - 1)
    closing_more x low-b high-b long is =
        let y = stayed m l x in
        let h : b - 1 < length u = omega arith in
        let here : y ≡ cell_at m end (b - 1) =
        ap (stayed m l) is ∙ sym (closed_in m l st t s (b - 1) (omega arith) (omega arith, omega arith)) in (
          (λ a k. get_or-set_other u (b - 1) a y (blank m) (λ e. omega arith) ∙ inv.0 a (omega arith)),
          λ a k. elim (cases_eq a (b - 1)) [
            | inl e ↦ ap (cell_at m (set u (b - 1) y)) e ∙ get_or-set_same u (b - 1) y (blank m) h ∙ here ∙ ap (cell_at m end) (sym e)
            | inr e ↦ get_or-set_other u (b - 1) a y (blank m) e ∙ inv.1 a (omega arith)
          ],
        )

    pub closing_all : b ≤ l.header → length u ≡ length s → u ≡ end
    closing_all h long = ext_get_or (blank m) u end (long ∙ sym (closed_long m l st t s)) (λ a k. elim (cases_lt a b) [
      | inl x ↦ inv.0 a x ∙ sym (closed_out m l st t s a (λ q. omega arith))
      | inr x ↦ inv.1 a x
    ])

-- what a round leaves to the rest of its loop
module _ {T : Type 0} (m : Ops T) (size : T → ℕ) (es : List Edge) (l : Loop) (stay : T) (s : List (Cell T)) (r : Ready m size es l stay s)
    (u : List (Cell T)) (is : u ≡ round_of m l es s) where
  pub round_low : Low m u
  round_low = subst (Low m) (sym is) (low_alike m s (round_of m l es s) (round_alike m l es s r.room) r.low)

  pub round_room : l.last < length u
  round_room = subst (λ v. l.last < length v) (sym is) (omega (arith, r.room, (round_alike m l es s r.room).long))

  pub round_values : ValuesSmall m size l u
  round_values = subst (ValuesSmall m size l) (sym is) (λ b q. let p = r.small b q in (omega (arith, p.one), p.later))

  pub round_small : (turn : ByRound T) → turn ≡ turned m l u es (none_yet m) → (b : ℕ) → Within l b
      → Small m size l.limit stay turn (value m u b)
  round_small turn turn_is b q =
      let t : turned m l (round_of m l es s) es (none_yet m) ≡ turn = ap (λ v. turned m l v es (none_yet m)) (sym is) ∙ sym turn_is in
      subst (λ v. Small m size l.limit stay turn (value m v b)) (sym is)
      (subst (λ v. Small m size l.limit stay v (value m (round_of m l es s) b)) t (r.small b q))

-- the blocks by themselves
pub start-all : {T : Type 0} (m : Ops T) (costs : Costs T) (u : List (Cell T)) (n : ℕ) → length u ≡ n
    → ((k : ℕ) → k < n → cell_at m u k ≡ start_cell m costs k) → u ≡ start_cells m costs n
start-all m costs u n long each = fill_by_all (start_cell m costs) u n (blank m) long each
