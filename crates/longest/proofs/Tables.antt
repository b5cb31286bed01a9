-- What the search holds when the loops from some number on are done.
use Rattle.std.proofs.Common.{◌≡◌, ℕ, zero, suc, ◌+◌, ◌-◌, ◌<◌, ◌≤◌, Bool, ◌⊎◌, List, length, drop, sym, ap, ◌∙◌, subst, ap₂, inl, inr, arith, drop-cons}
use lib.Seq.{drop-length}
use Rattle.std.proofs.lemmas.List.FromFn.{length-map-range_with_len, get_or-map-range_with_len}
use Rattle.std.proofs.lemmas.List.{get_or_past}
use Rattle.std.proofs.lemmas.Bool.{cases_eq, cases_lt}
use Rattle.records.specs.declared.parts.Loop.{Loop}
use Rattle.records.specs.declared.parts.Edge.{Edge}
use Rattle.task.specs.Graph.{loop_at, Within}
use Rattle.walks.specs.Walk.{innermost}
use Rattle.walks.proofs.Inside.{true_within, false_within, cases_within}
use Rattle.tally.specs.Laws.{Ops}
use Rattle.longest.specs.declared.ByRound.{ByRound}
use Rattle.longest.specs.declared.Cell.{Cell}
use Rattle.longest.specs.Charge.{Costs}
use Rattle.longest.specs.Search.{by_round, cell_of, none_yet, cell_at, value, round_of, turned, whole, closed_cell, closed, loop_done, loops_done, start_cell, start_cells}
use Rattle.longest.specs.Sizes.{Low}
use Rattle.longest.proofs.Shape.{Shape, head, limit, In, parent}
use Rattle.longest.proofs.Nest.{dec_in, inner_most, parent_less, parent_most}
use Rattle.longest.proofs.Pushes.{kind, kind_plus, reach_at, Alike, low_alike, round_alike, reach_outside}

module _ {T : Type 0} (m : Ops T) where
  abbrev pub blank : Cell T
  blank = cell_of 0 (none_yet m) (none_yet m)

  module _ (l : Loop) (st : T) (t : ByRound T) (s : List (Cell T)) where
    pub closed_long : length (closed m l st t s) ≡ length s
    closed_long = length-map-range_with_len (closed_cell m l st t s) 0 (length s)

    closed_at : (b : ℕ) → b < length s → cell_at m (closed m l st t s) b ≡ closed_cell m l st t s b
    closed_at b h = get_or-map-range_with_len (closed_cell m l st t s) 0 (length s) b b blank h (omega arith)

    pub closed_in : (b : ℕ) → b < length s → Within l b
        → cell_at m (closed m l st t s) b ≡ cell_of l.header (none_yet m)
        (by_round (whole m l.limit st t (value m s b)) (whole m l.limit st t (value m s b)))
    closed_in b h q = closed_at b h ∙ rw (true_within l b q, closed_cell)

    pub closed_out : (b : ℕ) → (Within l b → ⊥) → cell_at m (closed m l st t s) b ≡ cell_at m s b
    closed_out b q = elim (cases_lt b (length s)) [
      | inl h ↦ closed_at b h ∙ rw (false_within l b q, closed_cell)
      | inr h ↦ get_or_past (closed m l st t s) b blank (omega (arith, closed_long)) ∙ sym (get_or_past s b blank h)
    ]

    pub closed_low : Low m s → Low m (closed m l st t s)
    closed_low low a = elim (cases_within l a) [
      | inr o ↦ omega (arith, ap (λ (c : Cell T). c.anchor) (closed_out a o), low a)
      | inl i ↦ elim (cases_lt a (length s)) [
        | inl h ↦ omega (arith, ap (λ (c : Cell T). c.anchor) (closed_in a h i))
        | inr h ↦ omega (arith, ap (λ (c : Cell T). c.anchor) (get_or_past (closed m l st t s) a blank (omega (arith, closed_long))))
      ]
    ]

  pub start_at : (costs : Costs T) (n b : ℕ) → b < n → cell_at m (start_cells m costs n) b ≡ start_cell m costs b
  start_at costs n b h = get_or-map-range_with_len (start_cell m costs) 0 n b b blank h (omega arith)

  -- nothing is reached yet
  pub record Fresh (n : ℕ) (s : List (Cell T)) : Type 0 where
    pub long : length s ≡ n
    pub reach : (a : ℕ) → reach_at m s a ≡ none_yet m
    pub low : Low m s

  pub start_fresh : (costs : Costs T) (n : ℕ) → Fresh n (start_cells m costs n)
  start_fresh costs n =
      let long : length (start_cells m costs n) ≡ n = length-map-range_with_len (start_cell m costs) 0 n in
      record {
        long = long;
        reach = λ a. elim (cases_lt a n) [
          | inl h ↦ ap (λ (c : Cell T). c.reach) (start_at costs n a h)
          | inr h ↦ ap (λ (c : Cell T). c.reach) (get_or_past (start_cells m costs n) a blank (omega arith))
        ];
        low = λ a. elim (cases_lt a n) [
          | inl h ↦ omega (arith, ap (λ (c : Cell T). c.anchor) (start_at costs n a h))
          | inr h ↦ omega (arith, ap (λ (c : Cell T). c.anchor) (get_or_past (start_cells m costs n) a blank (omega arith)))
        ];
      }

  done_fresh : (es : List Edge) (l : Loop) (st : T) (n : ℕ) (s : List (Cell T)) → l.last < n → Fresh n s → Fresh n (loop_done m es l st s)
  done_fresh es l st n s h f =
      let r = round_of m l es s in
      let t = turned m l r es (none_yet m) in
      let q = round_alike m l es s (omega (arith, f.long)) in
      let long : length r ≡ n = q.long ∙ f.long in
      record {
        long = closed_long l st t r ∙ long;
        reach = λ a. elim (cases_within l a) [
          | inl i ↦ ap (λ (c : Cell T). c.reach) (closed_in l st t r a (omega arith) i)
          | inr o ↦ ap (λ (c : Cell T). c.reach) (closed_out l st t r a o) ∙ reach_outside m l es s a o ∙ f.reach a
        ];
        low = closed_low l st t r (low_alike m s r q f.low);
      }

module _ {T : Type 0} (m : Ops T) (costs : Costs T) (n : ℕ) (ls : List Loop) (es : List Edge) where
  -- the loops from i on are done
  abbrev pub held : ℕ → List (Cell T)
  held i = loops_done m es costs.stay (drop i ls) i (start_cells m costs n)

  -- a round of loop i
  abbrev pub passed : ℕ → List (Cell T)
  passed i = round_of m (loop_at ls i) es (held (suc i))

  abbrev pub turn_of : ℕ → ByRound T
  turn_of i = turned m (loop_at ls i) (passed i) es (none_yet m)

  -- the charge of a whole stay
  abbrev pub all_of : ℕ → ℕ → T
  all_of i b = (cell_at m (held i) b).weight.first

  abbrev pub whole_of : ℕ → ℕ → T
  whole_of i b = whole m (limit ls i) (costs.stay i) (turn_of i) (value m (passed i) b)

  pub held_is : (i : ℕ) → i < length ls → held i ≡ loop_done m es (loop_at ls i) (costs.stay i) (held (suc i))
  held_is i h = ap (λ x. loops_done m es costs.stay x i (start_cells m costs n)) (drop-cons ls i _ h)

  pub held_end : held (length ls) ≡ start_cells m costs n
  held_end = ap (λ x. loops_done m es costs.stay x (length ls) (start_cells m costs n)) (drop-length ls)

module _ {T : Type 0} (m : Ops T) (costs : Costs T) {n : ℕ} {ls : List Loop} {es : List Edge} (shape : Shape n ls es) where
  abbrev H : ℕ → List (Cell T)
  H i = held m costs n ls es i

  abbrev P : ℕ → List (Cell T)
  P i = passed m costs n ls es i

  fresh : (k i : ℕ) → i + k ≡ length ls → Fresh m n (H i)
  fresh zero i e =
      let u : length ls ≡ i = omega arith in
      subst (λ j. Fresh m n (H j)) u (subst (Fresh m n) (sym (held_end m costs n ls es)) (start_fresh m costs n))
  fresh (suc k) i e =
      let h : i < length ls = omega arith in
      subst (Fresh m n) (sym (held_is m costs n ls es i h))
      (done_fresh m es (loop_at ls i) (costs.stay i) n (H (suc i)) (shape.fits i h).1 (fresh k (suc i) (omega arith)))

  pub fresh_at : (i : ℕ) → i ≤ length ls → Fresh m n (H i)
  fresh_at i h = fresh (length ls - i) i (omega arith)

  pub passed_alike : (i : ℕ) → i < length ls → Alike m (H (suc i)) (P i)
  passed_alike i h = round_alike m (loop_at ls i) es (H (suc i)) (omega (arith, shape.fits i h, (fresh_at (suc i) h).long))

  pub passed_long : (i : ℕ) → i < length ls → length (P i) ≡ n
  passed_long i h = (passed_alike i h).long ∙ (fresh_at (suc i) h).long

  held_in : (i b : ℕ) → i < length ls → In ls i b
      → cell_at m (H i) b ≡ cell_of (head ls i) (none_yet m) (by_round (whole_of m costs n ls es i b) (whole_of m costs n ls es i b))
  held_in i b h q = ap (λ s. cell_at m s b) (held_is m costs n ls es i h)
      ∙ closed_in m (loop_at ls i) (costs.stay i) (turn_of m costs n ls es i) (P i) b (omega (arith, passed_long i h, shape.fits i h)) q

  held_out : (i b : ℕ) → i < length ls → (In ls i b → ⊥) → cell_at m (H i) b ≡ cell_at m (P i) b
  held_out i b h q = ap (λ s. cell_at m s b) (held_is m costs n ls es i h)
      ∙ closed_out m (loop_at ls i) (costs.stay i) (turn_of m costs n ls es i) (P i) b q

  pub all_is : (i b : ℕ) → i < length ls → In ls i b → all_of m costs n ls es i b ≡ whole_of m costs n ls es i b
  all_is i b h q = ap (λ (c : Cell T). c.weight.first) (held_in i b h q)

  -- b is in no loop from i on
  record Free (s : List (Cell T)) (i b : ℕ) : Type 0 where
    never : (j : ℕ) → i ≤ j → j < length ls → In ls j b → ⊥
    anchor : (cell_at m s b).anchor ≡ b
    weight : (cell_at m s b).weight ≡ by_round (costs.first b) (costs.later b)

  -- loop is the outermost from i on that has b
  record Done (s : List (Cell T)) (i b : ℕ) : Type 0 where
    loop : ℕ
    from : i ≤ loop
    less : loop < length ls
    has : In ls loop b
    never : (j : ℕ) → i ≤ j → j < loop → In ls j b → ⊥
    anchor : (cell_at m s b).anchor ≡ head ls loop
    weight : (cell_at m s b).weight ≡ by_round (all_of m costs n ls es loop b) (all_of m costs n ls es loop b)

  kept : (k i b : ℕ) → i + k ≡ length ls → b < n → Free (H i) i b ⊎ Done (H i) i b
  kept zero i b e l =
      let u : length ls ≡ i = omega arith in
      let w : Free (start_cells m costs n) (length ls) b = record {
        never = λ j x y q. omega arith;
        anchor = ap (λ (c : Cell T). c.anchor) (start_at m costs n b l);
        weight = ap (λ (c : Cell T). c.weight) (start_at m costs n b l);
      } in
      inl (subst (λ j. Free (H j) j b) u (subst (λ s. Free s (length ls) b) (sym (held_end m costs n ls es)) w))
  kept (suc k) i b e l =
      let h : i < length ls = omega arith in
      elim (dec_in ls i b) [
        | inl q ↦ (
            let whole_is = ap (λ x. by_round x x) (sym (all_is i b h q)) in
            inr record {
              loop = i;
              from = omega arith;
              less = h;
              has = q;
              never = λ j x y z. omega arith;
              anchor = ap (λ (c : Cell T). c.anchor) (held_in i b h q);
              weight = ap (λ (c : Cell T). c.weight) (held_in i b h q) ∙ whole_is;
            })
        | inr q ↦ (
            let a : (cell_at m (H i) b).anchor ≡ (cell_at m (H (suc i)) b).anchor =
            ap (λ (c : Cell T). c.anchor) (held_out i b h q) ∙ (passed_alike i h).anchor b in
            let v : (cell_at m (H i) b).weight ≡ (cell_at m (H (suc i)) b).weight =
            ap (λ (c : Cell T). c.weight) (held_out i b h q) ∙ (passed_alike i h).weight b in
            elim (kept k (suc i) b (omega arith) l) [
              | inl f ↦ inl record {
                never = λ j x y z. elim (cases_eq j i) [ inl u ↦ q (subst (λ o. In ls o b) u z) | inr u ↦ f.never j (omega arith) y z ];
                anchor = a ∙ f.anchor;
                weight = v ∙ f.weight;
              }
              | inr d ↦ inr record {
                loop = d.loop;
                from = omega (arith, d.from);
                less = d.less;
                has = d.has;
                never = λ j x y z. elim (cases_eq j i) [ inl u ↦ q (subst (λ o. In ls o b) u z) | inr u ↦ d.never j (omega arith) y z ];
                anchor = a ∙ d.anchor;
                weight = v ∙ d.weight;
              }
            ])
      ]

  kept_at : (i b : ℕ) → i ≤ length ls → b < n → Free (H i) i b ⊎ Done (H i) i b
  kept_at i b h l = kept (length ls - i) i b (omega arith) l

  -- a block directly in i
  free : (i b : ℕ) → i < length ls → i ≡ innermost ls b → b < n → Free (H (suc i)) (suc i) b
  free i b h u l = elim (kept_at (suc i) b h l)
      [ inl f ↦ f | inr d ↦ absurd (omega (arith, inner_most shape b d.loop d.less d.has, d.from)) ]

  -- a block of a loop i that lies directly in o
  done : (o i b : ℕ) → o ≡ parent ls i → 0 < i → i < length ls → In ls i b → ((cell_at m (H (suc o)) b).anchor ≡ head ls i)
      × ((cell_at m (H (suc o)) b).weight ≡ by_round (all_of m costs n ls es i b) (all_of m costs n ls es i b))
  done o i b u z h q =
      let l = parent_less shape i z in
      elim (kept_at (suc o) b (omega arith) (omega (arith, shape.fits i h))) [
        | inl f ↦ absurd (f.never i (omega arith) h q)
        | inr d ↦ (
            let e : d.loop ≡ i = elim (cases_lt d.loop i) [
              | inl x ↦ absurd (omega (arith, parent_most shape d.loop i b x h d.has q, d.from))
              | inr x ↦ elim (cases_lt i d.loop) [ inl y ↦ absurd (d.never i (omega arith) y q) | inr y ↦ omega arith ]
            ] in
            (d.anchor ∙ ap (head ls) e, d.weight ∙ ap (λ j. by_round (all_of m costs n ls es j b) (all_of m costs n ls es j b)) e))
      ]

  module _ (i : ℕ) (h : i < length ls) (k : Bool) where
    abbrev val : ℕ → T
    val b = kind k (value m (P i) b)

    abbrev arrives : ℕ → T
    arrives a = kind k (reach_at m (P i) a)

    val_at : (b a : ℕ) (x : ByRound T) → (cell_at m (H (suc i)) b).anchor ≡ a → (cell_at m (H (suc i)) b).weight ≡ x
        → val b ≡ m.plus (arrives a) (kind k x)
    val_at b a x u v =
        kind_plus m k (reach_at m (P i) (cell_at m (P i) b).anchor) (cell_at m (P i) b).weight
        ∙ ap₂ (λ y z. m.plus (arrives y) (kind k z)) ((passed_alike i h).anchor b ∙ u) ((passed_alike i h).weight b ∙ v)

    pub val_direct : (b : ℕ) → i ≡ innermost ls b → b < n → val b ≡ m.plus (arrives b) (kind k (by_round (costs.first b) (costs.later b)))
    val_direct b u l = let f = free i b h u l in val_at b b _ f.anchor f.weight

    pub val_child : (j b : ℕ) → i ≡ parent ls j → 0 < j → j < length ls → In ls j b
        → val b ≡ m.plus (arrives (head ls j)) (kind k (by_round (all_of m costs n ls es j b) (all_of m costs n ls es j b)))
    val_child j b u z g q = let d = done i j b u z g q in val_at b (head ls j) _ d.0 d.1
