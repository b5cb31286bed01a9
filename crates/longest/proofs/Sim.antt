-- The sizes of what a search holds are not above what it holds where every cost is the greatest size.
use Rattle.std.proofs.Common.{◌≡◌, ℕ, zero, suc, ◌+◌, ◌*◌, ◌<◌, ◌≤◌, List, [], ◌∷◌, length, set, sym, refl, ap, ◌∙◌, subst, ap₂, inl, inr, le_trans, suc-mul, mul-le-mul, zero-mul, arith, length-set, get_or-set_other, get_or-set_same}
use Rattle.std.specs.List.{AllByRecursion}
use Rattle.std.proofs.lemmas.List.FromFn.{length-map-range_with_len}
use Rattle.std.proofs.lemmas.List.{get_or_past}
use Rattle.std.proofs.lemmas.Bool.{cases_Bool, cases_eq, cases_lt, cond_both, ltb-false}
use Rattle.records.specs.declared.parts.Loop.{Loop}
use Rattle.records.specs.declared.parts.Edge.{Edge}
use Rattle.walks.proofs.Inside.{cases_within}
use Rattle.tally.specs.Laws.{Ops, TallyLaws, repeated}
use Rattle.tally.specs.Kinds.{cycles}
use Rattle.tally.specs.Lawful.{cycles_lawful}
use Rattle.longest.specs.declared.ByRound.{ByRound}
use Rattle.longest.specs.declared.Cell.{Cell}
use Rattle.longest.specs.Charge.{Costs}
use Rattle.longest.specs.Search.{forward, backward, greater, none_yet, plus_both, greater_both, cell_at, value, pushed, round_of, turned, before, whole, closed, loop_done, loops_done, start_cell, start_cells}
use Rattle.longest.proofs.Sums.{greater_left, greater_right}
use Rattle.longest.proofs.Pushes.{raised, pushed_yes, pushed_no, forward_parts, round_alike}
use Rattle.longest.proofs.Tables.{blank, closed_long, closed_in, closed_out, start_at}
use Rattle.longest.proofs.Local.{whole_one, whole_more, once, often}

module _ {T : Type 0} {m : Ops T} {size : T → ℕ} (laws : TallyLaws m size) where
  pub size_times : (n : ℕ) (x : T) → size (m.times n x) ≡ n * size x
  size_times n x = ap size (laws.multiple n x) ∙ again n
    where
      again : (n : ℕ) → size (repeated m n x) ≡ n * size x
      again zero = laws.size_none ∙ sym (zero-mul (size x))
      again (suc n) = omega (arith, laws.size_plus (repeated m n x) x, again n, suc-mul n (size x))

  size_greater : (x y : T) (a b : ℕ) → size x ≤ a → size y ≤ b → size (greater m x y) ≤ greater cycles a b
  size_greater x y a b p q =
      let l = ltb-false (greater cycles a b) a (greater_left cycles_lawful a b) in
      let r = ltb-false (greater cycles a b) b (greater_right cycles_lawful a b) in
      cond_both (m.below x y) y x (λ z. size z ≤ greater cycles a b) (λ _. le_trans q r) (λ _. le_trans p l)

  -- sizes, in a first and in a later round, where the numbers do not tell the two apart
  pub record Sized (x : ByRound T) (y : ByRound ℕ) : Type 0 where
    pub first : size x.first ≤ y.first
    pub later : size x.later ≤ y.later
    pub even : y.first ≡ y.later

  pub record CellSized (x : Cell T) (y : Cell ℕ) : Type 0 where
    pub anchor : x.anchor ≡ y.anchor
    pub reach : Sized x.reach y.reach
    pub weight : Sized x.weight y.weight

  pub record Sim (s : List (Cell T)) (u : List (Cell ℕ)) : Type 0 where
    pub long : length s ≡ length u
    pub at : (b : ℕ) → CellSized (cell_at m s b) (cell_at cycles u b)

  sized_none : Sized (none_yet m) (none_yet cycles)
  sized_none = record { first = omega (arith, laws.size_none); later = omega (arith, laws.size_none); even = refl }

  sized_plus : (x y : ByRound T) (a b : ByRound ℕ) → Sized x a → Sized y b → Sized (plus_both m x y) (plus_both cycles a b)
  sized_plus x y a b p q = record {
    first = omega (arith, laws.size_plus x.first y.first, p.first, q.first);
    later = omega (arith, laws.size_plus x.later y.later, p.later, q.later);
    even = ap₂ (λ c d. c + d) p.even q.even;
  }

  sized_greater : (x y : ByRound T) (a b : ByRound ℕ) → Sized x a → Sized y b → Sized (greater_both m x y) (greater_both cycles a b)
  sized_greater x y a b p q = record {
    first = size_greater x.first y.first a.first b.first p.first q.first;
    later = size_greater x.later y.later a.later b.later p.later q.later;
    even = ap₂ (greater cycles) p.even q.even;
  }

  blank_sized : CellSized (blank m) (blank cycles)
  blank_sized = record { anchor = refl; reach = sized_none; weight = sized_none }

  pub sized_value : (s : List (Cell T)) (u : List (Cell ℕ)) → Sim s u → (b : ℕ) → Sized (value m s b) (value cycles u b)
  sized_value s u q b =
      let a = (cell_at m s b).anchor in
      sized_plus (cell_at m s a).reach (cell_at m s b).weight (cell_at cycles u (cell_at cycles u b).anchor).reach
      (cell_at cycles u b).weight
      (subst (λ c. Sized (cell_at m s a).reach (cell_at cycles u c).reach) (q.at b).anchor (q.at a).reach)
      (q.at b).weight

  sim_set : (s : List (Cell T)) (u : List (Cell ℕ)) (b : ℕ) (x : Cell T) (y : Cell ℕ) → Sim s u → b < length s → CellSized x y
      → Sim (set s b x) (set u b y)
  sim_set s u b x y q h c = record {
    long = length-set s b x ∙ q.long ∙ sym (length-set u b y);
    at = λ a. elim (cases_eq a b) [
      | inl e ↦ (
          let v : cell_at m (set s b x) a ≡ x = ap (cell_at m (set s b x)) e ∙ get_or-set_same s b x (blank m) h in
          let w : cell_at cycles (set u b y) a ≡ y =
          ap (cell_at cycles (set u b y)) e ∙ get_or-set_same u b y (blank cycles) (omega (arith, q.long)) in
          subst (λ d. CellSized d (cell_at cycles (set u b y) a)) (sym v) (subst (CellSized x) (sym w) c))
      | inr e ↦ (
          let v = get_or-set_other s b a x (blank m) e in
          let w = get_or-set_other u b a y (blank cycles) e in
          subst (λ d. CellSized d (cell_at cycles (set u b y) a)) (sym v) (subst (CellSized (cell_at m s a)) (sym w) (q.at a)))
    ];
  }

  module _ (l : Loop) where
    sim_pushed : (e : Edge) (s : List (Cell T)) (u : List (Cell ℕ)) → Sim s u → l.last < length s
        → Sim (pushed m l e s) (pushed cycles l e u)
    sim_pushed e s u q h = elim (cases_Bool (forward l e)) [
      | inr t ↦ subst (λ v. Sim v (pushed cycles l e u)) (sym (pushed_no m l e s t)) (subst (Sim s) (sym (pushed_no cycles l e u t)) q)
      | inl t ↦ (
          let to = e.to in
          let c : CellSized (raised m l e s) (raised cycles l e u) = record {
            anchor = (q.at to).anchor;
            reach = sized_greater (cell_at m s to).reach (value m s e.from) (cell_at cycles u to).reach (value cycles u e.from)
                (q.at to).reach (sized_value s u q e.from);
            weight = (q.at to).weight;
          } in
          subst (λ v. Sim v (pushed cycles l e u)) (sym (pushed_yes m l e s t))
          (subst (Sim (set s to (raised m l e s))) (sym (pushed_yes cycles l e u t))
          (sim_set s u to _ _ q (omega (arith, forward_parts l e t)) c)))
    ]

    pub sim_round : (es : List Edge) (s : List (Cell T)) (u : List (Cell ℕ)) → Sim s u → l.last < length s
        → Sim (round_of m l es s) (round_of cycles l es u)
    sim_round [] s u q h = q
    sim_round (e ∷ es) s u q h = sim_round es (pushed m l e s) (pushed cycles l e u) (sim_pushed e s u q h)
        (omega (arith, (round_alike m l (e ∷ []) s h).long))

    pub sim_turned : (s : List (Cell T)) (u : List (Cell ℕ)) → Sim s u → (es : List Edge) (x : ByRound T) (y : ByRound ℕ) → Sized x y
        → Sized (turned m l s es x) (turned cycles l u es y)
    sim_turned s u q [] x y c = c
    sim_turned s u q (e ∷ es) x y c = elim (cases_Bool (backward l e)) [
      | inl t ↦ rw (t, turned) (sim_turned s u q es (greater_both m x (value m s e.from))
          (greater_both cycles y (value cycles u e.from))
          (sized_greater x (value m s e.from) y (value cycles u e.from) c (sized_value s u q e.from)))
      | inr t ↦ rw (t, turned) (sim_turned s u q es x y c)
    ]

  pub size_before : (st : T) (t : ByRound T) (a : ℕ) (c : ByRound ℕ) → size st ≤ a → Sized t c → (r : ℕ)
      → size (before m st t r) ≤ before cycles a c r
  size_before st t a c p q zero = omega (arith, laws.size_none)
  size_before st t a c p q (suc zero) = p
  size_before st t a c p q (suc (suc r)) =
      let x = m.times r t.later in
      let y : r * size t.later ≤ r * c.later = mul-le-mul (omega arith) q.later in
      omega (arith, laws.size_plus st (m.plus t.first x), laws.size_plus t.first x, size_times r t.later, q.first)

  size_whole : (most : ℕ) (st : T) (t x : ByRound T) (a : ℕ) (c y : ByRound ℕ) → size st ≤ a → Sized t c → Sized x y
      → size (whole m most st t x) ≤ whole cycles most a c y
  size_whole most st t x a c y p q v =
      let one : size (m.plus st x.first) ≤ a + y.first = omega (arith, laws.size_plus st x.first, v.first) in
      let all : size (m.plus (before m st t most) x.later) ≤ before cycles a c most + y.later =
      omega (arith, laws.size_plus (before m st t most) x.later, size_before st t a c p q most, v.later) in
      elim (cases_lt 1 most) [
        | inr l ↦ subst (λ z. size z ≤ whole cycles most a c y) (sym (whole_one laws most st t x l))
            (subst (λ z. size (m.plus st x.first) ≤ z) (sym (whole_one cycles_lawful most a c y l)) one)
        | inl l ↦ subst (λ z. size z ≤ whole cycles most a c y) (sym (whole_more laws most st t x l))
            (subst (λ z. size (greater m (once laws most st t x) (often laws most st t x)) ≤ z)
            (sym (whole_more cycles_lawful most a c y l)) (size_greater _ _ _ _ one all))
      ]

  module _ (l : Loop) (st : T) (a : ℕ) (cheap : size st ≤ a) where
    sim_closed : (t : ByRound T) (c : ByRound ℕ) (s : List (Cell T)) (u : List (Cell ℕ)) → Sized t c → Sim s u
        → Sim (closed m l st t s) (closed cycles l a c u)
    sim_closed t c s u p q = record {
      long = closed_long m l st t s ∙ q.long ∙ sym (closed_long cycles l a c u);
      at = λ b. elim (cases_lt b (length s)) [
        | inr h ↦ (
            let v = get_or_past (closed m l st t s) b (blank m) (omega (arith, closed_long m l st t s)) in
            let w = get_or_past (closed cycles l a c u) b (blank cycles) (omega (arith, closed_long cycles l a c u, q.long)) in
            subst (λ d. CellSized d (cell_at cycles (closed cycles l a c u) b)) (sym v) (subst (CellSized (blank m)) (sym w) blank_sized))
        | inl h ↦ elim (cases_within l b) [
          | inr o ↦ (
              let v = closed_out m l st t s b o in
              let w = closed_out cycles l a c u b o in
              subst (λ d. CellSized d (cell_at cycles (closed cycles l a c u) b)) (sym v)
              (subst (CellSized (cell_at m s b)) (sym w) (q.at b)))
          | inl i ↦ (
              let v = closed_in m l st t s b h i in
              let w = closed_in cycles l a c u b (omega (arith, q.long)) i in
              let z = size_whole l.limit st t (value m s b) a c (value cycles u b) cheap p (sized_value s u q b) in
              subst (λ d. CellSized d (cell_at cycles (closed cycles l a c u) b)) (sym v)
              (subst (CellSized _) (sym w) record
              { anchor = refl; reach = sized_none; weight = record { first = z; later = z; even = refl } }))
        ]
      ];
    }

    sim_done : (es : List Edge) (s : List (Cell T)) (u : List (Cell ℕ)) → Sim s u → l.last < length s
        → Sim (loop_done m es l st s) (loop_done cycles es l a u)
    sim_done es s u q h =
        let r = sim_round l es s u q h in
        sim_closed _ _ _ _ (sim_turned l _ _ r es (none_yet m) (none_yet cycles) sized_none) r

    done_long : (es : List Edge) (s : List (Cell T)) → l.last < length s → length (loop_done m es l st s) ≡ length s
    done_long es s h = closed_long m l st (turned m l (round_of m l es s) es (none_yet m)) (round_of m l es s) ∙ (round_alike m l es s h).long

  pub sized_turn : (l : Loop) (es : List Edge) (s : List (Cell T)) (u : List (Cell ℕ)) → Sim s u
      → Sized (turned m l s es (none_yet m)) (turned cycles l u es (none_yet cycles))
  sized_turn l es s u q = sim_turned l s u q es (none_yet m) (none_yet cycles) sized_none

  -- the loops, their numbers from i on
  module _ (es : List Edge) (stay : ℕ → T) (a : ℕ) where
    record LoopsSim (n : ℕ) (s : List (Cell T)) (u : List (Cell ℕ)) : Type 0 where
      sim : Sim s u
      long : length s ≡ n

    loops_sim : (n : ℕ) (ls : List Loop) (i : ℕ) → ((j : ℕ) → i ≤ j → j < i + length ls → size (stay j) ≤ a) → AllByRecursion (λ l. l.last < n) ls
        → (s : List (Cell T)) (u : List (Cell ℕ)) → LoopsSim n s u
        → LoopsSim n (loops_done m es stay ls i s) (loops_done cycles es (λ _. a) ls i u)
    loops_sim n [] i cheap h s u q = q
    loops_sim n (l ∷ ls) i cheap h s u q =
        let r = loops_sim n ls (suc i) (λ j x y. cheap j (omega arith) (omega arith)) h.1 s u q in
        let room : l.last < length (loops_done m es stay ls (suc i) s) = omega (arith, h.0, r.long) in
        record {
          sim = sim_done l (stay i) a (cheap i (omega arith) (omega arith)) es _ _ r.sim room;
          long = done_long l (stay i) a (cheap i (omega arith) (omega arith)) es _ room ∙ r.long;
        }

    pub sim_loops : (n : ℕ) (ls : List Loop) (i : ℕ) → ((j : ℕ) → i ≤ j → j < i + length ls → size (stay j) ≤ a) → AllByRecursion (λ l. l.last < n) ls
        → (s : List (Cell T)) (u : List (Cell ℕ)) → Sim s u → length s ≡ n
        → Sim (loops_done m es stay ls i s) (loops_done cycles es (λ _. a) ls i u)
    sim_loops n ls i cheap h s u q e = (loops_sim n ls i cheap h s u (record { sim = q; long = e })).sim

  pub sim_start : (n : ℕ) (costs : Costs T) (a : ℕ) → ((b : ℕ) → b < n → (size (costs.first b) ≤ a) × (size (costs.later b) ≤ a))
      → Sim (start_cells m costs n) (start_cells cycles (record { first = λ _. a; later = λ _. a; stay = λ _. a }) n)
  sim_start n costs a cheap =
      let even : Costs ℕ = record { first = λ _. a; later = λ _. a; stay = λ _. a } in
      let long = length-map-range_with_len (start_cell m costs) 0 n in
      let long' = length-map-range_with_len (start_cell cycles even) 0 n in
      record {
        long = long ∙ sym long';
        at = λ b. elim (cases_lt b n) [
          | inl h ↦ (
              let c = cheap b h in
              subst (λ d. CellSized d (cell_at cycles (start_cells cycles even n) b)) (sym (start_at m costs n b h))
              (subst (CellSized (start_cell m costs b)) (sym (start_at cycles even n b h)) record
              { anchor = refl; reach = sized_none; weight = record { first = c.0; later = c.1; even = refl } }))
          | inr h ↦ subst (λ d. CellSized d (cell_at cycles (start_cells cycles even n) b))
              (sym (get_or_past (start_cells m costs n) b (blank m) (omega arith)))
              (subst (CellSized (blank m)) (sym (get_or_past (start_cells cycles even n) b (blank cycles) (omega arith))) blank_sized)
        ];
      }
