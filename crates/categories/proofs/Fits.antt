-- The tests of the categories say what the categories mean.
use Rattle.std.proofs.Common.{◌≡◌, ℕ, ◌<◌, Bool, true, false, not, ◌&&◌, ◌||◌, eqb, ◌↔◌, List, [], ◌∷◌, length, take, sym, refl, ap, ◌∙◌, subst, inl, inr, arith}
use Rattle.std.proofs.lemmas.Bool.{false≢true, cases_eq, eqb-true, eqb-false, eq-eqb, ne_eqb, and_parts, and_from, or_cases, or_left, or_right, not-true, not_from_false}
use Rattle.std.specs.List.{list_all}
use Rattle.records.specs.declared.parts.Geometry.{Geometry}
use Rattle.records.specs.declared.parts.Loop.{Loop}
use Rattle.records.specs.Contents.{Contents}
use Rattle.records.specs.Layout.{InFormat}
use Rattle.task.specs.Graph.{loop_at, edge_at, within, Within, Leads}
use Rattle.walks.specs.Walk.{Walk, rounds, all_loops, Among}
use Rattle.facts.specs.Kind.{Kind}
use Rattle.facts.specs.Meaning.{walk_state, Exact}
use Rattle.facts.specs.Settling.{starts, blocks_of}
use Rattle.facts.proofs.Order.{through_none}
use Rattle.cache_state.specs.Cache.{slot_of, fetch_all}
use Rattle.run.specs.Run.{lines_of}
use Rattle.categories.specs.declared.category.Category.{Category}
use Rattle.categories.specs.declared.category.Category.TheVariants.{AlwaysHit, FirstMiss, FirstHit, AlwaysMiss}
use Rattle.categories.specs.Category.{fetches_of, line_of, apart, alone, leads_back, gated, passed_by, first_fitting, sure_fetch, sure_always, sure_first, category_of}
use Rattle.categories.specs.Meaning.{PassedExactly, Passing, order, First, Fitting, Means}
use Rattle.categories.proofs.Grounds.{Grounds}
use Rattle.categories.proofs.Lists.{all-at, all_from, among_blocks, blocks_among, among_lines, lines_among, among_starts, starts_among}
use Rattle.categories.proofs.Loops.{within_true, true_within, within_below, walk_below}
use Rattle.categories.proofs.States.{through_fetches}

-- lines apart in their slots, or one
module _ (g : Geometry) (t u : ℕ) where
  apart_true : apart g t u ≡ true → slot_of g u ≡ slot_of g t → u ≡ t
  apart_true e s = elim (or_cases (not (eqb (slot_of g u) (slot_of g t))) (eqb u t) e) [
    | inl q ↦ absurd (eqb-false (slot_of g u) (slot_of g t) (not-true (eqb (slot_of g u) (slot_of g t)) q) s)
    | inr q ↦ eqb-true u t q
  ]

  true_apart : (slot_of g u ≡ slot_of g t → u ≡ t) → apart g t u ≡ true
  true_apart h = elim (cases_eq (slot_of g u) (slot_of g t)) [
    | inl e ↦ or_right (not (eqb (slot_of g u) (slot_of g t))) (eqb u t) (eq-eqb u t (h e))
    | inr ne ↦ or_left (not (eqb (slot_of g u) (slot_of g t))) (eqb u t) (not_from_false (eqb (slot_of g u) (slot_of g t)) (ne_eqb (slot_of g u) (slot_of g t) ne))
  ]

-- no fetch of the loop has another line of t's slot
module _ (c : Contents) (l : Loop) (t : ℕ) where
  abbrev pub Alone : Type 0
  Alone = (d h : ℕ) → Within l d → h < fetches_of c d → slot_of c.header.geometry (line_of c d h) ≡ slot_of c.header.geometry t → line_of c d h ≡ t

  pub alone_exact : (alone c l t ≡ true) ↔ Alone
  alone_exact = (
    λ e d h m few. apart_true c.header.geometry t (line_of c d h)
        (all-at (apart c.header.geometry t) (lines_of c d) (line_of c d h)
        (all-at (λ b. list_all (apart c.header.geometry t) (lines_of c b)) (blocks_of l) d e (among_blocks l d m)) (among_lines c d h few)),
    λ f. all_from (λ b. list_all (apart c.header.geometry t) (lines_of c b)) (blocks_of l)
        (λ b m. all_from (apart c.header.geometry t) (lines_of c b)
        (λ u q. (let r = lines_among c b u q in
        true_apart c.header.geometry t u
        (λ s. r.2 ∙ f b r.0 (blocks_among l b m) r.1 (ap (slot_of c.header.geometry) (sym r.2) ∙ s))))),
  )

  -- the same of all lines of its blocks
  pub alone_lines : Alone → (d u : ℕ) → Within l d → Among u (lines_of c d) → slot_of c.header.geometry u ≡ slot_of c.header.geometry t → u ≡ t
  alone_lines f d u m q s =
      let r = lines_among c d u q in
      r.2 ∙ f d r.0 m r.1 (ap (slot_of c.header.geometry) (sym r.2) ∙ s)

-- the first category that fits
first_exact : (Fits : Category → Type 0) (hit miss later : Bool) → ((hit ≡ true) ↔ Fits AlwaysHit) → ((miss ≡ true) ↔ Fits FirstMiss)
    → ((later ≡ true) ↔ Fits FirstHit) → Fits AlwaysMiss → First Fits (first_fitting hit miss later)
first_exact Fits true miss later h a f m = record { fits = h.0 refl; first = λ y less. absurd (omega arith) }
first_exact Fits false true later h a f m = record { fits = a.0 refl; first = below }
  where
    below : (y : Category) → order y < 1 → Fits y → ⊥
    below AlwaysHit less x = false≢true (h.1 x)
    below FirstMiss less x = omega arith
    below FirstHit less x = omega arith
    below AlwaysMiss less x = omega arith
first_exact Fits false false true h a f m = record { fits = f.0 refl; first = below }
  where
    below : (y : Category) → order y < 2 → Fits y → ⊥
    below AlwaysHit less x = false≢true (h.1 x)
    below FirstMiss less x = false≢true (a.1 x)
    below FirstHit less x = omega arith
    below AlwaysMiss less x = omega arith
first_exact Fits false false false h a f m = record { fits = m; first = below }
  where
    below : (y : Category) → order y < 3 → Fits y → ⊥
    below AlwaysHit less x = false≢true (h.1 x)
    below FirstMiss less x = false≢true (a.1 x)
    below FirstHit less x = false≢true (f.1 x)
    below AlwaysMiss less x = omega arith

-- a kind of facts about blocks passed tells the blocks that every walk has passed
module _ {P : Type 0} (p : Kind P) (c : Contents) (format : InFormat c) (passing : Passing p c) where
  walk_passed : (w : List ℕ) (x b : ℕ) → Walk c.edges 0 w x → b < length c.blocks → (p.sure (walk_state p c.blocks w) b ≡ true) ↔ Among b w
  walk_passed [] x b e h = (λ s. passing.none b h s, λ m. absurd m)
  walk_passed (q ∷ w) x b m h =
      let r = walk_passed w q b m.0 h in
      let one = passing.one q b (walk_state p c.blocks w) (walk_below c format w q m.0) h in (
        λ s. elim (one.0 s) [ inl e ↦ inl e | inr y ↦ inr (r.0 y) ],
        λ y. one.1 (elim y [ inl e ↦ inl e | inr z ↦ inr (r.1 z) ]),
      )

  pub passed_exactly : Exact p c → PassedExactly (passed_by p c) c
  passed_exactly exact x b small h =
      let r = (exact.whole x small).sure (λ y. y) through_none b in (
        λ s w m. (walk_passed w x b m h).0 (r.0 s (walk_state p c.blocks w) (w, m, refl)),
        λ f. r.1 (λ y q. subst (λ z. p.sure z b ≡ true) (sym q.2) ((walk_passed q.0 x b q.1 h).1 (f q.0 q.1))),
      )

module _ {K : Type 0} (k : Kind K) (fetched : ℕ → K → K) (passed : ℕ → ℕ → Bool) (c : Contents) (grounds : Grounds k fetched passed c) where
  -- always a hit: on every walk
  pub always_exact : (b j : ℕ) → b < length c.blocks
      → (sure_always k fetched c b j ≡ true) ↔ ((w : List ℕ) → Walk c.edges 0 w b → sure_fetch k fetched c (walk_state k c.blocks w) b j ≡ true)
  always_exact b j h =
      let r = (grounds.settled.exact.whole b h).sure (fetch_all fetched (take j (lines_of c b)))
      (through_fetches grounds.fetching grounds.distributes (take j (lines_of c b))) (line_of c b j) in (
        λ s w m. r.0 s (walk_state k c.blocks w) (w, m, refl),
        λ f. r.1 (λ y q. subst (λ z. sure_fetch k fetched c z b j ≡ true) (sym q.2) (f q.0 q.1)),
      )

  module _ (i b : ℕ) (known : i < length (all_loops c)) (inside : Within (loop_at (all_loops c) i) b) where
    abbrev l : Loop
    l = loop_at (all_loops c) i

    -- on every walk that stands in the first round of a stay
    pub sure_first_exact : (j : ℕ)
        → (sure_first k fetched c l b j ≡ true)
        ↔ ((w : List ℕ) → Walk c.edges 0 w b → rounds l (b ∷ w) ≡ 1 → sure_fetch k fetched c (walk_state k c.blocks w) b j ≡ true)
    sure_first_exact j =
        let r = (grounds.settled.exact.first i b known inside).sure (fetch_all fetched (take j (lines_of c b)))
        (through_fetches grounds.fetching grounds.distributes (take j (lines_of c b))) (line_of c b j) in (
          λ s w m o. r.0 s (walk_state k c.blocks w) (w, m, o, refl),
          λ f. r.1 (λ y q. subst (λ z. sure_fetch k fetched c z b j ≡ true) (sym q.3) (f q.0 q.1 q.2)),
        )

    back_edge : (x : ℕ) → Within l x → Leads c.edges x l.header → Among x (starts (leads_back l) c.edges)
    back_edge x m d =
        subst (λ y. Among y (starts (leads_back l) c.edges)) d.2
        (among_starts (leads_back l) c.edges d.0 d.1
        (and_from (eqb (edge_at c.edges d.0).to l.header) (within l (edge_at c.edges d.0).from)
        (eq-eqb (edge_at c.edges d.0).to l.header d.3)
        (ap (within l) d.2 ∙ true_within l x m)))

    edge_back : (x : ℕ) → Among x (starts (leads_back l) c.edges) → Within l x × Leads c.edges x l.header
    edge_back x m =
        let r = starts_among (leads_back l) c.edges x m in
        let p = and_parts (eqb (edge_at c.edges r.0).to l.header) (within l (edge_at c.edges r.0).from) r.2 in (
          subst (Within l) r.3 (within_true l (edge_at c.edges r.0).from p.1),
          (r.0, r.1, r.3, eqb-true (edge_at c.edges r.0).to l.header p.0),
        )

    -- every walk to a block with an edge back passes the block
    pub gated_exact : (gated passed c l b ≡ true)
        ↔ ((x : ℕ) (w : List ℕ) → Walk c.edges 0 w x → Within l x → Leads c.edges x l.header → Among b (x ∷ w))
    gated_exact =
        let small = within_below c grounds.settled.format i b known inside in (
          λ e x w m h d. elim (or_cases (eqb b x) (passed x b) (all-at (λ y. eqb b y || passed y b) (starts (leads_back l) c.edges) x e (back_edge x h d))) [
            | inl q ↦ inl (eqb-true b x q)
            | inr q ↦ inr ((grounds.settled.gates x b (within_below c grounds.settled.format i x known h) small).0 q w m)
          ],
          λ f. all_from (λ y. eqb b y || passed y b) (starts (leads_back l) c.edges)
              (λ x m. (let r = edge_back x m in
              elim (cases_eq b x) [
                | inl e ↦ or_left (eqb b x) (passed x b) (eq-eqb b x e)
                | inr ne ↦ or_right (eqb b x) (passed x b)
                    ((grounds.settled.gates x b (within_below c grounds.settled.format i x known r.0) small).1
                    (λ w walk. elim (f x w walk r.0 r.1) [ inl e ↦ absurd (ne e) | inr y ↦ y ]))
              ])),
        )

    pub category_first : (j : ℕ) → First (Fitting k fetched c b j l) (category_of k fetched c passed b j l)
    category_first j =
        first_exact (Fitting k fetched c b j l) (sure_always k fetched c b j) (alone c l (line_of c b j)) (gated passed c l b && sure_first k fetched c l b j)
        (always_exact b j (within_below c grounds.settled.format i b known inside))
        (alone_exact c l (line_of c b j)) (
          λ e. (let p = and_parts (gated passed c l b) (sure_first k fetched c l b j) e in (gated_exact.0 p.0, (sure_first_exact j).0 p.1)),
          λ f. and_from (gated passed c l b) (sure_first k fetched c l b j) (gated_exact.1 f.0) ((sure_first_exact j).1 f.1),
        )
        tt

  pub means : Means k fetched c passed
  means b j i small few known inside = category_first i b known inside j
