-- Settled states against the walks of a task.
use Rattle.std.proofs.Common.{◌≡◌, ℕ, suc, ◌<◌, ◌⊎◌, List, [], ◌∷◌, length, sym, refl, ap, ◌∙◌, subst, inl, inr, arith}
use Rattle.std.specs.List.{AllByRecursion}
use Rattle.std.proofs.lemmas.Bool.{cases_eq, eq-eqb, ne_eqb}
use Rattle.records.specs.declared.parts.Block.{Block}
use Rattle.records.specs.declared.parts.Loop.{Loop}
use Rattle.records.specs.Contents.{Contents}
use Rattle.records.specs.Layout.{InFormat}
use Rattle.task.specs.Graph.{block_at, loop_at, Within, Leads}
use Rattle.task.specs.Laws.{Laws}
use Rattle.walks.specs.Walk.{Walk, rounds, task_loop, all_loops}
use Rattle.walks.proofs.Inside.{cases_within, rounds_head, rounds_on, rounds_out}
use Rattle.facts.specs.Kind.{Kind}
use Rattle.facts.specs.Laws.{Above, Lawful, Distributing}
use Rattle.facts.specs.Settling.{Region, region_of, leads_in, starts, state_at, end_state, gathered, task_states, entry_state, first_states}
use Rattle.facts.specs.Meaning.{walk_state, Standing, StandingFirst, Least, Exact}
use Rattle.facts.proofs.Order.{above_then, above_left, above_right, above_through, passing}
use Rattle.facts.proofs.Joined.{Joined, none_of, one_of, two_of, joined_weaker, joined_through}
use Rattle.facts.proofs.Places.{Enters, all_entering, at_entering}
use Rattle.facts.proofs.Settled.{carried, Course, Reaches, settled_joined, settled_least, least_same}
use Rattle.facts.proofs.Rounds.{Bounded, bounded, Sealed, loop_sealed, stays_inside, rounds_some}

pub walk_carried : {K : Type 0} (k : Kind K) (bs : List Block) (w : List ℕ) → walk_state k bs w ≡ carried k bs k.open_state w
walk_carried k bs [] = refl
walk_carried k bs (p ∷ w) = ap (k.passed p (block_at bs p)) (walk_carried k bs w)

-- the two ways in which stays begin
module _ {K : Type 0} (k : Kind K) (r : Region) (xs : List K) where
  pub entry_open : r.range.header ≡ 0 → entry_state k r xs ≡ k.open_state
  entry_open e = let t = eq-eqb r.range.header 0 e in rw (t, entry_state)

  pub entry_gathered : (r.range.header ≡ 0 → ⊥)
      → entry_state k r xs ≡ gathered k r.blocks xs k.nothing_yet (starts (leads_in r.range) r.edges)
  entry_gathered e = let t = ne_eqb r.range.header 0 e in rw (t, entry_state)

-- a join of end states lies above each of them, and above what they were joined into
module _ {K : Type 0} {k : Kind K} (laws : Lawful k) (bs : List Block) (xs : List K) where
  pub gathered_over : (x : K) (ps : List ℕ) → Above k (gathered k bs xs x ps) x
  gathered_over x [] = laws.idem x
  gathered_over x (p ∷ ps) = above_then laws (gathered_over (k.joined x (end_state k bs xs p)) ps) (above_left laws x (end_state k bs xs p))

  pub gathered_above : (x : K) (ps : List ℕ) → AllByRecursion (λ p. Above k (gathered k bs xs x ps) (end_state k bs xs p)) ps
  gathered_above x [] = tt
  gathered_above x (p ∷ ps) = (
    above_then laws (gathered_over (k.joined x (end_state k bs xs p)) ps) (above_right laws x (end_state k bs xs p)),
    gathered_above (k.joined x (end_state k bs xs p)) ps,
  )

  gathered_joined : (W : K → Type 0) (ps : List ℕ) → AllByRecursion (λ p. Joined k W (end_state k bs xs p)) ps → (x : K) → Joined k W x → Joined k W (gathered k bs xs x ps)
  gathered_joined W [] a x j = j
  gathered_joined W (p ∷ ps) a x j = gathered_joined W ps a.1 (k.joined x (end_state k bs xs p)) (two_of j a.0)

module _ {K : Type 0} {k : Kind K} (laws : Lawful k) (dist : Distributing k) (c : Contents) (bound : Bounded c) where
  abbrev Whole : Region
  Whole = region_of c.blocks c.edges (task_loop c)

  -- the walks of the task are the ways of its loop
  walk_course : (w : List ℕ) (b : ℕ) → Walk c.edges 0 w b → Course Whole w b
  walk_course [] b e = e
  walk_course (p ∷ w) b m = (
    walk_course w p m.0,
    (
      m.1,
      (omega arith, (let f = bound.from p b m.1 in omega arith)),
      λ e. bound.start p (subst (Leads c.edges p) e m.1),
    ),
  )

  course_walk : (w : List ℕ) (b : ℕ) → Course Whole w b → Walk c.edges 0 w b
  course_walk [] b e = e
  course_walk (p ∷ w) b m = (course_walk w p m.0, m.1.0)

  standing : (b : ℕ) (y : K) → Reaches k Whole (λ x. x ≡ k.open_state) b y → Standing k c b y
  standing b y t =
      (t.1, course_walk t.1 b t.3, t.4 ∙ ap (λ x. carried k c.blocks x t.1) t.2 ∙ sym (walk_carried k c.blocks t.1))

  reaching : (b : ℕ) (y : K) → Standing k c b y → Reaches k Whole (λ x. x ≡ k.open_state) b y
  reaching b y s = (k.open_state, s.0, refl, walk_course s.0 b s.1, s.2 ∙ walk_carried k c.blocks s.0)

  task_joined : (b : ℕ) → Joined k (Standing k c b) (state_at k (task_states k c).0 b)
  task_joined b =
      let s = bound.some in
      joined_weaker (standing b)
      (settled_joined laws Whole k.open_state (omega arith) (omega arith) dist (λ x. x ≡ k.open_state) (one_of refl) b)

  pub task_least : (b : ℕ) → b < length c.blocks → Least k (Standing k c b) (state_at k (task_states k c).0 b)
  task_least b l =
      let s = bound.some in
      least_same (standing b) (reaching b)
      (settled_least laws Whole k.open_state (omega arith) (omega arith) dist (λ x. x ≡ k.open_state) (one_of refl)
      (λ x e. subst (Above k k.open_state) (sym e) (laws.idem k.open_state)) b (omega arith, omega arith))

  -- the first round of a loop
  module _ (l : Loop) (closed : Sealed c l) where
    abbrev Round : Region
    Round = region_of c.blocks c.edges l

    abbrev entry : K
    entry = entry_state k Round (task_states k c).0

    -- the states in which a stay can begin
    abbrev Begins : K → Type 0
    Begins x =
        ((l.header ≡ 0) × (x ≡ k.open_state))
        ⊎ ((p : ℕ) × (w : List ℕ) × (l.header ≡ 0 → ⊥) × Enters c.edges l p × Walk c.edges 0 w p × (x ≡ walk_state k c.blocks (p ∷ w)))

    entry_joined : Joined k Begins entry
    entry_joined = elim (cases_eq l.header 0) [
      | inl e ↦ subst (Joined k Begins) (sym (entry_open k Round (task_states k c).0 e)) (one_of (inl (e, refl)))
      | inr e ↦ subst (Joined k Begins) (sym (entry_gathered k Round (task_states k c).0 e))
          (gathered_joined laws c.blocks (task_states k c).0 Begins (starts (leads_in l) c.edges)
          (all_entering c.edges l (λ p. Joined k Begins (end_state k c.blocks (task_states k c).0 p)) (λ p i.
          joined_through (passing laws dist p (block_at c.blocks p))
          (λ y s. inr (p, s.0, e, i, s.1, ap (k.passed p (block_at c.blocks p)) s.2)) (task_joined p)))
          k.nothing_yet none_of)
    ]

    entry_above : (x : K) → Begins x → Above k entry x
    entry_above x (inl (e, o)) = subst (λ y. Above k y x) (sym (entry_open k Round (task_states k c).0 e)) (subst (Above k k.open_state) (sym o) (laws.idem k.open_state))
    entry_above x (inr (p, w, e, i, m, q)) =
        subst (λ y. Above k y x) (sym (entry_gathered k Round (task_states k c).0 e)) (subst (Above k (gathered k c.blocks (task_states k c).0 k.nothing_yet (starts (leads_in l) c.edges))) (sym q)
        (above_then laws
        (at_entering c.edges l (λ r. Above k (gathered k c.blocks (task_states k c).0 k.nothing_yet (starts (leads_in l) c.edges)) (end_state k c.blocks (task_states k c).0 r))
        (gathered_above laws c.blocks (task_states k c).0 k.nothing_yet (starts (leads_in l) c.edges)) p i)
        (above_through (passing laws dist p (block_at c.blocks p))
        ((task_least p (bound.from p l.header i.0)).above (walk_state k c.blocks w) (w, m, refl)))))

    -- a walk that stands in the first round is a way of the loop from where its stay began
    first_in : (w : List ℕ) (b : ℕ) → Walk c.edges 0 w b → Within l b → rounds l (b ∷ w) ≡ 1 → Reaches k Round Begins b (walk_state k c.blocks w)
    first_in [] b e i o = let h = closed.first (subst (Within l) e i) in (k.open_state, [], inl (h, refl), e ∙ sym h, refl)
    first_in (p ∷ w) b m i o = elim (cases_eq b l.header) [
      | inl e ↦ elim (cases_within l p) [
        | inl j ↦ (let s = rounds_some c l closed w p m.0 j in let q = rounds_head l (p ∷ w) b i e in absurd (omega arith))
        | inr j ↦ (
          walk_state k c.blocks (p ∷ w),
          [],
          inr (p, w, (λ z. bound.start p (subst (Leads c.edges p) (e ∙ z) m.1)), (subst (Leads c.edges p) e m.1, j), m.0, refl),
          e,
          refl,
        )
      ]
      | inr ne ↦
          (let j = stays_inside c l closed p b m.1 i ne in
          let r = first_in w p m.0 j (sym (rounds_on l (p ∷ w) b i ne) ∙ o) in
          (r.0, p ∷ r.1, r.2, (r.3, (m.1, j, ne)), ap (k.passed p (block_at c.blocks p)) r.4))
    ]

    first_begin : (x : K) (b : ℕ) → Within l b → Begins x → b ≡ l.header → StandingFirst k c l b x
    first_begin x b i (inl (h, o)) e = ([], e ∙ h, rounds_head l [] b i e, o)
    first_begin x b i (inr (p, w, h, (lead, out), m, o)) e =
        (p ∷ w, (m, subst (Leads c.edges p) (sym e) lead), rounds_head l (p ∷ w) b i e ∙ ap suc (rounds_out l w p out), o)

    first_out : (x : K) (v : List ℕ) (b : ℕ) → Within l b → Begins x → Course Round v b → StandingFirst k c l b (carried k c.blocks x v)
    first_out x [] b i s e = first_begin x b i s e
    first_out x (p ∷ v) b i s (m, (lead, j, ne)) =
        let q = first_out x v p j s m in
        (p ∷ q.0, (q.1, lead), rounds_on l (p ∷ q.0) b i ne ∙ q.2, ap (k.passed p (block_at c.blocks p)) q.3)

    pub first_least : (b : ℕ) → Within l b → Least k (StandingFirst k c l b) (state_at k (first_states k c l).0 b)
    first_least b i =
        let f = closed.fits in
        least_same
        (λ y t. subst (StandingFirst k c l b) (sym t.4) (first_out t.0 t.1 b i t.2 t.3))
        (λ y s. subst (Reaches k Round Begins b) (sym s.3) (first_in s.0 b s.1 i s.2))
        (settled_least laws Round entry (omega arith) f dist Begins entry_joined entry_above b i)

pub exact : {K : Type 0} {k : Kind K} → Lawful k → Distributing k → (c : Contents) → InFormat c → Laws c → Exact k c
exact laws dist c format graph = record {
  whole = task_least laws dist c (bounded c format graph);
  first = λ i b l. first_least laws dist c (bounded c format graph) (loop_at (all_loops c) i) (loop_sealed c format graph i l) b;
}
