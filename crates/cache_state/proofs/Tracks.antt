-- States follow the cache. Nothing here asks that a fetch distributes over joins.
use Rattle.std.proofs.Common.{◌≡◌, ℕ, ◌≤◌, List, [], ◌∷◌, length, sym, refl, ap, ◌∙◌, subst, inl, inr, arith, length-set}
use Rattle.std.proofs.lemmas.Bool.{cases_eq}
use Rattle.records.specs.declared.parts.Geometry.{Geometry}
use Rattle.records.specs.declared.parts.Block.{Block}
use Rattle.records.specs.declared.parts.Loop.{Loop}
use Rattle.records.specs.Contents.{Contents}
use Rattle.task.specs.Graph.{block_at, loop_at, Within, Leads}
use Rattle.walks.specs.Walk.{Walk, rounds, task_loop, all_loops}
use Rattle.walks.proofs.Inside.{cases_within, rounds_head, rounds_on, rounds_out}
use Rattle.facts.specs.Kind.{Kind}
use Rattle.facts.specs.Laws.{Above, Lawful}
use Rattle.facts.specs.Settling.{Region, region_of, leads_in, starts, state_at, end_state, gathered, entry_state, task_states, first_states}
use Rattle.facts.specs.Meaning.{walk_state, Ends}
use Rattle.facts.proofs.Order.{above_allows}
use Rattle.facts.proofs.Places.{at_entering}
use Rattle.facts.proofs.Settled.{ends}
use Rattle.facts.proofs.Rounds.{Bounded, bounded, Sealed, loop_sealed, stays_inside, rounds_some}
use Rattle.facts.proofs.Exact.{entry_open, entry_gathered, gathered_above}
use Rattle.cache_state.specs.Cache.{Cache, slot_of, fetch_cache, fetch_all, fetch_lines, walk_cache}
use Rattle.cache_state.specs.Fetching.{Fetching}
use Rattle.cache_state.specs.Meaning.{Tracks, Sound}

module _ (g : Geometry) where
  pub length-fetch_all : (ts : List ℕ) (c : Cache) → length (fetch_all (fetch_cache g) ts c) ≡ length c
  length-fetch_all [] c = refl
  length-fetch_all (t ∷ ts) c = length-fetch_all ts (fetch_cache g t c) ∙ length-set c (slot_of g t) t

  pub length-walk_cache : (bs : List Block) (w : List ℕ) (c : Cache) → length (walk_cache g bs w c) ≡ length c
  length-walk_cache bs [] c = refl
  length-walk_cache bs (p ∷ w) c = length-fetch_all (fetch_lines g (block_at bs p)) (walk_cache g bs w c) ∙ length-walk_cache bs w c

module _ {K : Type 0} {g : Geometry} {k : Kind K} {fetched : ℕ → K → K} (laws : Lawful k) (fetching : Fetching g k fetched) where
  pub fetches_follow : (ts : List ℕ) (x : K) (c : Cache) → length c ≡ g.slots → k.allows x c → k.allows (fetch_all fetched ts x) (fetch_all (fetch_cache g) ts c)
  fetches_follow [] x c l a = a
  fetches_follow (t ∷ ts) x c l a =
      fetches_follow ts (fetched t x) (fetch_cache g t c) (length-set c (slot_of g t) t ∙ l) (fetching.follows t x c l a)

  pub passing_follows : (b : ℕ) (d : Block) (x : K) (c : Cache) → length c ≡ g.slots → k.allows x c
      → k.allows (k.passed b d x) (fetch_all (fetch_cache g) (fetch_lines g d) c)
  passing_follows b d x c l a =
      subst (λ y. k.allows y (fetch_all (fetch_cache g) (fetch_lines g d) c)) (sym (fetching.passing b d x)) (fetches_follow (fetch_lines g d) x c l a)

  -- an allowed cache is tracked
  pub tracked : (x : K) (c : Cache) → length c ≡ g.slots → k.allows x c → Tracks g k fetched x c
  tracked x c l a = record {
    allowed = a;
    hits = λ ts t s. (fetching.held (fetch_all (fetch_cache g) ts c) t).0
        (laws.sound (fetch_all fetched ts x) t (fetch_all (fetch_cache g) ts c) s (fetches_follow ts x c l a));
  }

  module _ (start : Cache) (long : length start ≡ g.slots) where
    walk_allows : (bs : List Block) (w : List ℕ) → k.allows (walk_state k bs w) (walk_cache g bs w start)
    walk_allows bs [] = laws.every start
    walk_allows bs (p ∷ w) =
        passing_follows p (block_at bs p) (walk_state k bs w) (walk_cache g bs w start) (length-walk_cache g bs w start ∙ long) (walk_allows bs w)

    module _ (c : Contents) (bound : Bounded c) where
      end_allows : (xs : List K) (p : ℕ) (w : List ℕ) → k.allows (state_at k xs p) (walk_cache g c.blocks w start)
          → k.allows (end_state k c.blocks xs p) (walk_cache g c.blocks (p ∷ w) start)
      end_allows xs p w =
          passing_follows p (block_at c.blocks p) (state_at k xs p) (walk_cache g c.blocks w start) (length-walk_cache g c.blocks w start ∙ long)

      whole : Ends k (region_of c.blocks c.edges (task_loop c)) k.open_state
      whole = let s = bound.some in ends laws (region_of c.blocks c.edges (task_loop c)) k.open_state (omega arith) (omega arith)

      task_allows : (w : List ℕ) (b : ℕ) → Walk c.edges 0 w b → k.allows (state_at k (task_states k c).0 b) (walk_cache g c.blocks w start)
      task_allows [] b e = subst (λ x. k.allows x start) (sym (ap (state_at k (task_states k c).0) e ∙ whole.fixed)) (laws.every start)
      task_allows (p ∷ w) b m =
          let f = bound.from p b m.1 in
          let t = bound.to p b m.1 in
          above_allows laws (state_at k (task_states k c).0 b) (end_state k c.blocks (task_states k c).0 p) (walk_cache g c.blocks (p ∷ w) start)
          (whole.still p b m.1 (omega arith, omega arith) (omega arith, omega arith) (λ e. bound.start p (subst (Leads c.edges p) e m.1)))
          (end_allows (task_states k c).0 p w (task_allows w p m.0))

      module _ (l : Loop) (closed : Sealed c l) where
        abbrev Round : Region
        Round = region_of c.blocks c.edges l

        abbrev entry : K
        entry = entry_state k Round (task_states k c).0

        entry_allows : (p : ℕ) (w : List ℕ) → Walk c.edges 0 w p → Leads c.edges p l.header → (Within l p → ⊥)
            → k.allows entry (walk_cache g c.blocks (p ∷ w) start)
        entry_allows p w m lead out =
            let joined : K = gathered k c.blocks (task_states k c).0 k.nothing_yet (starts (leads_in l) c.edges) in
            subst (λ x. k.allows x (walk_cache g c.blocks (p ∷ w) start))
            (sym (entry_gathered k Round (task_states k c).0 (λ e. bound.start p (subst (Leads c.edges p) e lead))))
            (above_allows laws joined (end_state k c.blocks (task_states k c).0 p) (walk_cache g c.blocks (p ∷ w) start)
            (at_entering c.edges l (λ q. Above k joined (end_state k c.blocks (task_states k c).0 q))
            (gathered_above laws c.blocks (task_states k c).0 k.nothing_yet (starts (leads_in l) c.edges)) p (lead, out))
            (end_allows (task_states k c).0 p w (task_allows w p m)))

        round : l.header ≤ l.last → Ends k Round entry
        round o = ends laws Round entry o closed.fits

        first_allows : (w : List ℕ) (b : ℕ) → Walk c.edges 0 w b → Within l b → rounds l (b ∷ w) ≡ 1
            → k.allows (state_at k (first_states k c l).0 b) (walk_cache g c.blocks w start)
        first_allows [] b e i o =
            let h = closed.first (subst (Within l) e i) in
            subst (λ x. k.allows x start)
            (sym (ap (state_at k (first_states k c l).0) (e ∙ sym h) ∙ (round (omega arith)).fixed ∙ entry_open k Round (task_states k c).0 h)) (laws.every start)
        first_allows (p ∷ w) b m i o = elim (cases_eq b l.header) [
          | inl e ↦ elim (cases_within l p) [
            | inl j ↦ (let s = rounds_some c l closed w p m.0 j in let q = rounds_head l (p ∷ w) b i e in absurd (omega arith))
            | inr j ↦ subst (λ x. k.allows x (walk_cache g c.blocks (p ∷ w) start))
                (sym (ap (state_at k (first_states k c l).0) e ∙ (round (omega arith)).fixed))
                (entry_allows p w m.0 (subst (Leads c.edges p) e m.1) j)
          ]
          | inr ne ↦
              (let j = stays_inside c l closed p b m.1 i ne in
              above_allows laws (state_at k (first_states k c l).0 b) (end_state k c.blocks (first_states k c l).0 p) (walk_cache g c.blocks (p ∷ w) start)
              ((round (omega arith)).still p b m.1 j i ne)
              (end_allows (first_states k c l).0 p w (first_allows w p m.0 j (sym (rounds_on l (p ∷ w) b i ne) ∙ o))))
        ]

  pub sound : Sound g k fetched
  sound = record {
    walked = λ bs w start long. tracked (walk_state k bs w) (walk_cache g bs w start) (length-walk_cache g bs w start ∙ long) (walk_allows start long bs w);
    settled = λ c format graph b w start long m.
        tracked (state_at k (task_states k c).0 b) (walk_cache g c.blocks w start) (length-walk_cache g c.blocks w start ∙ long)
        (task_allows start long c (bounded c format graph) w b m);
    first = λ c format graph i b w start few long m o.
        tracked (state_at k (first_states k c (loop_at (all_loops c) i)).0 b) (walk_cache g c.blocks w start) (length-walk_cache g c.blocks w start ∙ long)
        (first_allows start long c (bounded c format graph) (loop_at (all_loops c) i) (loop_sealed c format graph i few) w b m (inside (loop_at (all_loops c) i) w b o) o);
  }
    where
      inside : (l : Loop) (w : List ℕ) (b : ℕ) → rounds l (b ∷ w) ≡ 1 → Within l b
      inside l w b o = elim (cases_within l b) [ inl i ↦ i | inr j ↦ (let z = rounds_out l w b j in absurd (omega arith)) ]
