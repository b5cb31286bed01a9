-- Where every cost is below 2 to the 32nd, every sum of the search is below 2 to the 63rd.
use Rattle.std.proofs.Common.{◌≡◌, ℕ, zero, suc, ◌+◌, ◌*◌, ◌^◌, ◌<◌, ◌≤◌, true, false, List, length, drop, sym, refl, subst, inl, inr, arith, length-drop}
use Rattle.std.specs.List.{AllByRecursion}
use Rattle.std.proofs.ByRecursion.{All-from_get_or, All-drop}
use Rattle.std.proofs.lemmas.Bool.{cases_eq, ltb-false, lt-ltb}
use Rattle.records.specs.declared.parts.Loop.{Loop}
use Rattle.records.specs.declared.parts.Edge.{Edge}
use Rattle.records.specs.Contents.{Contents}
use Rattle.records.specs.Layout.{InFormat}
use Rattle.records.proofs.Ranges.{ranges}
use Rattle.task.specs.Graph.{loop_at, edge_at}
use Rattle.task.specs.Rules.{Sound}
use Rattle.task.proofs.Laws.{shallow}
use Rattle.walks.specs.Walk.{all_loops}
use Rattle.tally.specs.Laws.{Ops, TallyLaws}
use Rattle.tally.specs.Kinds.{cycles}
use Rattle.tally.specs.Lawful.{cycles_lawful}
use Rattle.longest.specs.declared.ByRound.{ByRound}
use Rattle.longest.specs.Charge.{Costs}
use Rattle.longest.specs.Search.{value, before, table_from}
use Rattle.longest.specs.Sizes.{Cheap, LoopSmall, StaysSmall, Ready}
use Rattle.longest.proofs.Shape.{Shape, shape, head, limit, In, parent}
use Rattle.longest.proofs.Nest.{head_block, heads, back_in, parent_less, parent_in}
use Rattle.longest.proofs.Sums.{Le}
use Rattle.longest.proofs.Found.{Covers, is_later}
use Rattle.longest.proofs.Reached.{attained}
use Rattle.longest.proofs.Pushes.{kind, backward_parts}
use Rattle.longest.proofs.Tables.{held, passed, turn_of, all_of, start_fresh, fresh_at}
use Rattle.longest.proofs.Local.{found, covers, attains}
use Rattle.longest.proofs.Counts.{deep}
use Rattle.longest.proofs.Lengths.{even, charge_few}
use Rattle.longest.proofs.Sim.{Sim, sim_start, sim_loops, sim_round, sized_value, sized_turn, size_before}

-- where every cost is s
module _ {n : ℕ} {ls : List Loop} {es : List Edge} (shape : Shape n ls es) (s : ℕ) where
  abbrev level : Covers cycles (even s) n ls es (found cycles_lawful (even s) shape)
  level = covers cycles_lawful (even s) shape

  abbrev all : ℕ → ℕ → ℕ
  all i b = all_of cycles (even s) n ls es i b

  abbrev val : ℕ → ℕ → ByRound ℕ
  val i b = value cycles (passed cycles (even s) n ls es i) b

  abbrev turn : ℕ → ByRound ℕ
  turn i = turn_of cycles (even s) n ls es i

  one_round : (i b : ℕ) → i < length ls → In ls i b → s + (val i b).first ≤ all i b
  one_round i b h q = ltb-false (all i b) (s + (val i b).first) (level.stays i 1 b h (omega arith) (shape.fits i h).2 q)

  all-rounds : (i b : ℕ) → i < length ls → In ls i b → 1 < limit ls i → before cycles s (turn i) (limit ls i) + (val i b).later ≤ all i b
  all-rounds i b h q l =
      let u : Le cycles (before cycles s (turn i) (limit ls i) + kind (is_later (limit ls i)) (val i b)) (all i b) =
      level.stays i (limit ls i) b h (omega arith) (omega arith) q in
      let v : Le cycles (before cycles s (turn i) (limit ls i) + kind true (val i b)) (all i b) =
      subst (λ k. Le cycles (before cycles s (turn i) (limit ls i) + kind k (val i b)) (all i b)) (lt-ltb 1 (limit ls i) l) u in
      ltb-false (all i b) (before cycles s (turn i) (limit ls i) + (val i b).later) v

  -- an inner stay is part of an outer one
  inward : (k i b : ℕ) → i ≤ k → i < length ls → In ls i b → all i b ≤ all 0 b
  inward zero i b l h q = let e : 0 ≡ i = omega arith in subst (λ j. all j b ≤ all 0 b) e (omega arith)
  inward (suc k) i b l h q = elim (cases_eq i 0) [
    | inl e ↦ subst (λ j. all j b ≤ all 0 b) (sym e) (omega arith)
    | inr e ↦ (
        let z : 0 < i = omega arith in
        let o = parent ls i in
        let p = parent_less shape i z in
        let qo = parent_in shape i b z h q in
        let c : Le cycles ((found cycles_lawful (even s) shape).ent i false + all i b) (val o b).first =
        level.child o i b false refl z h q in
        let d = ltb-false (val o b).first ((found cycles_lawful (even s) shape).ent i false + all i b) c in
        omega (arith, d, one_round o b (omega arith) qo, inward k o b (omega arith) (omega arith) qo))
  ]

  pub all-few : (t : ℕ) → ((x : ℕ) → x < n → deep shape 1 x ≤ t) → (i b : ℕ) → i < length ls → In ls i b → all i b ≤ n * t * (s + s)
  all-few t few i b h q =
      let bl : b < n = omega (arith, shape.fits i h) in
      let a = attained cycles_lawful shape (attains cycles_lawful (even s) shape) b bl in
      omega (arith, inward i i b (omega arith) h q, a.1.charged, charge_few shape s t few a.0 b a.1.walk a.1.limited)

module _ {T : Type 0} {m : Ops T} {size : T → ℕ} (laws : TallyLaws m size) (costs : Costs T) {n : ℕ} {ls : List Loop} {es : List Edge}
    (shape : Shape n ls es) (s : ℕ) (cheap : (b : ℕ) → b < n → (size (costs.first b) ≤ s) × (size (costs.later b) ≤ s))
    (cheap-stay : (i : ℕ) → i < length ls → size (costs.stay i) ≤ s) where
  held_sim : (i : ℕ) → i ≤ length ls → Sim laws (held m costs n ls es i) (held cycles (even s) n ls es i)
  held_sim i h =
      let fits : AllByRecursion (λ l. l.last < n) ls =
      All-from_get_or (λ l. l.last < n) ls (record { header = 0; last = 0; limit = 0 }) (λ j l. (shape.fits j l).1) in
      sim_loops laws es costs.stay s n (drop i ls) i (λ j x y. cheap-stay j (omega (arith, length-drop i ls))) (All-drop _ i ls fits) _ _
      (sim_start laws n costs s cheap) (start_fresh m costs n).long

  pub small_at : (t : ℕ) → ((x : ℕ) → x < n → deep shape 1 x ≤ t) → n * t * (s + s) < 2 ^ 63 → (i : ℕ) → i < length ls
      → LoopSmall m size es (loop_at ls i) (costs.stay i) (held m costs n ls es (suc i))
  small_at t few room i h b q =
      let sim = held_sim (suc i) h in
      let round = sim_round laws (loop_at ls i) es (held m costs n ls es (suc i)) (held cycles (even s) n ls es (suc i)) sim
      (omega (arith, shape.fits i h, (fresh_at m costs shape (suc i) h).long)) in
      let v = sized_value laws (passed m costs n ls es i) (passed cycles (even s) n ls es i) round b in
      let u = sized_turn laws (loop_at ls i) es (passed m costs n ls es i) (passed cycles (even s) n ls es i) round in
      let most = all-few shape s t few i b h q in
      let one = one_round shape s i b h q in
      record {
        one = omega (arith, v.first, cheap-stay i h);
        later = omega (arith, v.later, v.even);
        all = λ l. omega (
          arith,
          size_before laws (costs.stay i) (turn_of m costs n ls es i) s (turn_of cycles (even s) n ls es i)
              (cheap-stay i h) u (limit ls i),
          v.later,
          all-rounds shape s i b h q l,
        );
      }

pub stays_small : {T : Type 0} {m : Ops T} {size : T → ℕ} → TallyLaws m size → StaysSmall m size
stays_small laws costs c format sound cheap =
    let graph = shape c format sound in
    let r = ranges c format in
    small_at laws costs graph (2 ^ 32) (λ b h. (omega (arith, cheap.first b h), omega (arith, cheap.later b h)))
    (λ i h. omega (arith, cheap.stay i h)) 1000000 (λ x h. (shallow c sound x h).1) (omega (arith, r.few_blocks))

-- every loop can be done when those behind it are
pub ready : {T : Type 0} {m : Ops T} {size : T → ℕ} → TallyLaws m size → (costs : Costs T) (c : Contents) → InFormat c → Sound c
    → Cheap size costs c
    → (i : ℕ) → i < length (all_loops c) → Ready m size c.edges (loop_at (all_loops c) i) (costs.stay i) (table_from m costs c (suc i))
ready {m = m} laws costs c format sound cheap i h =
    let graph = shape c format sound in
    let ls = all_loops c in
    let before = fresh_at m costs graph (suc i) h in
    record {
      low = before.low;
      room = omega (arith, graph.fits i h, before.long);
      some = (graph.fits i h).2;
      sorted = graph.sorted;
      backs = λ j l t.
          let p = backward_parts (loop_at ls i) (edge_at c.edges j) t in
          let from = (edge_at c.edges j).from in
          let q = (back_in graph from (head ls i) (j, l, refl, p.0) p.1).1 in
          (subst (λ o. In ls o from) (sym (heads graph (head ls i) i h refl (head_block graph i h))) q).1;
      small = stays_small laws costs c format sound cheap i h;
    }
