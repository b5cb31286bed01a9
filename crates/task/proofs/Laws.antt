-- What a sound task's graph is like.
use Rattle.std.proofs.Common.{◌≡◌, ℕ, zero, suc, ◌<◌, ◌≤◌, ◌⊎◌, length, sym, refl, subst, inl, inr, lt_of_not-le, arith}
use mathlib.Core.Logic.Dec
use native.Mathlib.Decide.{dec_le, dec_lt, ℕ_discrete}
use Rattle.std.proofs.lemmas.Bool.{cases_lt, cases_eq, cases_order}
use Rattle.records.specs.declared.parts.Loop.{Loop}
use Rattle.records.specs.Contents.{Contents}
use Rattle.records.specs.Layout.{InFormat}
use Rattle.records.proofs.Ranges.{ranges}
use Rattle.task.specs.declared.fault.GraphRule.TheVariants.{LoopOrder, Depth, LimitProduct, BackEdge, LoopEntry, Unreached, NoBackEdge}
use Rattle.task.specs.Graph.{loop_at, edge_at, Within, levels, limits, Leads}
use Rattle.task.specs.Rules.{Cross, HeadsAround, Repeats, Sound}
use Rattle.task.specs.Laws.{Climbs, Laws}
use Rattle.task.specs.Laws.Climbs.{here, on}
use Rattle.task.proofs.Finite.{some_below}
use Rattle.task.proofs.Ranged.{loop_range_at}

-- an earlier loop l and a later one m that do not cross
apart : (l m : Loop) → l.header < m.header → (Cross l m → ⊥) → (m.last ≤ l.last) ⊎ (l.last < m.header)
apart l m h no-cross =
    elim (cases_lt l.last m.last) [
      | inr inside ↦ inl inside
      | inl past ↦
          elim (cases_lt l.last m.header) [
            | inl behind ↦ inr behind
            | inr shared ↦ absurd (no-cross (omega arith, shared, (λ i. absurd (omega arith)), λ i. absurd (omega arith)))
          ]
    ]

pub nested : (c : Contents) → Sound c → (i j : ℕ) → i < j → j < length c.loops
    → ((loop_at c.loops i).header < (loop_at c.loops j).header)
    × (((loop_at c.loops j).last ≤ (loop_at c.loops i).last) ⊎ ((loop_at c.loops i).last < (loop_at c.loops j).header))
nested c sound i j h l =
    let order : (loop_at c.loops i).header < (loop_at c.loops j).header = lt_of_not-le (λ more. sound LoopOrder j (l, inr (i, h, inl more))) in
    (order, apart (loop_at c.loops i) (loop_at c.loops j) order (λ x. sound LoopOrder j (l, inr (i, h, inr x))))

-- a loop headed by block b of loop i does not leave loop i
stays : (c : Contents) → Sound c → (i j p b : ℕ) → i < length c.loops → j < length c.loops
    → Within (loop_at c.loops i) b → (loop_at c.loops j).header ≡ b → Within (loop_at c.loops j) p → Within (loop_at c.loops i) p
stays c sound i j p b hi hj w e v =
    elim (cases_order i j) [
      | inl same ↦ subst (λ (k : ℕ). Within (loop_at c.loops k) p) (sym same) v
      | inr (inl less) ↦
          let n = nested c sound i j less hj in
          elim n.1 [ inl inside ↦ omega arith | inr behind ↦ absurd (omega arith) ]
      | inr (inr more) ↦ let n = nested c sound j i more hi in absurd (omega arith)
    ]

pub entered : (c : Contents) → Sound c → (i p b : ℕ) → i < length c.loops → Leads c.edges p b → Within (loop_at c.loops i) b
    → (Within (loop_at c.loops i) p → ⊥) → (b ≡ (loop_at c.loops i).header) × (p < b)
entered c sound i p b hi (k, hk, f, t) w out =
    elim (cases_lt p b) [
      | inr up ↦ absurd (sound BackEdge k (hk, omega arith, λ (j, hj, e, v). out (stays c sound i j p b hi hj w (omega arith) (omega arith))))
      | inl forward ↦
          elim (cases_eq b (loop_at c.loops i).header) [
            | inl same ↦ (same, forward)
            | inr aside ↦ absurd (sound LoopEntry k (hk, omega arith, (i, hi, (omega arith, (λ v. out (omega arith)), λ e. aside (omega arith)))))
          ]
    ]

within? : (l : Loop) (b : ℕ) → Dec (Within l b)
within? l b = Dec.and (dec_le l.header b) (dec_le b l.last)

pub back : (c : Contents) → Sound c → (p b : ℕ) → Leads c.edges p b → b ≤ p → HeadsAround c.loops b p
back c sound p b (k, hk, f, t) h =
    let At : ℕ → Type 0 = λ i. ((loop_at c.loops i).header ≡ b) × Within (loop_at c.loops i) p in
    let at? : (i : ℕ) → Dec (At i) = λ i. Dec.and (ℕ_discrete (loop_at c.loops i).header b) (within? (loop_at c.loops i) p) in
    let found = some_below At at? (length c.loops) (λ none. sound BackEdge k (hk, omega arith, λ (i, hi, e, v). none i hi (omega arith, omega arith))) in
    (found.0, found.1, found.2.0, found.2.1)

-- a lower block leads to every block above 0
pub lower : (c : Contents) → Sound c → (b : ℕ) → 0 < b → b < length c.blocks → (p : ℕ) × (p < b) × Leads c.edges p b
lower c sound b pos h =
    let At : ℕ → Type 0 = λ k. ((edge_at c.edges k).from < b) × ((edge_at c.edges k).to ≡ b) in
    let at? : (k : ℕ) → Dec (At k) = λ k. Dec.and (dec_lt (edge_at c.edges k).from b) (ℕ_discrete (edge_at c.edges k).to b) in
    let found = some_below At at? (length c.edges) (λ none. sound Unreached b (pos, h, λ p l (k, hk, f, t). none k hk (omega arith, t))) in
    ((edge_at c.edges found.0).from, found.2.0, (found.0, found.1, refl, found.2.1))

pub repeats : (c : Contents) → Sound c → (i : ℕ) → i < length c.loops → 1 < (loop_at c.loops i).limit → Repeats c.edges (loop_at c.loops i)
repeats c sound i hi h =
    let l = loop_at c.loops i in
    let At : ℕ → Type 0 = λ k. ((edge_at c.edges k).to ≡ l.header) × Within l (edge_at c.edges k).from in
    let at? : (k : ℕ) → Dec (At k) = λ k. Dec.and (ℕ_discrete (edge_at c.edges k).to l.header) (within? l (edge_at c.edges k).from) in
    let found = some_below At at? (length c.edges) (λ none. sound NoBackEdge i (hi, h, λ (p, (k, hk, f, t), w). none k hk (t, omega arith))) in
    ((edge_at c.edges found.0).from, (found.0, found.1, refl, found.2.0), found.2.1)

-- the blocks below n are reached
reached_below : (c : Contents) → Sound c → (n b : ℕ) → b < n → b < length c.blocks → Climbs c.edges (λ _. Unit {0}) 0 b
reached_below c sound zero b h l = absurd (omega arith)
reached_below c sound (suc n) zero h l = here tt
reached_below c sound (suc n) (suc a) h l =
    let low = lower c sound (suc a) (omega arith) l in
    on (reached_below c sound n low.0 (omega arith) (omega arith)) low.1 low.2 tt

pub reached : (c : Contents) → Sound c → (b : ℕ) → b < length c.blocks → Climbs c.edges (λ _. Unit {0}) 0 b
reached c sound b h = reached_below c sound (suc b) b (omega arith) h

-- the blocks of loop i below n are reached inside it
climbed_below : (c : Contents) → InFormat c → Sound c → (i : ℕ) → i < length c.loops → (n b : ℕ) → b < n → Within (loop_at c.loops i) b
    → Climbs c.edges (Within (loop_at c.loops i)) (loop_at c.loops i).header b
climbed_below c format sound i hi zero b h w = absurd (omega arith)
climbed_below c format sound i hi (suc n) b h w =
    let l = loop_at c.loops i in
    elim (cases_eq b l.header) [
      | inl same ↦ subst (Climbs c.edges (Within l) l.header) (sym same) (here (omega arith))
      | inr above ↦
          let range = loop_range_at c format i hi in
          let low = lower c sound b (omega arith) (omega (arith, (ranges c format).some)) in
          elim (within? l low.0) [
            | yes v ↦ on (climbed_below c format sound i hi n low.0 (omega arith) v) low.1 low.2 w
            | no out ↦ absurd (above (entered c sound i low.0 b hi low.2 w out).0)
          ]
    ]

pub climbed : (c : Contents) → InFormat c → Sound c → (i b : ℕ) → i < length c.loops → Within (loop_at c.loops i) b
    → Climbs c.edges (Within (loop_at c.loops i)) (loop_at c.loops i).header b
climbed c format sound i b hi w = climbed_below c format sound i hi (suc b) b (omega arith) w

pub shallow : (c : Contents) → Sound c → (b : ℕ) → b < length c.blocks → (levels c.loops b ≤ 8) × (limits c.loops b ≤ 1000000)
shallow c sound b h =
    let few : levels c.loops b < 9 = lt_of_not-le (λ above. sound Depth b (h, above)) in
    let small : limits c.loops b < 1000001 = lt_of_not-le (λ above. sound LimitProduct b (h, above)) in
    (omega arith, omega arith)

pub laws : (c : Contents) → InFormat c → Sound c → Laws c
laws c format sound =
    record {
      entered = entered c sound;
      back = back c sound;
      nested = nested c sound;
      reached = reached c sound;
      climbed = climbed c format sound;
      repeats = repeats c sound;
      shallow = shallow c sound;
    }
