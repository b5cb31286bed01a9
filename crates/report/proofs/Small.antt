-- No task's load is cut off at 64 bits.
use Rattle.std.proofs.Common.{ℕ, zero, suc, ◌+◌, ◌-◌, ◌*◌, ◌^◌, ◌<◌, ◌≤◌, Bool, true, false, cond, ltb, List, [], ◌∷◌, length, add-mul, le-mul_of_pos_right, arith}
use Rattle.std.proofs.lemmas.Nat.{div_below}
use Rattle.records.specs.declared.parts.Loop.{Loop}
use Rattle.records.specs.Contents.{Contents}
use Rattle.records.specs.Layout.{InFormat}
use Rattle.records.proofs.Ranges.{ranges}
use Rattle.task.specs.Graph.{loop_at}
use Rattle.task.specs.Rules.{Sound}
use Rattle.task.proofs.Laws.{shallow}
use Rattle.walks.specs.Walk.{all_loops, innermost, rounds, begins}
use Rattle.longest.specs.Charge.{Costs, begun, charge, Greatest}
use Rattle.longest.proofs.Shape.{shape}
use Rattle.longest.proofs.Lengths.{even, charge_few}
use Rattle.categories.specs.Category.{Marks}
use Rattle.categories.specs.Costs.{pays_first, pays_later, cycle_costs, cycle_tally}
use Rattle.categories.proofs.Sizes.{entry_few, stay_few}
use Rattle.slot_kind.specs.Slots.{slot_kind, slots_fetched}
use Rattle.examine.specs.Examined.{Warranted}
use Rattle.listing.specs.Load.{load_of}
use Rattle.listing.proofs.Loads.{twice, nearest}
use Rattle.report.specs.Reported.{slot_findings, Worthy}
use Rattle.report.proofs.Hits.{always_hit}

-- dearer entries and stays make a charge no smaller
cond_most : (t : Bool) (a b x y : ℕ) → a ≤ x → b ≤ y → cond t a b ≤ cond t x y
cond_most true a b x y h k = h
cond_most false a b x y h k = k

module _ (costs : Costs ℕ) (ls : List Loop) (s : ℕ) (entries : (b : ℕ) → (costs.first b ≤ s) × (costs.later b ≤ s))
    (stays : (i : ℕ) → i < length ls → costs.stay i ≤ s) where
  begun_most : (n : ℕ) → n ≤ length ls → (b : ℕ) (w : List ℕ) → begun cycle_tally costs ls n b w ≤ begun cycle_tally (even s) ls n b w
  begun_most zero h b w = omega arith
  begun_most (suc n) h b w =
      omega (arith, begun_most n (omega arith) b w, cond_most (begins (loop_at ls n) b w) (costs.stay n) 0 s 0 (stays n h) (omega arith))

  charge_most : (w : List ℕ) → charge cycle_tally costs ls w ≤ charge cycle_tally (even s) ls w
  charge_most [] = omega arith
  charge_most (b ∷ w) =
      let late : Bool = ltb 1 (rounds (loop_at ls (innermost ls b)) (b ∷ w)) in
      omega (arith, charge_most w, begun_most (length ls) (omega arith) b w, cond_most late (costs.later b) (costs.first b) s s (entries b).1 (entries b).0)

-- what an entry and a stay cost at most: 64 fetches and their penalties, and the penalties of 8,192 lines
abbrev most : ℕ
most = 33554432

module _ (c : Contents) (format : InFormat c) (marks : Marks) where
  figure_few : Sound c → (figure : ℕ) → Greatest cycle_tally (cycle_costs c marks) c figure → figure ≤ length c.blocks * 1000000 * (most + most)
  figure_few sound figure g =
      let a = g.attained in
      let under = charge_most (cycle_costs c marks) (all_loops c) most (λ b. (omega (arith, entry_few c format marks pays_first b), omega (arith, entry_few c format marks pays_later b)))
      (λ i h. omega (arith, stay_few c format marks i h)) (a.0 ∷ a.1) in
      let over = charge_few (shape c format sound) most 1000000 (λ x h. (shallow c sound x h).1) a.1 a.0 a.2 a.3 in
      omega (arith, a.4)

-- a figure of few digits has a load of few
load_few : (figure window : ℕ) → 0 < window → figure < 10 ^ 16 → load_of figure window < 2 ^ 64 - 1
load_few figure window some few =
    let m : ℕ = 1000 * figure + 2 in
    let grown = le-mul_of_pos_right (1000 * figure) some in
    let room = div_below (2 * (1000 * figure) + window) (2 * window) m (omega arith) (omega (arith, twice m window, add-mul (1000 * figure) 2 window)) in
    omega arith

pub worthy : (c : Contents) → InFormat c → Sound c → Warranted slot_kind slots_fetched c → Worthy c
worthy c format sound h =
    let r = ranges c format in
    let few = figure_few c format _ sound (slot_findings c).figure h.figure in
    record {
      holds = h;
      exact = λ b j l block fetch low. always_hit c format sound b j block fetch l low;
      load = nearest (slot_findings c).figure c.header.window r.header.window_low (load_few (slot_findings c).figure c.header.window r.header.window_low (omega arith));
    }
