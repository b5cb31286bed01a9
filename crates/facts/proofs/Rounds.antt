-- How walks through a task enter its loops, and the rounds of their stays.
use Rattle.std.proofs.Common.{◌≡◌, ℕ, zero, suc, ◌<◌, List, [], ◌∷◌, length, sym, refl, ◌∙◌, subst, inl, inr, le_of_suc-le-suc, arith}
use Rattle.std.proofs.lemmas.Bool.{cases_eq}
use Rattle.records.specs.declared.parts.Loop.{Loop}
use Rattle.records.specs.Contents.{Contents}
use Rattle.records.specs.Layout.{InFormat}
use Rattle.records.proofs.Ranges.{ranges}
use Rattle.task.specs.Graph.{loop_at, Within, Leads}
use Rattle.task.specs.Laws.{Laws}
use Rattle.task.proofs.Ranged.{loop_range_at}
use Rattle.walks.specs.Walk.{Walk, rounds, all_loops}
use Rattle.walks.proofs.Inside.{leads_below, cases_within, rounds_head, rounds_on}

-- every edge is between blocks, and none leads to block 0
pub record Bounded (c : Contents) : Type 0 where
  pub some : 0 < length c.blocks
  pub from : (p b : ℕ) → Leads c.edges p b → p < length c.blocks
  pub to : (p b : ℕ) → Leads c.edges p b → b < length c.blocks
  pub start : (p : ℕ) → Leads c.edges p 0 → ⊥

-- the loop is of the task, and is entered at its header only
pub record Sealed (c : Contents) (l : Loop) : Type 0 where
  pub fits : l.last < length c.blocks
  pub entered : (p b : ℕ) → Leads c.edges p b → Within l b → (Within l p → ⊥) → b ≡ l.header
  pub first : Within l 0 → l.header ≡ 0

module _ (c : Contents) (format : InFormat c) (laws : Laws c) where
  pub bounded : Bounded c
  bounded = record {
    some = (let s = (ranges c format).some in omega arith);
    from = λ p b l. (leads_below c format p b l).0;
    to = λ p b l. (leads_below c format p b l).1;
    start = λ p l. (let h = laws.back p 0 l (omega arith) in let q = (loop_range_at c format h.0 h.1).low in let e = h.2 in omega arith);
  }

  named_sealed : (i : ℕ) → i < length c.loops → Sealed c (loop_at c.loops i)
  named_sealed i l =
      let q = loop_range_at c format i l in
      let low = q.low in
      let last = q.last in
      let s = (ranges c format).some in
      record {
        fits = omega arith;
        entered = λ p b lead w out. (laws.entered i p b l lead w out).0;
        first = λ w. absurd (omega arith);
      }

  pub loop_sealed : (i : ℕ) → i < length (all_loops c) → Sealed c (loop_at (all_loops c) i)
  loop_sealed zero l = (let s = (ranges c format).some in record {
    fits = omega arith;
    entered = λ p b lead w out. absurd (out (omega arith, (let q = (leads_below c format p b lead).0 in omega arith)));
    first = λ w. refl;
  })
  loop_sealed (suc i) l = named_sealed i (le_of_suc-le-suc l)

module _ (c : Contents) (l : Loop) (closed : Sealed c l) where
  -- a step to a block of the loop other than its header stays inside
  pub stays_inside : (p b : ℕ) → Leads c.edges p b → Within l b → (b ≡ l.header → ⊥) → Within l p
  stays_inside p b lead i ne = elim (cases_within l p) [ inl j ↦ j | inr o ↦ absurd (ne (closed.entered p b lead i o)) ]

  -- a walk that starts in the loop starts at its header
  pub starts_header : (b : ℕ) → b ≡ 0 → Within l b → b ≡ l.header
  starts_header b e i = e ∙ sym (closed.first (subst (Within l) e i))

  -- inside the loop the stay has had a round
  pub rounds_some : (w : List ℕ) (b : ℕ) → Walk c.edges 0 w b → Within l b → 0 < rounds l (b ∷ w)
  rounds_some [] b e i = let q = rounds_head l [] b i (starts_header b e i) in omega arith
  rounds_some (p ∷ w) b m i = elim (cases_eq b l.header) [
    | inl e ↦ (let q = rounds_head l (p ∷ w) b i e in omega arith)
    | inr ne ↦ (let q = rounds_on l (p ∷ w) b i ne in let s = rounds_some w p m.0 (stays_inside p b m.1 i ne) in omega arith)
  ]
