-- How walks through a sound task enter loops, and the rounds of their stays.
use Rattle.std.proofs.Common.{◌≡◌, ℕ, zero, suc, ◌<◌, true, false, cond, eqb, leb, ◌⊎◌, List, [], ◌∷◌, length, sym, refl, ◌∙◌, subst, inl, inr, arith}
use Rattle.std.proofs.ByRecursion.{All-get_or}
use Rattle.std.proofs.lemmas.Bool.{cases_Bool, cases_eq, and_parts, and_from, leb-true, le-leb, eq-eqb, ne_eqb, cond-true, cond-false, both_ways}
use Rattle.records.specs.declared.parts.Loop.{Loop}
use Rattle.records.specs.declared.parts.Edge.{Edge}
use Rattle.records.specs.Contents.{Contents}
use Rattle.records.specs.Layout.{InFormat}
use Rattle.records.proofs.Ranges.{EdgeRange, LoopRange, ranges}
use Rattle.task.specs.Graph.{loop_at, within, Within, Leads}
use Rattle.task.specs.Laws.{Laws, Climbs, here, on}
use Rattle.walks.specs.Walk.{Walk, rounds, all_loops, task_loop, innermost_of, innermost, Among}
use Rattle.categories.specs.Meaning.{Again}

-- the test of a loop's blocks
pub within_true : (l : Loop) (b : ℕ) → within l b ≡ true → Within l b
within_true l b e =
    let p = and_parts (leb l.header b) (leb b l.last) e in
    (leb-true l.header b p.0, leb-true b l.last p.1)

pub true_within : (l : Loop) (b : ℕ) → Within l b → within l b ≡ true
true_within l b h = and_from (leb l.header b) (leb b l.last) (le-leb l.header b h.0) (le-leb b l.last h.1)

pub cases_within : (l : Loop) (b : ℕ) → Within l b ⊎ (within l b ≡ false)
cases_within l b = elim (cases_Bool (within l b)) [ inl e ↦ inl (within_true l b e) | inr e ↦ inr e ]

pub false_within : (l : Loop) (b : ℕ) → within l b ≡ false → Within l b → ⊥
false_within l b e h = both_ways (within l b) e (true_within l b h)

-- the rounds of a stay on entering block b
module _ (l : Loop) (w : List ℕ) (b : ℕ) where
  pub rounds_head : Within l b → b ≡ l.header → rounds l (b ∷ w) ≡ suc (rounds l w)
  rounds_head h e =
      cond-true (within l b) (cond (eqb b l.header) (suc (rounds l w)) (rounds l w)) 0 (true_within l b h)
      ∙ cond-true (eqb b l.header) (suc (rounds l w)) (rounds l w) (eq-eqb b l.header e)

  pub rounds_on : Within l b → (b ≡ l.header → ⊥) → rounds l (b ∷ w) ≡ rounds l w
  rounds_on h e =
      cond-true (within l b) (cond (eqb b l.header) (suc (rounds l w)) (rounds l w)) 0 (true_within l b h)
      ∙ cond-false (eqb b l.header) (suc (rounds l w)) (rounds l w) (ne_eqb b l.header e)

  pub rounds_out : within l b ≡ false → rounds l (b ∷ w) ≡ 0
  rounds_out e = cond-false (within l b) (cond (eqb b l.header) (suc (rounds l w)) (rounds l w)) 0 e

-- a walk along edges that ascend
pub climbed_walk : {es : List Edge} {P : ℕ → Type 0} {b : ℕ} → Climbs es P 0 b → (u : List ℕ) × Walk es 0 u b × ((d : ℕ) → Among d u → d < b)
climbed_walk (here h) = ([], refl, λ d m. absurd m)
climbed_walk (on {p = p} {b = b} before less leads h) =
    let r = climbed_walk before in
    (p ∷ r.0, (r.1, leads), λ d m. elim m [ inl e ↦ omega arith | inr q ↦ (let z = r.2 d q in omega arith) ])

module _ (c : Contents) (format : InFormat c) where
  pub leads_below : (p b : ℕ) → Leads c.edges p b → (p < length c.blocks) × (b < length c.blocks)
  leads_below p b m =
      let some = (ranges c format).some in
      let e = All-get_or (EdgeRange (length c.blocks)) c.edges m.0 (record { from = 0; to = 0 }) m.1 (ranges c format).edges in
      (omega (arith, e.from, m.2), omega (arith, e.to, m.3))

  pub walk_below : (w : List ℕ) (b : ℕ) → Walk c.edges 0 w b → b < length c.blocks
  walk_below [] b e = omega (arith, (ranges c format).some)
  walk_below (p ∷ w) b m = (leads_below p b m.1).1

  pub among_below : (w : List ℕ) (b d : ℕ) → Walk c.edges 0 w b → Among d w → d < length c.blocks
  among_below [] b d e m = absurd m
  among_below (p ∷ w) b d m (inl e) = let z = walk_below w p m.0 in omega arith
  among_below (p ∷ w) b d m (inr q) = among_below w p d m.0 q

  -- a block of a loop is a block of the task
  pub within_below : (i b : ℕ) → i < length (all_loops c) → Within (loop_at (all_loops c) i) b → b < length c.blocks
  within_below zero b h m = omega (arith, (ranges c format).some, m.1)
  within_below (suc i) b h m =
      let some = (ranges c format).some in
      let r = All-get_or (LoopRange (length c.blocks)) c.loops i (record { header = 0; last = 0; limit = 0 }) (omega arith) (ranges c format).loops in
      omega (arith, r.last, m.1)

  -- a walk that starts in a loop starts at its header
  pub start_header : (i b : ℕ) → i < length (all_loops c) → b ≡ 0 → Within (loop_at (all_loops c) i) b → b ≡ (loop_at (all_loops c) i).header
  start_header zero b h e m = e
  start_header (suc i) b h e m =
      let r = All-get_or (LoopRange (length c.blocks)) c.loops i (record { header = 0; last = 0; limit = 0 }) (omega arith) (ranges c format).loops in
      absurd (omega (arith, r.low, m.0))

  module _ (laws : Laws c) where
    -- a loop is entered at its header
    pub entered_header : (i p b : ℕ) → i < length (all_loops c) → Leads c.edges p b → Within (loop_at (all_loops c) i) b
        → within (loop_at (all_loops c) i) p ≡ false → b ≡ (loop_at (all_loops c) i).header
    entered_header zero p b h m q o =
        let z = leads_below p b m in absurd (false_within (task_loop c) p o (omega arith, omega arith))
    entered_header (suc i) p b h m q o = (laws.entered i p b (omega arith) m q (false_within (loop_at c.loops i) p o)).0

    -- the ascending walk to a block
    pub climb : (b : ℕ) → b < length c.blocks → (u : List ℕ) × Walk c.edges 0 u b × ((d : ℕ) → Among d u → d < b)
    climb b h = climbed_walk (laws.reached b h)

    module _ (i : ℕ) (known : i < length (all_loops c)) where
      abbrev l : Loop
      l = loop_at (all_loops c) i

      -- not at the header, the block before is in the loop too
      pub stays : (p b : ℕ) → Leads c.edges p b → Within l b → (b ≡ l.header → ⊥) → Within l p
      stays p b m h ne = elim (cases_within l p) [ inl q ↦ q | inr o ↦ absurd (ne (entered_header i p b known m h o)) ]

      -- a stay begins at the header
      pub stay_header : (w : List ℕ) (b : ℕ) → Walk c.edges 0 w b → Within l b → (b ≡ l.header) ⊎ Again l l.header w
      stay_header [] b e h = inl (start_header i b known e h)
      stay_header (p ∷ w) b m h = elim (cases_eq b l.header) [
        | inl e ↦ inl e
        | inr ne ↦ (let q = stays p b m.1 h ne in inr (q, elim (stay_header w p m.0 q) [ inl e ↦ inl (sym e) | inr s ↦ inr s ]))
      ]

      -- a stay has a round
      pub rounds_some : (w : List ℕ) (b : ℕ) → Walk c.edges 0 w b → Within l b → 0 < rounds l (b ∷ w)
      rounds_some [] b e h = let z = rounds_head l [] b h (start_header i b known e h) in omega arith
      rounds_some (p ∷ w) b m h = elim (cases_eq b l.header) [
        | inl e ↦ (let z = rounds_head l (p ∷ w) b h e in omega arith)
        | inr ne ↦ (let z = rounds_on l (p ∷ w) b h ne in let r = rounds_some w p m.0 (stays p b m.1 h ne) in omega arith)
      ]

-- the innermost of the first loops around a block
module _ (ls : List Loop) (n b : ℕ) where
  pub innermost_yes : within (loop_at ls n) b ≡ true → innermost_of ls (suc n) b ≡ n
  innermost_yes q = rw (q, innermost_of)

  pub innermost_no : within (loop_at ls n) b ≡ false → innermost_of ls (suc n) b ≡ innermost_of ls n b
  innermost_no q = rw (q, innermost_of)

innermost_known : (ls : List Loop) (b : ℕ) → Within (loop_at ls 0) b → (n : ℕ)
    → (innermost_of ls (suc n) b < suc n) × Within (loop_at ls (innermost_of ls (suc n) b)) b
innermost_known ls b h zero =
    let q = innermost_yes ls 0 b (true_within (loop_at ls 0) b h) in
    (omega arith, subst (λ i. Within (loop_at ls i) b) (sym q) h)
innermost_known ls b h (suc n) = elim (cases_within (loop_at ls (suc n)) b) [
  | inl e ↦
      (let q = innermost_yes ls (suc n) b (true_within (loop_at ls (suc n)) b e) in
      (omega arith, subst (λ i. Within (loop_at ls i) b) (sym q) e))
  | inr e ↦
      (let q = innermost_no ls (suc n) b e in
      let r = innermost_known ls b h n in
      (omega (arith, r.0), subst (λ i. Within (loop_at ls i) b) (sym q) r.1))
]

-- every block has an innermost loop
pub innermost_around : (c : Contents) (b : ℕ) → b < length c.blocks
    → (innermost (all_loops c) b < length (all_loops c)) × Within (loop_at (all_loops c) (innermost (all_loops c) b)) b
innermost_around c b h = innermost_known (all_loops c) b (omega arith, omega arith) (length c.loops)
