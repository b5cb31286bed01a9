-- What a task's edges and loops are like, and the rounds of a stay along a walk.
use Rattle.std.proofs.Common.{◌≡◌, ℕ, zero, suc, ◌<◌, ◌≤◌, true, false, cond, eqb, leb, ◌⊎◌, List, ◌∷◌, length, ◌∙◌, inl, inr, le_of_suc-le-suc, arith}
use Rattle.std.proofs.lemmas.Bool.{cases_Bool, cases_lt, and_parts, and_from, leb-true, le-leb, eq-eqb, ne_eqb, cond-true, cond-false, both_ways}
use Rattle.records.specs.declared.parts.Loop.{Loop}
use Rattle.records.specs.Contents.{Contents}
use Rattle.records.specs.Layout.{InFormat}
use Rattle.records.proofs.Ranges.{ranges}
use Rattle.task.specs.Graph.{loop_at, within, Within, Leads}
use Rattle.task.specs.Rules.{Sound}
use Rattle.task.specs.declared.fault.GraphRule.TheVariants.{LoopOrder}
use Rattle.task.proofs.Ranged.{loop_range_at, edge_range_at}
use Rattle.walks.specs.Walk.{all_loops, innermost_of, rounds}

-- the test of a loop's blocks
module _ (l : Loop) (b : ℕ) where
  pub within_true : within l b ≡ true → Within l b
  within_true e =
      let p = and_parts (leb l.header b) (leb b l.last) e in
      (leb-true l.header b p.0, leb-true b l.last p.1)

  pub true_within : Within l b → within l b ≡ true
  true_within h = and_from (leb l.header b) (leb b l.last) (le-leb l.header b h.0) (le-leb b l.last h.1)

  pub within_false : within l b ≡ false → Within l b → ⊥
  within_false e h = both_ways (within l b) e (true_within h)

  pub false_within : (Within l b → ⊥) → within l b ≡ false
  false_within h = elim (cases_Bool (within l b)) [ inl e ↦ absurd (h (within_true e)) | inr e ↦ e ]

  -- inside or outside
  pub cases_within : Within l b ⊎ (Within l b → ⊥)
  cases_within = elim (cases_Bool (within l b)) [ inl e ↦ inl (within_true e) | inr e ↦ inr (within_false e) ]

-- the rounds of a stay on entering block b
module _ (l : Loop) (w : List ℕ) (b : ℕ) where
  pub rounds_head : Within l b → b ≡ l.header → rounds l (b ∷ w) ≡ suc (rounds l w)
  rounds_head h e =
      cond-true (within l b) (cond (eqb b l.header) (suc (rounds l w)) (rounds l w)) 0 (true_within l b h)
      ∙ cond-true (eqb b l.header) (suc (rounds l w)) (rounds l w) (eq-eqb b l.header e)

  pub rounds_on : Within l b → (b ≡ l.header → ⊥) → rounds l (b ∷ w) ≡ rounds l w
  rounds_on h e =
      cond-true (within l b) (cond (eqb b l.header) (suc (rounds l w)) (rounds l w)) 0 (true_within l b h)
      ∙ cond-false (eqb b l.header) (suc (rounds l w)) (rounds l w) (ne_eqb b l.header e)

  pub rounds_out : (Within l b → ⊥) → rounds l (b ∷ w) ≡ 0
  rounds_out o = cond-false (within l b) (cond (eqb b l.header) (suc (rounds l w)) (rounds l w)) 0 (false_within l b o)

-- the innermost of the first loops around a block
module _ (ls : List Loop) (n b : ℕ) where
  pub innermost_yes : within (loop_at ls n) b ≡ true → innermost_of ls (suc n) b ≡ n
  innermost_yes q = rw (q, innermost_of)

  pub innermost_no : within (loop_at ls n) b ≡ false → innermost_of ls (suc n) b ≡ innermost_of ls n b
  innermost_no q = rw (q, innermost_of)

module _ (c : Contents) (format : InFormat c) where
  -- an edge leads from a block to a block
  pub leads_below : (p b : ℕ) → Leads c.edges p b → (p < length c.blocks) × (b < length c.blocks)
  leads_below p b m =
      let some = (ranges c format).some in
      let e = edge_range_at c format m.0 m.1 in
      (omega (arith, e.from, m.2), omega (arith, e.to, m.3))

  -- each loop is a range of the blocks
  pub loop_in : Sound c → (i : ℕ) → i < length (all_loops c)
      → ((loop_at (all_loops c) i).header ≤ (loop_at (all_loops c) i).last) × ((loop_at (all_loops c) i).last < length c.blocks)
  loop_in sound zero l = let s = (ranges c format).some in (omega arith, omega arith)
  loop_in sound (suc i) l =
      let q = (loop_range_at c format i (le_of_suc-le-suc l)).last in
      let s = (ranges c format).some in (
        elim (cases_lt (loop_at c.loops i).last (loop_at c.loops i).header)
            [ inl bad ↦ absurd (sound LoopOrder i (le_of_suc-le-suc l, inl bad)) | inr good ↦ good ],
        omega arith,
      )
