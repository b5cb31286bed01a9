-- The first fetch of a stay: where every way back to the header passes a block, it falls into the first round.
use Rattle.std.proofs.Common.{◌≡◌, ℕ, suc, ◌<◌, List, [], ◌∷◌, length, sym, ap, ◌∙◌, subst, inl, inr, arith}
use Rattle.std.proofs.lemmas.Bool.{cases_eq}
use Rattle.records.specs.declared.parts.Loop.{Loop}
use Rattle.records.specs.Contents.{Contents}
use Rattle.records.specs.Layout.{InFormat}
use Rattle.task.specs.Graph.{loop_at, Within, Leads}
use Rattle.task.specs.Laws.{Laws}
use Rattle.walks.specs.Walk.{Walk, rounds, all_loops, Among}
use Rattle.categories.specs.Meaning.{Again}
use Rattle.categories.proofs.Loops.{cases_within, rounds_head, rounds_on, rounds_out, within_below, start_header, climb, stays, stay_header}

module _ (c : Contents) (format : InFormat c) (laws : Laws c) (i : ℕ) (known : i < length (all_loops c)) where
  abbrev l : Loop
  l = loop_at (all_loops c) i

  abbrev pub Gate : ℕ → Type 0
  Gate d = (x : ℕ) (w : List ℕ) → Walk c.edges 0 w x → Within l x → Leads c.edges x l.header → Among d (x ∷ w)

  module _ (d : ℕ) (inside : Within l d) (gate : Gate d) where
    module _ (ne : d ≡ l.header → ⊥) where
      -- a walk to the same block that has not passed d at all: it climbs to the header of the stay
      avoid : (w : List ℕ) (b : ℕ) → Walk c.edges 0 w b → Within l b → (Again l d w → ⊥) → (u : List ℕ) × Walk c.edges 0 u b × (Among d u → ⊥)
      avoid [] b e h s = ([], e, λ m. m)
      avoid (p ∷ w) b m h s = elim (cases_eq b l.header) [
        | inl e ↦
            (let r = climb c format laws b (within_below c format i b known h) in
            (r.0, r.1, λ q. ne (let z = r.2 d q in let y = inside.0 in omega arith)))
        | inr nb ↦
            (let q = stays c format laws i known p b m.1 h nb in
            let r = avoid w p m.0 q (λ x. s (q, inr x)) in
            (p ∷ r.0, (r.1, m.1), λ x. elim x [ inl e ↦ s (q, inl e) | inr y ↦ r.2 y ]))
      ]

      first_round : (w : List ℕ) (b : ℕ) → Walk c.edges 0 w b → Within l b → (d ≡ b → ⊥) → (Again l d w → ⊥) → rounds l (b ∷ w) ≡ 1
      first_round [] b e h nd s = rounds_head l [] b h (start_header c format i b known e h)
      first_round (p ∷ w) b m h nd s = elim (cases_eq b l.header) [
        | inr nb ↦
            (let q = stays c format laws i known p b m.1 h nb in
            rounds_on l (p ∷ w) b h nb ∙ first_round w p m.0 q (λ e. s (q, inl e)) (λ x. s (q, inr x)))
        | inl e ↦ elim (cases_within l p) [
          | inr o ↦ rounds_head l (p ∷ w) b h e ∙ ap suc (rounds_out l w p o)
          | inl q ↦
              (let r = avoid w p m.0 q (λ x. s (q, inr x)) in
              absurd (elim (gate p r.0 r.1 q (subst (λ y. Leads c.edges p y) e m.1)) [ inl x ↦ s (q, inl x) | inr y ↦ r.2 y ]))
        ]
      ]

    pub first_in_first_round : (w : List ℕ) → Walk c.edges 0 w d → (Again l d w → ⊥) → rounds l (d ∷ w) ≡ 1
    first_in_first_round [] e s = rounds_head l [] d inside (start_header c format i d known e inside)
    first_in_first_round (p ∷ w) m s = elim (cases_eq d l.header) [
      | inr ne ↦
          (let q = stays c format laws i known p d m.1 inside ne in
          rounds_on l (p ∷ w) d inside ne ∙ first_round ne w p m.0 q (λ e. s (q, inl e)) (λ x. s (q, inr x)))
      | inl e ↦ elim (cases_within l p) [
        | inr o ↦ rounds_head l (p ∷ w) d inside e ∙ ap suc (rounds_out l w p o)
        | inl q ↦
            absurd (s (
              q,
              elim (stay_header c format laws i known w p m.0 q)
                  [ inl x ↦ inl (e ∙ sym x) | inr y ↦ inr (subst (λ h. Again l h w) (sym e) y) ],
            ))
      ]
    ]
