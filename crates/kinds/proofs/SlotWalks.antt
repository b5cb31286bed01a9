-- A slot state along a walk, beside the cache along it.
use Rattle.std.proofs.Common.{◌≡◌, ℕ, ◌<◌, ◌≤◌, true, not, eqb, ◌↔◌, List, [], ◌∷◌, length, get_or, Some, None, Option, replicate, sym, refl, ◌∙◌, subst, inl, inr, mod-lt, arith, length-set}
use lib.ListN.{length-replicate}
use Rattle.std.proofs.lemmas.List.{get_or-set_same, get_or-set_other, get_or-replicate}
use Rattle.std.proofs.lemmas.Bool.{cases_eq, eq-eqb, ne_eqb, and_from, not_from_false, cond-true, cond-false}
use Rattle.records.specs.declared.parts.Geometry.{Geometry}
use Rattle.records.specs.declared.parts.Block.{Block}
use Rattle.task.specs.Graph.{block_at}
use Rattle.facts.specs.Meaning.{walk_state}
use Rattle.cache_state.specs.Cache.{Cache, Resident, empty, slot_of, fetch_cache, fetch_all, fetch_lines, walk_cache}
use Rattle.cache_state.proofs.Tracks.{length-walk_cache, sound}
use Rattle.slot_kind.specs.declared.SlotState.{SlotState}
use Rattle.slot_kind.specs.Slots.{line_in, slots_sure, lines_fetched, slots_fetched, slot_kind}
use Rattle.slot_kind.specs.Lines.{stored_at}
use Rattle.slot_kind.specs.Laws.{slots_lawful, slots_fetching}

-- a state with these lines knows just those of the cache
abbrev Mirrors : Geometry → Option (List ℕ) → Cache → Type 0
Mirrors g None c = ⊥
Mirrors g (Some a) c = (i : ℕ) → i < g.slots → line_in a i ≡ get_or c i empty

module _ (g : Geometry) (pos : 0 < g.slots) (few : g.slots ≤ 64) where
  fetch_mirrors : (t : ℕ) (x : Option (List ℕ)) (c : Cache) → length c ≡ g.slots → Mirrors g x c → Mirrors g (lines_fetched g t x) (fetch_cache g t c)
  fetch_mirrors t None c len m = m
  fetch_mirrors t (Some a) c len m = λ i l. stored_at a (slot_of g t) t i ∙ elim (cases_eq i (slot_of g t)) [
    | inl e ↦ cond-true (eqb i (slot_of g t)) t (line_in a i) (eq-eqb i (slot_of g t) e)
        ∙ sym (subst (λ s. get_or (fetch_cache g t c) s empty ≡ t) (sym e)
        (get_or-set_same c (slot_of g t) t empty (let b = mod-lt t pos in omega arith)))
    | inr e ↦ cond-false (eqb i (slot_of g t)) t (line_in a i) (ne_eqb i (slot_of g t) e) ∙ m i l ∙ sym (get_or-set_other c (slot_of g t) i t empty e)
  ]

  fetches_mirror : (ts : List ℕ) (x : SlotState) (c : Cache) → length c ≡ g.slots → Mirrors g x.lines c
      → Mirrors g (fetch_all (slots_fetched g) ts x).lines (fetch_all (fetch_cache g) ts c)
  fetches_mirror [] x c len m = m
  fetches_mirror (t ∷ ts) x c len m =
      fetches_mirror ts (slots_fetched g t x) (fetch_cache g t c) (length-set c (slot_of g t) t ∙ len) (fetch_mirrors t x.lines c len m)

  -- from the empty cache
  walk_mirrors : (bs : List Block) (w : List ℕ) → Mirrors g (walk_state (slot_kind g) bs w).lines (walk_cache g bs w (replicate g.slots empty))
  walk_mirrors bs [] = λ i l. get_or-replicate 64 i empty empty (omega arith) ∙ sym (get_or-replicate g.slots i empty empty l)
  walk_mirrors bs (p ∷ w) =
      fetches_mirror (fetch_lines g (block_at bs p)) (walk_state (slot_kind g) bs w) (walk_cache g bs w (replicate g.slots empty))
      (length-walk_cache g bs w (replicate g.slots empty) ∙ length-replicate g.slots empty) (walk_mirrors bs w)

  mirrored_sure : (x : Option (List ℕ)) (c : Cache) (t : ℕ) → (t ≡ empty → ⊥) → Mirrors g x c → Resident g c t → slots_sure g x t ≡ true
  mirrored_sure None c t ne m r = refl
  mirrored_sure (Some a) c t ne m r =
      and_from (eqb (line_in a (slot_of g t)) t) (not (eqb t empty)) (eq-eqb (line_in a (slot_of g t)) t (m (slot_of g t) (mod-lt t pos) ∙ r))
      (not_from_false (eqb t empty) (ne_eqb t empty ne))

  -- sure after a walk and some fetches exactly if resident there from every start
  pub walk_sure : (bs : List Block) (w ts : List ℕ) (t : ℕ) → (t ≡ empty → ⊥)
      → (slots_sure g (fetch_all (slots_fetched g) ts (walk_state (slot_kind g) bs w)).lines t ≡ true)
      ↔ ((start : Cache) → length start ≡ g.slots → Resident g (fetch_all (fetch_cache g) ts (walk_cache g bs w start)) t)
  walk_sure bs w ts t ne =
      let none : Cache = replicate g.slots empty in
      let long : length none ≡ g.slots = length-replicate g.slots empty in (
        λ s start len. ((sound (slots_lawful g pos few) (slots_fetching g pos)).walked bs w start len).hits ts t s,
        λ h. mirrored_sure (fetch_all (slots_fetched g) ts (walk_state (slot_kind g) bs w)).lines (fetch_all (fetch_cache g) ts (walk_cache g bs w none)) t ne
            (fetches_mirror ts (walk_state (slot_kind g) bs w) (walk_cache g bs w none) (length-walk_cache g bs w none ∙ long) (walk_mirrors bs w))
            (h none long),
      )
