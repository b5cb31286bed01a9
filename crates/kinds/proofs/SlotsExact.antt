-- The slot kind is exact.
use Rattle.std.proofs.Common.{◌≡◌, ℕ, ◌+◌, ◌*◌, ◌<◌, ◌≤◌, true, ◌↔◌, List, length, take, ap, inl, inr, div-le_self, arith}
use Rattle.std.proofs.lemmas.List.{get_or_past}
use Rattle.std.proofs.lemmas.Bool.{cases_lt}
use Rattle.records.specs.declared.parts.Block.{Block}
use Rattle.records.specs.Contents.{Contents}
use Rattle.records.specs.Layout.{InFormat}
use Rattle.task.specs.declared.fault.GraphRule.TheVariants.{Address}
use Rattle.task.specs.Graph.{block_at}
use Rattle.task.specs.Rules.{Sound}
use Rattle.task.proofs.Laws.{laws}
use Rattle.facts.specs.Meaning.{walk_state}
use Rattle.cache_state.specs.Cache.{empty, fetch_line, fetch_lines}
use Rattle.cache_state.specs.Meaning.{Everywhere}
use Rattle.cache_state.proofs.Exactly.{exactly}
use Rattle.cache_state.proofs.InRange.{record_in_range}
use Rattle.slot_kind.specs.Slots.{slot_kind, slots_fetched}
use Rattle.slot_kind.specs.Laws.{fetch_through, slots_lawful, slots_distributing, slots_fetching, slots_few, slots_everywhere}
use Rattle.kinds.specs.SlotsExact.{slots_sure_fetch, Hits, SureIsHit, FirstIsHit}
use Rattle.kinds.proofs.SlotWalks.{walk_sure}

-- no fetch of a sound task has the mark for its line
pub line_real : (c : Contents) → Sound c → (b j : ℕ) → j < (block_at c.blocks b).fetches
    → fetch_line c.header.geometry (block_at c.blocks b) j ≡ empty → ⊥
line_real c sound b j l e =
    let d = div-le_self ((block_at c.blocks b).address + 4 * j) c.header.geometry.line in
    elim (cases_lt b (length c.blocks)) [
      | inl m ↦ sound Address b (m, inr (omega arith))
      | inr m ↦ (let z : (block_at c.blocks b).fetches ≡ 0 = ap (λ (x : Block). x.fetches) (get_or_past c.blocks b _ m) in omega arith)
    ]

few_slots : (c : Contents) → InFormat c → (0 < c.header.geometry.slots) × (c.header.geometry.slots ≤ 64)
few_slots c format = slots_few c.header.geometry (slots_everywhere c.header.geometry (record_in_range c format))

-- in the state of one walk
pub walk_hits : (c : Contents) → InFormat c → Sound c → (w : List ℕ) (b j : ℕ) → j < (block_at c.blocks b).fetches
    → (slots_sure_fetch c b j (walk_state (slot_kind c.header.geometry) c.blocks w) ≡ true) ↔ Hits c w b j
walk_hits c format sound w b j l =
    let g = c.header.geometry in
    let block = block_at c.blocks b in
    walk_sure g (few_slots c format).0 (few_slots c format).1 c.blocks w (take j (fetch_lines g block)) (fetch_line g block j) (line_real c sound b j l)

slots_everywhere_sure : (c : Contents) → InFormat c → Sound c → Everywhere c.header.geometry (slot_kind c.header.geometry) (slots_fetched c.header.geometry) c
slots_everywhere_sure c format sound =
    let g = c.header.geometry in
    let pos = (few_slots c format).0 in
    exactly (slots_lawful g pos (few_slots c format).1) (slots_distributing g pos) (slots_fetching g pos) (λ t. (fetch_through g pos t).distributes) c format (laws c format sound)

pub slots_exact : (c : Contents) → InFormat c → Sound c → SureIsHit c × FirstIsHit c
slots_exact c format sound =
    let e = slots_everywhere_sure c format sound in (
      λ b j l m. (
        λ s w a. (walk_hits c format sound w b j m).0 ((e.settled b j l).0 s w a),
        λ h. (e.settled b j l).1 (λ w a. (walk_hits c format sound w b j m).1 (h w a)),
      ),
      λ i b j l n m. (
        λ s w a o. (walk_hits c format sound w b j m).0 ((e.first i b j l n).0 s w a o),
        λ h. (e.first i b j l n).1 (λ w a o. (walk_hits c format sound w b j m).1 (h w a o)),
      ),
    )
