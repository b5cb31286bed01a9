-- With the slot kind a fetch is an always hit exactly if it hits on every walk, whatever the cache at the start.
use Rattle.std.proofs.Common.{◌≡◌, ℕ, ◌<◌, Bool, true, false, ◌↔◌, length, get_or, sym, refl, ap, ◌∙◌}
use Rattle.records.specs.Contents.{Contents}
use Rattle.records.specs.Layout.{InFormat}
use Rattle.task.specs.Rules.{Sound}
use Rattle.slot_kind.specs.Slots.{slot_kind, slots_fetched}
use Rattle.kinds.specs.SlotsExact.{HitsAlways}
use Rattle.kinds.proofs.SlotsExact.{slots_exact}
use Rattle.categories.specs.declared.category.Category.TheVariants.{AlwaysHit}
use Rattle.categories.specs.Category.{fetches_of, levels_of, first_fitting}
use Rattle.marks.specs.Marked.{task_marks}
use Rattle.examine.specs.Findings.{category_at}
use Rattle.examine.proofs.Categories.{category_found}
use Rattle.examine.proofs.Levels.{level_number, level_within, level_of_lem}
use Rattle.report.specs.Reported.{slot_findings}

-- an always hit is what the first test passes
first_test : (sure miss hit : Bool) → (first_fitting sure miss hit ≡ AlwaysHit) ↔ (sure ≡ true)
first_test true miss hit = (λ _. refl, λ _. refl)
first_test false true hit = (λ e. absurd (cc), λ e. absurd (cc))
first_test false false true = (λ e. absurd (cc), λ e. absurd (cc))
first_test false false false = (λ e. absurd (cc), λ e. absurd (cc))

module _ (c : Contents) (format : InFormat c) (sound : Sound c) (b j : ℕ) (block : b < length c.blocks) (fetch : j < fetches_of c b) where
  -- at each loop around the block
  marked : (i : ℕ) → (task_marks slot_kind slots_fetched c b j i ≡ AlwaysHit) ↔ HitsAlways c b j
  marked i =
      let test = first_test _ _ _ in
      let hits = (slots_exact c format sound).0 b j block fetch in
      (λ e. hits.0 (test.0 e), λ h. test.1 (hits.1 h))

  -- at each level
  pub always_hit : (l : ℕ) → l < length (levels_of c b) → (category_at (slot_findings c) b j l ≡ AlwaysHit) ↔ HitsAlways c b j
  always_hit l low =
      let i = get_or (levels_of c b) l 0 in
      let found : category_at (slot_findings c) b j l ≡ task_marks slot_kind slots_fetched c b j i =
      ap (category_at (slot_findings c) b j) (sym (level_of_lem c b l low)) ∙ category_found c b j block fetch slot_kind slots_fetched i (level_number c b l low) (level_within c b l low) in
      (λ e. (marked i).0 (sym found ∙ e), λ h. found ∙ (marked i).1 h)
