-- What becomes of the bytes of a text: the report of its task, or a refusal.
use Rattle.std.specs.Prelude.{◌≡◌, ℕ, ◌<◌, ◌↔◌, List, length, Ok, Err, vec_items, Result, Vec}
use Rattle.std.specs.declared.alloc.Global.{Global}
use Rattle.records.specs.Contents.{Contents}
use Rattle.records.specs.Layout.{InFormat, record_text}
use Rattle.task.specs.Rules.{Sound}
use Rattle.load.specs.declared.refusal.Refusal.{Refusal}
use Rattle.load.specs.Loading.{Loading}
use Rattle.slot_kind.specs.Slots.{slot_kind, slots_fetched}
use Rattle.kinds.specs.SlotsExact.{HitsAlways}
use Rattle.categories.specs.declared.category.Category.TheVariants.{AlwaysHit}
use Rattle.categories.specs.Category.{fetches_of, levels_of}
use Rattle.examine.specs.Findings.{Findings, findings, category_at}
use Rattle.examine.specs.Examined.{Warranted}
use Rattle.listing.specs.Load.{load_of, Nearest}
use Rattle.listing.specs.Text.{report_text}

-- what is found of a task with the slot kind
abbrev pub slot_findings : Contents → Findings
slot_findings = findings slot_kind slots_fetched

-- The bytes are the text of a sound record, and the report is that of what is found of it.
pub record Reports (bytes text : List ℕ) : Type 0 where
  pub contents : Contents
  pub format : InFormat contents
  pub sound : Sound contents
  pub bytes_are : bytes ≡ record_text contents
  pub text_is : text ≡ report_text contents (slot_findings contents)

-- Or they are refused, just as when they are loaded.
abbrev pub Reported : List ℕ → Result (Vec ℕ Global) Refusal → Type 0
Reported bytes (Ok v) = Reports bytes (vec_items v)
Reported bytes (Err r) = Loading bytes (Err r)

-- What a report is worth: the categories mean what they say and hold on every run, the figures are the greatest charges of the
-- walks within the limits, which cover their runs, a fetch is an always hit exactly if it hits on every walk from every cache, and the
-- load is the nearest number of thousandths.
pub record Worthy (c : Contents) : Type 0 where
  pub holds : Warranted slot_kind slots_fetched c
  pub exact : (b j l : ℕ) → b < length c.blocks → j < fetches_of c b → l < length (levels_of c b)
      → (category_at (slot_findings c) b j l ≡ AlwaysHit) ↔ HitsAlways c b j
  pub load : Nearest (slot_findings c).figure c.header.window (load_of (slot_findings c).figure c.header.window)

-- that of whatever sound record the bytes are
abbrev pub Worth : List ℕ → Result (Vec ℕ Global) Refusal → Type 0
Worth bytes (Ok v) = (c : Contents) → InFormat c → Sound c → bytes ≡ record_text c → Worthy c
Worth bytes (Err r) = Unit {0}
