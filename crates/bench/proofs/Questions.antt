-- What the questions come to.
use Rattle.std.proofs.Common.{◌≡◌, ℕ, ◌<◌, ◌≤◌, Bool, true, false, ltb, List, length, Ok, Err, Result, sym, ap, ◌∙◌, subst}
use Rattle.std.proofs.lemmas.Bool.{lt-ltb, le-ltb}
use Rattle.records.specs.Contents.{Contents}
use Rattle.records.specs.Layout.{record_text}
use Rattle.writer.specs.declared.TooShort.{TooShort}
use Rattle.writer.specs.Wrote.{Wrote}
use Rattle.categories.specs.declared.category.Category.{Category}
use Rattle.categories.specs.Category.{fetches_of, levels_of}
use Rattle.examine.specs.Findings.{Findings, category_at}
use Rattle.listing.specs.Text.{block_text}
use Rattle.calls.specs.declared.call.Call.TheVariants.{Write, Ask, List as Listing}
use Rattle.calls.specs.declared.fault.BenchFault.{BenchFault}
use Rattle.calls.specs.declared.fault.BenchFault.TheVariants.{NoSuch, TooShort as short}
use Rattle.calls.specs.declared.fault.Part.TheVariants.{Block, Fetch, Level}
use Rattle.calls.specs.declared.refusal.Refusal.{Refusal}
use Rattle.calls.specs.declared.refusal.Refusal.TheVariants.{Bench}
use Rattle.calls.specs.Answers.{category_answer, ask_answer}
use Rattle.calls.specs.Outcomes.{Delivered, WriteCall, Lists, ListCall}
use Rattle.calls.specs.View.{View, task_of, found_of}
use Rattle.bench.specs.Walked.{as_refusal, Asked}
use Rattle.bench.proofs.Admits.{admission, was_admitted, answered}

-- a text that was written, or that the buffer is too short for, by the bench's answer
pub delivered : (text out after : List ℕ) (r : Result ℕ Refusal) (e : TooShort) → r ≡ Err (Bench (short e.needed)) → Wrote text out (Err e) after
    → Delivered text out r after
delivered text out after r e is (needed, long, same) =
    subst (λ z. Delivered text out z after) (sym is) (ap (λ n. Bench (short n)) needed, long, same)

module _ (v : View) (out after : List ℕ) (r : Result ℕ Refusal) (u : Unit {0}) where
  pub write_done : (c : Contents) → c ≡ task_of v → Ok u ≡ admission Write v → Delivered (record_text c) out r after → WriteCall out v r after
  write_done c q h d =
      was_admitted Write v r (after ≡ out) (Delivered (record_text (task_of v)) out r after) u h
      (subst (λ z. Delivered (record_text z) out r after) q d)

  -- by whether the task has the block
  abbrev Listed : ℕ → Contents → Findings → Bool → Type 0
  Listed b c f t = elim t [ true ↦ Delivered (block_text c f b) out r after | false ↦ (r ≡ Err (Bench (NoSuch Block))) × (after ≡ out) ]

  pub list_done : (b : ℕ) (c : Contents) (f : Findings) → c ≡ task_of v → f ≡ found_of v → Ok u ≡ admission Listing v → b < length c.blocks
      → Delivered (block_text c f b) out r after → ListCall b out v r after
  list_done b c f q p h small d =
      was_admitted Listing v r (after ≡ out) (Lists b out v r after) u h
      (subst (λ z. Listed b z (found_of v) (ltb b (length z.blocks))) q
      (subst (Listed b c (found_of v)) (sym (lt-ltb b (length c.blocks) small))
      (subst (λ z. Delivered (block_text c z b) out r after) p d)))

  pub list_none : (b : ℕ) (c : Contents) → c ≡ task_of v → Ok u ≡ admission Listing v → length c.blocks ≤ b → r ≡ Err (Bench (NoSuch Block)) → after ≡ out
      → ListCall b out v r after
  list_none b c q h large is same =
      was_admitted Listing v r (after ≡ out) (Lists b out v r after) u h
      (subst (Listed b (task_of v) (found_of v))
      (sym (le-ltb b (length (task_of v).blocks) (subst (λ z. length z.blocks ≤ b) q large))) (is, same))

-- the tests of a category's place, one after the other
module _ (c : Contents) (f : Findings) (b j l : ℕ) where
  abbrev in_block : Bool → Result Category Refusal
  in_block t = elim t [
    | true ↦ elim (ltb j (fetches_of c b)) [
      | true ↦ elim (ltb l (length (levels_of c b))) [ true ↦ Ok (category_at f b j l) | false ↦ Err (Bench (NoSuch Level)) ]
      | false ↦ Err (Bench (NoSuch Fetch))
    ]
    | false ↦ Err (Bench (NoSuch Block))
  ]

  abbrev in_fetch : Bool → Result Category Refusal
  in_fetch t = elim t [
    | true ↦ elim (ltb l (length (levels_of c b))) [ true ↦ Ok (category_at f b j l) | false ↦ Err (Bench (NoSuch Level)) ]
    | false ↦ Err (Bench (NoSuch Fetch))
  ]

  abbrev in_level : Bool → Result Category Refusal
  in_level t = elim t [ true ↦ Ok (category_at f b j l) | false ↦ Err (Bench (NoSuch Level)) ]

  pub no_block : length c.blocks ≤ b → Asked c f b j l (Err (NoSuch Block))
  no_block h = ap in_block (sym (le-ltb b (length c.blocks) h))

  module _ (block : b < length c.blocks) where
    in_block_lem : in_fetch (ltb j (fetches_of c b)) ≡ category_answer c f b j l
    in_block_lem = ap in_block (sym (lt-ltb b (length c.blocks) block))

    pub no_fetch : fetches_of c b ≤ j → Asked c f b j l (Err (NoSuch Fetch))
    no_fetch h = ap in_fetch (sym (le-ltb j (fetches_of c b) h)) ∙ in_block_lem

    module _ (fetch : j < fetches_of c b) where
      in_fetch_lem : in_level (ltb l (length (levels_of c b))) ≡ category_answer c f b j l
      in_fetch_lem = ap in_fetch (sym (lt-ltb j (fetches_of c b) fetch)) ∙ in_block_lem

      pub no_level : length (levels_of c b) ≤ l → Asked c f b j l (Err (NoSuch Level))
      no_level h = ap in_level (sym (le-ltb l (length (levels_of c b)) h)) ∙ in_fetch_lem

      pub category_is : (x : Category) → l < length (levels_of c b) → x ≡ category_at f b j l → Asked c f b j l (Ok x)
      category_is x h is = ap Ok is ∙ ap in_level (sym (lt-ltb l (length (levels_of c b)) h)) ∙ in_fetch_lem

-- the answer of the bench
pub ask_done : (v : View) (b j l : ℕ) (c : Contents) (f : Findings) (r : Result Category BenchFault) (a : Result Category Refusal) (u : Unit {0}) → c ≡ task_of v → f ≡ found_of v
    → Ok u ≡ admission Ask v → a ≡ as_refusal r → Asked c f b j l r → a ≡ ask_answer v b j l
ask_done v b j l c f r a u q p h is asked =
    let same : category_answer c f b j l ≡ category_answer (task_of v) (found_of v) b j l =
    ap (λ z. category_answer z f b j l) q ∙ ap (λ z. category_answer (task_of v) z b j l) p in
    is ∙ asked ∙ same ∙ answered Ask v (category_answer (task_of v) (found_of v) b j l) u h
