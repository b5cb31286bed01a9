-- How long a report can be.
use Rattle.std.proofs.Common.{◌≡◌, ℕ, zero, suc, ◌+◌, ◌*◌, ◌/◌, ◌%◌, ◌^◌, ◌<◌, ◌≤◌, Bool, true, false, eqb, leb, List, [], ◌∷◌, length, codes, decimal, ap, inl, inr, div-le_self, arith, length-append}
use Rattle.std.specs.List.{range_with_len, flat_map}
use Rattle.std.specs.Fmt.{digit_glyph, digits_onto, digits}
use Rattle.std.proofs.lemmas.Bool.{cases_Bool, cases_lt}
use Rattle.records.specs.Contents.{Contents}
use Rattle.records.specs.Layout.{InFormat}
use Rattle.records.proofs.Ranges.{ranges}
use Rattle.writer.proofs.Bound.{eight}
use Rattle.task.specs.Graph.{block_at}
use Rattle.task.specs.Rules.{Sound}
use Rattle.task.proofs.Ranged.{block_range_at}
use Rattle.categories.specs.declared.category.Category.{Category}
use Rattle.categories.specs.declared.category.Category.TheVariants.{AlwaysHit, FirstMiss, FirstHit, AlwaysMiss}
use Rattle.categories.specs.Category.{fetches_of, line_of}
use Rattle.categories.specs.Letters.{letters_of}
use Rattle.examine.specs.declared.examination.Examination.{Examination}
use Rattle.examine.specs.Findings.{Findings, shown}
use Rattle.listing.specs.Load.{load_of}
use Rattle.listing.specs.Text.{categories_text, categories_of, row_text, fetch_text, block_text, fits_text, head_text, report_text}
use Rattle.listing.proofs.Counted.{joined_length, count-length}
use Rattle.listing.proofs.Shown.{no_lines, levels_few, shown-length}

letters_short : (x : Category) → length (letters_of x) ≤ 2
letters_short AlwaysHit = omega arith
letters_short FirstMiss = omega arith
letters_short FirstHit = omega arith
letters_short AlwaysMiss = omega arith

categories-length : (xs : List Category) → length (categories_text xs) ≤ length xs * 3
categories-length [] = omega arith
categories-length (x ∷ xs) =
    let rest : List ℕ = flat_map (λ y. 47 ∷ letters_of y) xs in
    omega (arith, length-append (letters_of x) rest, letters_short x, joined_length (λ y. 47 ∷ letters_of y) 3 (λ y. omega (arith, letters_short y)) xs)

row-length : (b j line : ℕ) (xs : List Category) → b < 10 ^ 8 → j < 10 ^ 8 → line < 10 ^ 8 → length xs ≤ 8 → length (row_text b j line xs) ≤ 58
row-length b j line xs hb hj hl few =
    let bs = eight b hb in
    let js = eight j hj in
    let ls = eight line hl in
    let cs = categories-length xs in
    simp length-append (omega arith)

pub block-length : (c : Contents) → InFormat c → Sound c → (e : Examination) (b : ℕ) → length (block_text c (shown c e) b) ≤ 3712
block-length c format sound e b = elim (cases_lt b (length c.blocks)) [
  | inl inside ↦
      (let r = block_range_at c format b inside in
      let n = (ranges c format).few_blocks in
      let lines = count-length (fetch_text c (shown c e) b) 58 0 (fetches_of c b) (λ j l.
      let low = div-le_self ((block_at c.blocks b).address + 4 * j) c.header.geometry.line in
      row-length b j (line_of c b j) (categories_of (shown c e) b j) (omega arith) (omega arith) (omega arith)
      (omega (arith, shown-length c b inside e j (omega arith), levels_few c b inside sound))) in
      omega arith)
  | inr past ↦ omega (arith, ap length (no_lines c (shown c e) b past))
]

-- a number is written with at most 64 digits
spelled_length : (k base n : ℕ) (upper : Bool) (acc : List ℕ) → length (digits_onto k base upper n acc) ≤ k + length acc
spelled_length zero base n upper acc = omega arith
spelled_length (suc k) base n upper acc =
    let one : List ℕ = digit_glyph upper (n % base) ∷ acc in
    let rest = spelled_length k base (n / base) upper one in
    elim (cases_Bool (eqb (n / base) 0)) [
      | inl e ↦ (let is : digits_onto (suc k) base upper n acc ≡ one = rw (digits_onto, e) in omega (arith, ap length is))
      | inr e ↦ (let is : digits_onto (suc k) base upper n acc ≡ digits_onto k base upper (n / base) one = rw (digits_onto, e) in omega (arith, ap length is))
    ]

number-length : (n : ℕ) → length (decimal n) ≤ 64
unfolding digits
number-length n = spelled_length 64 10 n false []

fits-length : (figure window : ℕ) → length (fits_text figure window) ≤ 3
fits-length figure window = elim (cases_Bool (leb figure window)) [
  | inl e ↦ omega (arith, ap length (yes_fits e))
  | inr e ↦ omega (arith, ap length (no_fits e))
]
  where
    yes_fits : leb figure window ≡ true → fits_text figure window ≡ codes "yes"
    yes_fits e = rw (fits_text, e)

    no_fits : leb figure window ≡ false → fits_text figure window ≡ codes "no"
    no_fits e = rw (fits_text, e)

head-length : (c : Contents) (f : Findings) → length (head_text c f) ≤ 400
head-length c f =
    let figure = number-length f.figure in
    let fits = fits-length f.figure c.header.window in
    let load = number-length (load_of f.figure c.header.window) in
    let charged = number-length f.greatest.0 in
    let fetches = number-length f.greatest.1 in
    let passes = number-length f.passes in
    simp length-append (omega arith)

-- where they end can be told
pub block_small : (c : Contents) → InFormat c → Sound c → (e : Examination) (b : ℕ) → length (block_text c (shown c e) b) < 2 ^ 64
block_small c format sound e b = omega (arith, block-length c format sound e b)

pub report_small : (c : Contents) → InFormat c → Sound c → (e : Examination) → length (report_text c (shown c e)) < 2 ^ 64
report_small c format sound e =
    let few = (ranges c format).few_blocks in
    let whole = length-append (head_text c (shown c e)) (flat_map (block_text c (shown c e)) (range_with_len 0 (length c.blocks))) in
    let head = head-length c (shown c e) in
    let blocks = count-length (block_text c (shown c e)) 3712 0 (length c.blocks) (λ b l. block-length c format sound e b) in
    omega arith
