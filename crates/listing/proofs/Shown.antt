-- What an examination's value says of a fetch.
use Rattle.std.proofs.Common.{◌≡◌, ℕ, ◌+◌, ◌<◌, ◌≤◌, List, [], ◌∷◌, ◌++◌, map, length, get_or, vec_items, codes, sym, ap, ◌∙◌, append_assoc, zero-add, arith}
use Rattle.std.specs.List.{range_with_len, flat_map}
use Rattle.std.proofs.lemmas.List.FromFn.{get_or-map-range_with_len, length-map-range_with_len}
use Rattle.std.proofs.lemmas.List.{get_or_past}
use Rattle.records.specs.declared.parts.Block.{Block}
use Rattle.records.specs.Contents.{Contents}
use Rattle.task.specs.Graph.{around}
use Rattle.task.specs.Rules.{Sound}
use Rattle.task.proofs.Laws.{shallow}
use Rattle.categories.specs.declared.category.Category.{Category}
use Rattle.categories.specs.Category.{fetches_of, line_of, levels_of}
use Rattle.categories.proofs.Levels.{length-levels}
use Rattle.marks.specs.Table.{row_of}
use Rattle.marks.specs.Steps.{place_at}
use Rattle.examine.specs.declared.examination.Examination.{Examination}
use Rattle.examine.specs.Findings.{Findings, shown, row_shown}
use Rattle.listing.specs.Text.{categories_text, field, row_text, categories_of, fetch_text, block_text}

-- a block that is not there has no fetches
pub no_fetches : (c : Contents) (b : ℕ) → length c.blocks ≤ b → fetches_of c b ≡ 0
no_fetches c b h = ap (λ (x : Block). x.fetches) (get_or_past c.blocks b _ h)

pub no_lines : (c : Contents) (f : Findings) (b : ℕ) → length c.blocks ≤ b → block_text c f b ≡ []
no_lines c f b h = ap (λ n. flat_map (fetch_text c f b) (range_with_len 0 n)) (no_fetches c b h)

apart : (k x y z rest : List ℕ) → k ++ (x ++ (y ++ (z ++ rest))) ≡ (k ++ (x ++ (y ++ z))) ++ rest
apart k x y z rest = sym (simp append_assoc)

module _ (c : Contents) (b : ℕ) (inside : b < length c.blocks) where
  pub levels_are : length (around c.loops b) + 1 ≡ length (levels_of c b)
  levels_are = omega (arith, length-levels c b inside)

  pub levels_few : Sound c → length (levels_of c b) ≤ 8
  levels_few sound = omega (arith, length-levels c b inside, (shallow c sound b inside).0)

  module _ (e : Examination) (j : ℕ) (fetched : j < fetches_of c b) where
    -- the categories are those of its row
    pub shown_row : categories_of (shown c e) b j ≡ row_shown c (vec_items e.table) b j
    shown_row =
        ap (λ row. get_or row j [])
        (get_or-map-range_with_len (λ d. map (row_shown c (vec_items e.table) d) (range_with_len 0 (fetches_of c d))) 0 (length c.blocks) b b [] inside (zero-add b))
        ∙ get_or-map-range_with_len (row_shown c (vec_items e.table) b) 0 (fetches_of c b) j j [] fetched (zero-add j)

    pub shown-length : length (categories_of (shown c e) b j) ≡ length (levels_of c b)
    shown-length =
        ap length shown_row ∙ length-map-range_with_len (place_at (vec_items e.table) (row_of c b j)) 0 (length (levels_of c b))

    -- its line in parts
    pub fetch_parts : (line row levels : ℕ) (table : List (List Category)) → line ≡ line_of c b j → row ≡ row_of c b j → levels ≡ length (levels_of c b) → table ≡ vec_items e.table
        → fetch_text c (shown c e) b j
        ≡ (codes "fetch=" ++ (field b ++ (field j ++ field line))) ++ (categories_text (map (place_at table row) (range_with_len 0 levels)) ++ (10 ∷ []))
    fetch_parts line row levels table is-line is_row is-levels is-table =
        rw (is-line, is_row, is-levels, is-table)
        (ap (row_text b j (line_of c b j)) shown_row
        ∙ apart (codes "fetch=") (field b) (field j) (field (line_of c b j)) (categories_text (row_shown c (vec_items e.table) b j) ++ (10 ∷ [])))
