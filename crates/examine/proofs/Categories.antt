-- The category found at a level is the mark at the loop of that level, and it is what the table has there.
use Rattle.std.proofs.Common.{◌≡◌, ℕ, ◌<◌, List, [], map, length, get_or, vec_items, sym, ap, ◌∙◌, zero-add, arith}
use Rattle.std.specs.List.{range_with_len}
use Rattle.std.proofs.lemmas.List.FromFn.{get_or-map-range_with_len, fill_by_all}
use Rattle.std.proofs.lemmas.List.{length-map, get_or-map}
use Rattle.records.specs.declared.parts.Geometry.{Geometry}
use Rattle.records.specs.Contents.{Contents}
use Rattle.task.specs.Graph.{loop_at, Within}
use Rattle.walks.specs.Walk.{all_loops}
use Rattle.facts.specs.Kind.{Kind}
use Rattle.categories.specs.declared.category.Category.{Category}
use Rattle.categories.specs.declared.category.Category.TheVariants.{AlwaysMiss}
use Rattle.categories.specs.Category.{fetches_of, levels_of, Marks}
use Rattle.marks.specs.Table.{row_of, level_of, Agrees}
use Rattle.marks.specs.Marked.{task_marks}
use Rattle.figure.proofs.Lists.{map_same}
use Rattle.examine.specs.declared.examination.Examination.{Examination}
use Rattle.examine.specs.Findings.{each_fetch, findings, row_shown, shown, category_at}
use Rattle.examine.proofs.Levels.{level_number, level_within, level_of_lem, level_less, level_at_lem}

-- the categories of a fetch by the marks
abbrev by_level : Contents → Marks → ℕ → ℕ → List Category
by_level c marks b j = map (marks b j) (levels_of c b)

module _ (c : Contents) (b j : ℕ) (block : b < length c.blocks) (fetch : j < fetches_of c b) where
  -- what is listed for each fetch, at this one
  fetch_at : {X : Type 0} (f : ℕ → ℕ → X) (d : X) → get_or (get_or (each_fetch c f) b []) j d ≡ f b j
  fetch_at f d =
      ap (λ xs. get_or xs j d) (get_or-map-range_with_len (λ a. map (f a) (range_with_len 0 (fetches_of c a))) 0 (length c.blocks) b b [] block (zero-add b))
      ∙ get_or-map-range_with_len (f b) 0 (fetches_of c b) j j d fetch (zero-add j)

  -- a row of a table that has these marks
  row_agrees : (table : List (List Category)) (marks : Marks) → Agrees c table marks → row_shown c table b j ≡ by_level c marks b j
  row_agrees table marks agrees =
      let row = get_or table (row_of c b j) [] in
      sym (fill_by_all (λ k. get_or row k AlwaysMiss) (by_level c marks b j) (length (levels_of c b)) AlwaysMiss (length-map (levels_of c b) (marks b j))
      (λ k h. get_or-map (marks b j) (levels_of c b) k 0 AlwaysMiss h
      ∙ sym (agrees b j (get_or (levels_of c b) k 0) block fetch (level_number c b k h) (level_within c b k h))
      ∙ ap (λ l. get_or row l AlwaysMiss) (level_of_lem c b k h)))

  -- at the level of a loop around the block there is the mark at that loop
  pub category_found : {K : Type 0} (kind : Geometry → Kind K) (fetched : Geometry → ℕ → K → K) (i : ℕ) → i < length (all_loops c) → Within (loop_at (all_loops c) i) b
      → category_at (findings kind fetched c) b j (level_of c b i) ≡ task_marks kind fetched c b j i
  category_found kind fetched i number around-it =
      let marks = task_marks kind fetched c in
      ap (λ xs. get_or xs (level_of c b i) AlwaysMiss) (fetch_at (by_level c marks) [])
      ∙ get_or-map (marks b j) (levels_of c b) (level_of c b i) 0 AlwaysMiss (level_less c b i number around-it)
      ∙ ap (marks b j) (level_at_lem c b i number around-it)

  -- the table has it at the fetch's row
  pub category_shown : (e : Examination) (l : ℕ) → l < length (levels_of c b)
      → category_at (shown c e) b j l ≡ get_or (get_or (vec_items e.table) (row_of c b j) []) l AlwaysMiss
  category_shown e l h =
      let row = get_or (vec_items e.table) (row_of c b j) [] in
      ap (λ xs. get_or xs l AlwaysMiss) (fetch_at (row_shown c (vec_items e.table)) [])
      ∙ get_or-map-range_with_len (λ k. get_or row k AlwaysMiss) 0 (length (levels_of c b)) l l AlwaysMiss h (zero-add l)

-- a table that has these marks shows them at every fetch
pub categories_agree : (c : Contents) (table : List (List Category)) (marks : Marks) → Agrees c table marks → each_fetch c (row_shown c table) ≡ each_fetch c (by_level c marks)
categories_agree c table marks agrees =
    map_same (λ b. map (row_shown c table b) (range_with_len 0 (fetches_of c b))) (λ b. map (by_level c marks b) (range_with_len 0 (fetches_of c b))) 0 (length c.blocks)
    (λ b _ block. map_same (row_shown c table b) (by_level c marks b) 0 (fetches_of c b) (λ j _ fetch. row_agrees c b j (omega arith) (omega arith) table marks agrees))
