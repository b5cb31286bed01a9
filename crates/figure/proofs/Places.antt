-- Where the rows of a block stand, and what is counted of them.
use Rattle.std.proofs.Common.{◌≡◌, ℕ, zero, suc, ◌+◌, ◌-◌, ◌*◌, ◌<◌, ◌≤◌, min, Bool, true, false, List, [], ◌∷◌, ◌++◌, map, length, get_or, take, drop, sym, refl, ap, ◌∙◌, ap₂, inl, inr, div-le_self, arith}
use native.Mathlib.Nat.{min-eq_left}
use Rattle.std.specs.List.{range_with_len}
use Rattle.std.proofs.ByRecursion.{All-get_or}
use Rattle.std.proofs.lemmas.List.{at_drop_more, length-take-le, length-drop, get_or-take, get_or-drop, append-nil, append_assoc}
use Rattle.std.proofs.lemmas.Bool.{cases_lt}
use Rattle.records.specs.declared.parts.Block.{Block}
use Rattle.records.specs.declared.parts.Loop.{Loop}
use Rattle.records.specs.declared.parts.Geometry.{Geometry}
use Rattle.records.specs.Contents.{Contents}
use Rattle.records.specs.Layout.{InFormat}
use Rattle.records.proofs.Ranges.{BlockRange, LoopRange, ranges}
use Rattle.task.specs.Graph.{block_at, loop_at, within, around, total_fetches}
use Rattle.task.specs.Rules.{Sound}
use Rattle.task.specs.declared.fault.GraphRule.TheVariants.{TooManyFetches}
use Rattle.task.proofs.Laws.{laws}
use Rattle.walks.specs.Walk.{all_loops, task_loop, innermost}
use Rattle.cache_state.specs.Cache.{fetch_line, empty}
use Rattle.longest.proofs.Listing.{listing}
use Rattle.categories.specs.declared.category.Category.{Category}
use Rattle.categories.specs.Category.{fetches_of, line_of, Marks}
use Rattle.categories.specs.Costs.{passing, added, distinct, charged_fetch, charged_lines, charged_at, paying}
use Rattle.categories.proofs.Loops.{true_within}
use Rattle.marks.specs.Table.{row_of, level_of, mark_at}
use Rattle.figure.specs.Row.{level_at, charged_row, paying_rows}
use Rattle.figure.proofs.Levels.{above_from, above_in, innermost_level, charged_fetch_lem}
use Rattle.figure.proofs.Lists.{counting_more, count_passing, passing_same, distinct_append, lines_more_yes, lines_more_no}
use Rattle.figure.proofs.Steps.{fetches_split}

-- a line of a block in the address space is no larger than an address
pub line_fits : (g : Geometry) (b : Block) (j : ℕ) → b.address ≤ 16777215 → j ≤ 64 → min (fetch_line g b j) empty ≡ fetch_line g b j
line_fits g b j low few = min-eq_left (omega (arith, div-le_self (b.address + 4 * j) g.line))

-- one fetch of a block after the other, by its rows: the lines seen are xs, and then ys
module _ (g : Geometry) (block : Block) (level depth : ℕ) (rows : List (List Category)) (seen : List ℕ) (n : ℕ) (xs ys : List ℕ) where
  abbrev test : ℕ → Bool
  test j = charged_row level depth (get_or rows j [])

  abbrev seen_at : ℕ → List ℕ
  seen_at k = distinct seen (map (fetch_line g block) (passing test (range_with_len 0 k)))

  pub block_more : xs ≡ seen_at n → block.address ≤ 16777215 → n ≤ 64 → (line : ℕ) → line ≡ min (fetch_line g block n) empty → true ≡ test n → ys ≡ added xs line
      → ys ≡ seen_at (n + 1)
  block_more xs-are low few line line-is so e =
      e ∙ ap₂ added xs-are (line-is ∙ line_fits g block n low few) ∙ sym (lines_more_yes (fetch_line g block) test seen n (sym so))

  pub block_same : xs ≡ seen_at n → false ≡ test n → ys ≡ xs → ys ≡ seen_at (n + 1)
  block_same xs-are so e = e ∙ xs-are ∙ sym (lines_more_no (fetch_line g block) test seen n (sym so))

module _ (c : Contents) (sound : Sound c) where
  pub few_rows : total_fetches c.blocks ≤ 1024
  few_rows = elim (cases_lt 1024 (total_fetches c.blocks)) [ inl many ↦ absurd (sound TooManyFetches 0 (refl, many)) | inr few ↦ few ]

module _ (c : Contents) (b : ℕ) (inside : b < length c.blocks) where
  pub rows_room : total_fetches (take b c.blocks) + fetches_of c b ≤ total_fetches c.blocks
  rows_room =
      let split = fetches_split c.blocks b in
      let next = at_drop_more total_fetches c.blocks b (record { address = 0; fetches = 0; cycles = 0 }) inside in
      omega arith

  -- the same of a block that is read
  module _ (x : Block) (n : ℕ) (x-is : x ≡ block_at c.blocks b) (n-is : n ≡ total_fetches (take b c.blocks)) where
    pub rows_end : n + x.fetches ≤ total_fetches c.blocks
    rows_end =
        let r = rows_room in
        let f = ap (λ (y : Block). y.fetches) x-is in
        omega arith

    pub rows_are : {X : Type 0} (table : List X) → take ((n + x.fetches) - n) (drop n table) ≡ take (fetches_of c b) (drop (row_of c b 0) table)
    rows_are table =
        let f = ap (λ (y : Block). y.fetches) x-is in
        let start : n ≡ row_of c b 0 = omega arith in
        let count : (n + x.fetches) - n ≡ fetches_of c b = omega arith in
        ap₂ (λ k m. take k (drop m table)) count start

  module _ (format : InFormat c) where
    pub block_range : BlockRange (block_at c.blocks b)
    block_range = All-get_or BlockRange c.blocks b (record { address = 0; fetches = 0; cycles = 0 }) inside (ranges c format).blocks

    -- the levels of the block
    pub depth_is : length (around c.loops b) + 1 ≡ above_from (all_loops c) b 0
    depth_is =
        let one = above_in (all_loops c) b 0 (omega arith) (true_within (task_loop c) b (omega arith, omega arith)) in
        omega arith

    pub depth_small : Sound c → length (around c.loops b) + 1 ≤ 8
    depth_small sound = let s = ((laws c format sound).shallow b inside).0 in omega arith

  module _ (table : List (List Category)) (long : length table ≡ total_fetches c.blocks) where
    abbrev rows : List (List Category)
    rows = take (fetches_of c b) (drop (row_of c b 0) table)

    pub rows_long : length rows ≡ fetches_of c b
    rows_long = length-take-le (fetches_of c b) (drop (row_of c b 0) table) (let r = rows_room in omega (arith, length-drop (row_of c b 0) table))

    row_is : (j : ℕ) → j < fetches_of c b → get_or rows j [] ≡ get_or table (row_of c b j) []
    row_is j h =
        let e : row_of c b 0 + j ≡ row_of c b j = omega arith in
        get_or-take (fetches_of c b) (drop (row_of c b 0) table) j [] h ∙ get_or-drop (row_of c b 0) table j [] ∙ ap (λ k. get_or table k []) e

    pub paying_is : (pays : Category → Bool) → paying_rows pays rows ≡ paying c (mark_at c table) pays b
    paying_is pays =
        let t : ℕ → Bool = λ j. pays (level_at (get_or rows j []) 0) in
        let u : ℕ → Bool = λ j. pays (mark_at c table b j (innermost (all_loops c) b)) in
        count_passing (λ row. pays (level_at row 0)) [] rows
        ∙ ap (λ n. length (passing t (range_with_len 0 n))) rows_long
        ∙ ap length (passing_same t u 0 (fetches_of c b) (λ k l h.
        ap (λ row. pays (level_at row 0)) (row_is k (omega arith))
        ∙ ap (λ n. pays (level_at (get_or table (row_of c b k) []) n)) (sym (innermost_level (all_loops c) b (omega arith)))))

    -- the lines charged at a loop around the block, by its rows
    pub charged_are : (i level depth : ℕ) → i < length (all_loops c) → within (loop_at (all_loops c) i) b ≡ true → level ≡ level_of c b i → depth ≡ above_from (all_loops c) b 0
        → map (fetch_line c.header.geometry (block_at c.blocks b)) (passing (λ j. charged_row level depth (get_or rows j [])) (range_with_len 0 (length rows)))
        ≡ charged_lines c (mark_at c table) i (b ∷ [])
    charged_are i level depth number around-it level_is depth-eq =
        let t : ℕ → Bool = λ j. charged_row level depth (get_or rows j []) in
        ap (λ n. map (line_of c b) (passing t (range_with_len 0 n))) rows_long
        ∙ ap (map (line_of c b)) (passing_same t (charged_fetch c (mark_at c table) i b) 0 (fetches_of c b) (λ k l h.
        ap (charged_row level depth) (row_is k (omega arith))
        ∙ ap₂ (λ x y. charged_row x y (get_or table (row_of c b k) [])) level_is depth-eq
        ∙ sym (charged_fetch_lem c table b k i number around-it)))
        ∙ sym (append-nil (map (line_of c b) (passing (charged_fetch c (mark_at c table) i b) (range_with_len 0 (fetches_of c b)))))

-- the loops have blocks, and these are the task's
module _ (c : Contents) (format : InFormat c) (sound : Sound c) where
  pub last_inside : (i : ℕ) → i < length (all_loops c) → (loop_at (all_loops c) i).last < length c.blocks
  last_inside zero h = omega (arith, (ranges c format).some)
  last_inside (suc i) h =
      let r = All-get_or (LoopRange (length c.blocks)) c.loops i (record { header = 0; last = 0; limit = 0 }) (omega arith) (ranges c format).loops in
      omega (arith, r.last, (ranges c format).some)

  pub filled : (i : ℕ) → i < length (all_loops c) → (loop_at (all_loops c) i).header ≤ (loop_at (all_loops c) i).last
  filled zero h = omega arith
  filled (suc i) h = (listing c sound).filled i (omega arith)

-- one block of a loop after the other: the lines seen are xs, and then ys
module _ (c : Contents) (marks : Marks) (i : ℕ) where
  lines-append : (bs ds : List ℕ) → charged_lines c marks i (bs ++ ds) ≡ charged_lines c marks i bs ++ charged_lines c marks i ds
  lines-append [] ds = refl
  lines-append (b ∷ bs) ds =
      let own = map (line_of c b) (passing (charged_fetch c marks i b) (range_with_len 0 (fetches_of c b))) in
      ap (λ xs. own ++ xs) (lines-append bs ds) ∙ sym (append_assoc own (charged_lines c marks i bs) (charged_lines c marks i ds))

  abbrev lines_to : ℕ → ℕ → List ℕ
  lines_to h b = distinct [] (charged_lines c marks i (range_with_len h (b - h)))

  pub lines_none : (h b : ℕ) → b ≡ h → [] ≡ lines_to h b
  lines_none h b same = let e : b - h ≡ 0 = omega arith in ap (λ n. distinct [] (charged_lines c marks i (range_with_len h n))) (sym e)

  pub lines_more : (h b : ℕ) (xs ys : List ℕ) → h ≤ b → xs ≡ lines_to h b → ys ≡ distinct xs (charged_lines c marks i (b ∷ [])) → ys ≡ lines_to h (b + 1)
  lines_more h b xs ys low xs-are e =
      let n : (b + 1) - h ≡ (b - h) + 1 = omega arith in
      let at : h + (b - h) ≡ b = omega arith in
      let more : range_with_len h ((b + 1) - h) ≡ range_with_len h (b - h) ++ (b ∷ []) = ap (range_with_len h) n ∙ counting_more h (b - h) ∙ ap (λ x. range_with_len h (b - h) ++ (x ∷ [])) at in
      e ∙ ap (λ zs. distinct zs (charged_lines c marks i (b ∷ []))) xs-are
      ∙ sym (ap (λ zs. distinct [] (charged_lines c marks i zs)) more ∙ ap (distinct []) (lines-append (range_with_len h (b - h)) (b ∷ []))
      ∙ distinct_append [] (charged_lines c marks i (range_with_len h (b - h))) (charged_lines c marks i (b ∷ [])))

  -- the loop's last block is passed
  pub lines-all : (b : ℕ) (l : Loop) (xs : List ℕ) → l ≡ loop_at (all_loops c) i → (loop_at (all_loops c) i).header ≤ (loop_at (all_loops c) i).last
      → l.last + 1 ≤ b → (l.header ≤ l.last + 1 → b ≤ l.last + 1) → xs ≡ lines_to (loop_at (all_loops c) i).header b → xs ≡ charged_at c marks i
  lines-all b l xs same some passed end xs-are =
      let first = ap (λ (k : Loop). k.header) same in
      let final = ap (λ (k : Loop). k.last) same in
      let stop = end (omega arith) in
      let e : b ≡ suc (loop_at (all_loops c) i).last = omega arith in
      xs-are ∙ ap (lines_to (loop_at (all_loops c) i).header) e
