-- The levels of a row are the loops around its block.
use Rattle.std.proofs.Common.{◌≡◌, ℕ, zero, suc, ◌+◌, ◌-◌, ◌<◌, ◌≤◌, Bool, true, false, not, ◌&&◌, ◌||◌, List, [], length, get_or, drop, sym, ap, ◌∙◌, inl, inr, add-one, arith}
use Rattle.std.proofs.lemmas.Bool.{cases_Bool}
use Rattle.records.specs.declared.parts.Loop.{Loop}
use Rattle.records.specs.Contents.{Contents}
use Rattle.task.specs.Graph.{loop_at, within, around}
use Rattle.task.proofs.Around.{around_more_in, around_more_out, around-all}
use Rattle.walks.specs.Walk.{all_loops, innermost_of, innermost}
use Rattle.categories.specs.declared.category.Category.{Category}
use Rattle.categories.specs.Costs.{is_first_miss, first_miss_before, charged_fetch}
use Rattle.categories.proofs.Loops.{innermost_yes, innermost_no}
use Rattle.marks.specs.Table.{row_of, level_of, mark_at}
use Rattle.figure.specs.Row.{level_at, miss_from, charged_row}
use Rattle.figure.proofs.Steps.{miss_none, at_level}

-- how many loops from number n on have the block
abbrev pub above_from : List Loop → ℕ → ℕ → ℕ
above_from ls b n = length (around (drop n ls) b)

module _ (ls : List Loop) (b : ℕ) where
  pub above_in : (n : ℕ) → n < length ls → within (loop_at ls n) b ≡ true → above_from ls b n ≡ above_from ls b (suc n) + 1
  above_in n h e =
      let s : n + 1 ≡ suc n = add-one n in
      let r = ap (λ k. above_from ls b k) s in
      omega (arith, ap length (around_more_in ls n b h e))

  above_out : (n : ℕ) → n < length ls → within (loop_at ls n) b ≡ false → above_from ls b n ≡ above_from ls b (suc n)
  above_out n h e =
      let s : n + 1 ≡ suc n = add-one n in
      let r = ap (λ k. above_from ls b k) s in
      omega (arith, ap length (around_more_out ls n b h e))

  above_less : (n : ℕ) → n < length ls → above_from ls b (suc n) ≤ above_from ls b n
  above_less n h = elim (cases_Bool (within (loop_at ls n) b)) [ inl e ↦ omega (arith, above_in n h e) | inr e ↦ omega (arith, above_out n h e) ]

  pub above_least : (n : ℕ) → n ≤ length ls → above_from ls b n ≤ above_from ls b 0
  above_least zero h = omega arith
  above_least (suc n) h = omega (arith, above_less n (omega arith), above_least n (omega arith))

  innermost_of_lem : (n : ℕ) → n ≤ length ls → 1 ≤ length ls → above_from ls b n ≡ 0 → above_from ls b (suc (innermost_of ls n b)) ≡ 0
  innermost_of_lem zero h some e = omega (arith, above_less 0 (omega arith))
  innermost_of_lem (suc n) h some e = elim (cases_Bool (within (loop_at ls n) b)) [
    | inl q ↦ ap (λ k. above_from ls b (suc k)) (innermost_yes ls n b q) ∙ e
    | inr q ↦ ap (λ k. above_from ls b (suc k)) (innermost_no ls n b q) ∙ innermost_of_lem n (omega arith) some (above_out n (omega arith) q ∙ e)
  ]

  -- the innermost loop has level 0
  pub innermost_level : 1 ≤ length ls → above_from ls b (suc (innermost ls b)) ≡ 0
  innermost_level some = innermost_of_lem (length ls) (omega arith) some (ap length (around-all ls (length ls) b (omega arith)))

module _ (c : Contents) (table : List (List Category)) (b j : ℕ) where
  abbrev ls : List Loop
  ls = all_loops c

  abbrev row : List Category
  row = get_or table (row_of c b j) []

  abbrev before : ℕ → Bool
  before n = first_miss_before c (mark_at c table) b j n

  -- the loops further out than loop n are the levels behind its own
  before_levels : (n : ℕ) → n ≤ length ls → before n ≡ miss_from row (above_from ls b n) (above_from ls b 0 - above_from ls b n)
  before_levels zero h = sym (miss_none row (above_from ls b 0) (above_from ls b 0) (omega arith))
  before_levels (suc n) h =
      let r = before_levels n (omega arith) in
      let d = above_from ls b 0 in
      let k = above_from ls b (suc n) in
      elim (cases_Bool (within (loop_at ls n) b)) [
        | inl e ↦ (
            let up = above_in ls b n (omega arith) e in
            let less = above_least ls b n (omega arith) in
            ap (λ t. (t && is_first_miss (level_at row k)) || before n) e
            ∙ ap (λ t. is_first_miss (level_at row k) || t) (r ∙ ap (λ x. miss_from row x (d - x)) up)
            ∙ sym (at_level row k d (omega arith)))
        | inr e ↦ (
            ap (λ t. (t && is_first_miss (level_at row k)) || before n) e
            ∙ r ∙ ap (λ x. miss_from row x (d - x)) (above_out ls b n (omega arith) e))
      ]

  -- a fetch is charged at a loop around its block as its row says
  pub charged_fetch_lem : (i : ℕ) → i < length ls → within (loop_at ls i) b ≡ true
      → charged_fetch c (mark_at c table) i b j ≡ charged_row (level_of c b i) (above_from ls b 0) row
  charged_fetch_lem i h e =
      ap (λ t. is_first_miss (level_at row (level_of c b i)) && not t)
      (before_levels i (omega arith) ∙ ap (λ x. miss_from row x (above_from ls b 0 - x)) (above_in ls b i h e))
