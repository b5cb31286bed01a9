-- The steps of the functions over rows.
use Rattle.std.proofs.Common.{◌≡◌, ℕ, zero, suc, ◌+◌, ◌-◌, ◌<◌, ◌≤◌, Bool, true, false, not, ◌&&◌, ◌||◌, List, [], ◌∷◌, length, get_or, take, drop, sym, refl, ap, ◌∙◌, ap₂, arith}
use Rattle.std.specs.List.{list_any}
use Rattle.std.proofs.lemmas.List.{get_or_default, drop_more}
use denote.Enum.Bare.{sameb}
use Rattle.records.specs.declared.parts.Block.{Block}
use Rattle.task.specs.Graph.{total_fetches}
use Rattle.categories.specs.declared.category.Category.{Category}
use Rattle.categories.specs.declared.category.Category.TheVariants.{AlwaysHit, FirstMiss, FirstHit, AlwaysMiss}
use Rattle.categories.specs.contracts.category.Category.{the_type}
use Rattle.categories.specs.Costs.{is_first_miss}
use Rattle.figure.specs.Row.{level_at, miss_from, charged_row}

module _ (row : List Category) (k d : ℕ) where
  pub at_level : k < d → miss_from row k (d - k) ≡ is_first_miss (level_at row k) || miss_from row (k + 1) (d - (k + 1))
  at_level h = let e : d - k ≡ suc (d - (k + 1)) = omega arith in ap (miss_from row k) e

  pub miss_none : d ≤ k → miss_from row k (d - k) ≡ false
  miss_none h = let e : d - k ≡ 0 = omega arith in ap (miss_from row k) e

-- the levels of a row by its slice
miss_slice : (row : List Category) (k n : ℕ) → k + n ≤ length row → list_any is_first_miss (take n (drop k row)) ≡ miss_from row k n
miss_slice row k zero h = refl
miss_slice row k (suc n) h =
    ap (λ xs. list_any is_first_miss (take (suc n) xs)) (drop_more row k AlwaysMiss (omega arith))
    ∙ ap (λ t. is_first_miss (level_at row k) || t) (miss_slice row (k + 1) n (omega arith))

pub fetches_split : (bs : List Block) (n : ℕ) → total_fetches (take n bs) + total_fetches (drop n bs) ≡ total_fetches bs
fetches_split bs zero = omega arith
fetches_split [] (suc n) = refl
fetches_split (b ∷ bs) (suc n) = let r = fetches_split bs n in omega arith

-- what equals a first miss is one
pub first_miss_is : (x : Category) → true ≡ sameb the_type x FirstMiss → is_first_miss x ≡ true
first_miss_is AlwaysHit e = sym e
first_miss_is FirstMiss e = refl
first_miss_is FirstHit e = sym e
first_miss_is AlwaysMiss e = sym e

-- a category that is read, at the default of levels
pub level_read : {X : Type 0} (f : Category → X) (row : List Category) (k : ℕ) (x : X) → k < length row → x ≡ f (get_or row k AlwaysHit) → f (level_at row k) ≡ x
level_read f row k x h e = sym (e ∙ ap f (get_or_default row k AlwaysHit AlwaysMiss h))

-- a first miss at the level is charged if there is none further out
pub charged_if : (row : List Category) (level depth : ℕ) (r : Bool) → depth ≤ length row → is_first_miss (level_at row level) ≡ true
    → r ≡ list_any is_first_miss (take (depth - (level + 1)) (drop (level + 1) row)) → level < depth → not r ≡ charged_row level depth row
charged_if row level depth r deep miss r-is less =
    sym (ap₂ (λ x y. x && not y) miss (sym (miss_slice row (level + 1) (depth - (level + 1)) (omega arith)) ∙ sym r-is))
