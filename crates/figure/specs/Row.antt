-- What the rows of a table of categories come to.
use Rattle.std.specs.Prelude.{ℕ, zero, suc, ◌+◌, ◌-◌, Bool, false, not, ◌&&◌, ◌||◌, List, slice_index_or}
use Rattle.std.specs.List.{count_by}
use Rattle.records.specs.Contents.{Contents}
use Rattle.longest.specs.declared.ByRound.{ByRound}
use Rattle.longest.specs.Search.{by_round}
use Rattle.categories.specs.declared.category.Category.{Category}
use Rattle.categories.specs.declared.category.Category.TheVariants.{AlwaysMiss}
use Rattle.categories.specs.Category.{Marks}
use Rattle.categories.specs.Costs.{is_first_miss, pays_first, pays_later, paying}

-- the category of a row at a level
abbrev pub level_at : List Category → ℕ → Category
level_at row level = slice_index_or row level AlwaysMiss

-- a first miss at one of the n levels from number k on
abbrev pub miss_from : List Category → ℕ → ℕ → Bool
miss_from row k zero = false
miss_from row k (suc n) = is_first_miss (level_at row k) || miss_from row (k + 1) n

-- a first miss at the level, and at none further out of as many as there are
abbrev pub charged_row : ℕ → ℕ → List Category → Bool
charged_row level depth row = is_first_miss (level_at row level) && not (miss_from row (level + 1) (depth - (level + 1)))

-- how many of these rows pay, by their innermost level
abbrev pub paying_rows : (Category → Bool) → List (List Category) → ℕ
paying_rows pays rows = count_by (λ row. pays (level_at row 0)) rows

-- how many of block b's fetches pay, in each kind of round
abbrev pub paying_both : Contents → Marks → ℕ → ByRound ℕ
paying_both c marks b = by_round (paying c marks pays_first b) (paying c marks pays_later b)
