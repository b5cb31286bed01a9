-- What blocks and stays cost by the categories of their fetches.
use Rattle.std.specs.Prelude.{ℕ, zero, suc, ◌+◌, ◌*◌, Bool, true, false, not, ◌&&◌, ◌||◌, List, [], ◌∷◌, ◌++◌, map, length, ◌==◌}
use Rattle.std.specs.List.{range_with_len}
use Rattle.records.specs.Contents.{Contents}
use Rattle.task.specs.Graph.{block_at, loop_at, within}
use Rattle.walks.specs.Walk.{all_loops, innermost}
use Rattle.facts.specs.Settling.{blocks_of}
use Rattle.tally.specs.Laws.{Ops, ops_of}
use Rattle.tally.specs.Kinds.{Pair, added_cycles, many_cycles, fewer_cycles, no_pair, added_pairs, many_pairs, lower_pair}
use Rattle.longest.specs.Charge.{Costs}
use Rattle.categories.specs.declared.category.Category.{Category}
use Rattle.categories.specs.declared.category.Category.TheVariants.{AlwaysHit, FirstMiss, FirstHit, AlwaysMiss}
use Rattle.categories.specs.Category.{fetches_of, line_of, Marks}

-- the category is a first miss
abbrev pub is_first_miss : Category → Bool
is_first_miss AlwaysHit = false
is_first_miss FirstMiss = true
is_first_miss FirstHit = false
is_first_miss AlwaysMiss = false

-- it is charged a penalty for each fetch in a first round of its innermost loop, and in a later one
abbrev pub pays_first : Category → Bool
pays_first AlwaysHit = false
pays_first FirstMiss = false
pays_first FirstHit = false
pays_first AlwaysMiss = true

abbrev pub pays_later : Category → Bool
pays_later AlwaysHit = false
pays_later FirstMiss = false
pays_later FirstHit = true
pays_later AlwaysMiss = true

-- those of these numbers that pass the test
abbrev pub passing : (ℕ → Bool) → List ℕ → List ℕ
passing test [] = []
passing test (x ∷ xs) = elim (test x) [ true ↦ x ∷ passing test xs | false ↦ passing test xs ]

-- t is one of these
abbrev pub one_of_these : ℕ → List ℕ → Bool
one_of_these t [] = false
one_of_these t (u ∷ us) = t == u || one_of_these t us

-- the lines seen, and behind them line t if it is not one of them
abbrev pub added : List ℕ → ℕ → List ℕ
added seen t = elim (one_of_these t seen) [ true ↦ seen | false ↦ seen ++ (t ∷ []) ]

-- the lines seen, and behind them the others, each once
abbrev pub distinct : List ℕ → List ℕ → List ℕ
distinct seen [] = seen
distinct seen (t ∷ ts) = distinct (added seen t) ts

module _ (c : Contents) (marks : Marks) where
  -- the fetch is a first miss at one of those of the first n loops that have its block
  abbrev pub first_miss_before : ℕ → ℕ → ℕ → Bool
  first_miss_before b j zero = false
  first_miss_before b j (suc n) = (within (loop_at (all_loops c) n) b && is_first_miss (marks b j n)) || first_miss_before b j n

  -- fetch j of block b is a first miss at loop i, and at no loop further out
  abbrev pub charged_fetch : ℕ → ℕ → ℕ → Bool
  charged_fetch i b j = is_first_miss (marks b j i) && not (first_miss_before b j i)

  -- the lines of these blocks' fetches that are charged at loop i
  abbrev pub charged_lines : ℕ → List ℕ → List ℕ
  charged_lines i [] = []
  charged_lines i (b ∷ bs) = map (line_of c b) (passing (charged_fetch i b) (range_with_len 0 (fetches_of c b))) ++ charged_lines i bs

  -- the lines charged at loop i, each once
  abbrev pub charged_at : ℕ → List ℕ
  charged_at i = distinct [] (charged_lines i (blocks_of (loop_at (all_loops c) i)))

  -- how many of block b's fetches pay, by their categories at its innermost loop
  abbrev pub paying : (Category → Bool) → ℕ → ℕ
  paying pays b = length (passing (λ j. pays (marks b j (innermost (all_loops c) b))) (range_with_len 0 (fetches_of c b)))

  -- own cycles, a hit for each fetch, and a penalty for each fetch that pays; of a stay, a penalty for each line charged
  abbrev pub cycle_costs : Costs ℕ
  cycle_costs = record {
    first = λ b. (block_at c.blocks b).cycles + (c.header.hit * fetches_of c b + c.header.penalty * paying pays_first b);
    later = λ b. (block_at c.blocks b).cycles + (c.header.hit * fetches_of c b + c.header.penalty * paying pays_later b);
    stay = λ i. c.header.penalty * length (charged_at i);
  }

  -- the charged misses alone, and the fetches
  abbrev pub pair_costs : Costs Pair
  pair_costs = record {
    first = λ b. (paying pays_first b, fetches_of c b);
    later = λ b. (paying pays_later b, fetches_of c b);
    stay = λ i. (length (charged_at i), 0);
  }

-- the tallies of the two
abbrev pub cycle_tally : Ops ℕ
cycle_tally = ops_of 0 added_cycles many_cycles fewer_cycles

abbrev pub pair_tally : Ops Pair
pair_tally = ops_of no_pair added_pairs many_pairs lower_pair
