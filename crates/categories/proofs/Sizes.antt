-- The costs of blocks and stays are small.
use Rattle.std.proofs.Common.{ℕ, zero, suc, ◌+◌, ◌-◌, ◌*◌, ◌^◌, ◌<◌, ◌≤◌, Bool, List, [], ◌∷◌, map, length, sym, ap, ◌∙◌, subst, inl, inr, mul-le-mul, arith, length-append}
use lib.ListN.{length-map}
use Rattle.std.specs.List.{range_with_len}
use Rattle.std.proofs.lemmas.List.FromFn.{length-range_with_len}
use Rattle.std.proofs.ByRecursion.{All-get_or}
use Rattle.std.proofs.lemmas.List.{length_push, get_or_past}
use Rattle.std.proofs.lemmas.Bool.{cases_Bool, cases_lt}
use Rattle.records.specs.Contents.{Contents}
use Rattle.records.specs.Layout.{InFormat}
use Rattle.records.proofs.Ranges.{BlockRange, LoopRange, ranges}
use Rattle.task.specs.Graph.{block_at, loop_at}
use Rattle.walks.specs.Walk.{all_loops, innermost}
use Rattle.facts.specs.Settling.{blocks_of}
use Rattle.tally.specs.Kinds.{pair_size}
use Rattle.categories.specs.declared.category.Category.{Category}
use Rattle.categories.specs.Category.{fetches_of, line_of, Marks}
use Rattle.categories.specs.Costs.{pays_first, pays_later, passing, one_of_these, added, distinct, charged_fetch, charged_lines, charged_at, paying, cycle_costs, pair_costs}
use Rattle.categories.proofs.Lists.{passing_yes, passing_no}
use Rattle.categories.proofs.Charged.{added_yes, added_no}

length-passing : (test : ℕ → Bool) (xs : List ℕ) → length (passing test xs) ≤ length xs
length-passing test [] = omega arith
length-passing test (x ∷ xs) =
    let r = length-passing test xs in
    elim (cases_Bool (test x))
    [ inl e ↦ (let z = ap length (passing_yes test x xs e) in omega arith) | inr e ↦ (let z = ap length (passing_no test x xs e) in omega arith) ]

length-added : (seen : List ℕ) (t : ℕ) → length (added seen t) ≤ suc (length seen)
length-added seen t = elim (cases_Bool (one_of_these t seen)) [
  | inl e ↦ (let z = ap length (added_yes seen t e) in omega arith)
  | inr e ↦ (let z = ap length (added_no seen t e) ∙ length_push seen t in omega arith)
]

length-distinct : (seen ts : List ℕ) → length (distinct seen ts) ≤ length seen + length ts
length-distinct seen [] = omega arith
length-distinct seen (t ∷ ts) = let r = length-distinct (added seen t) ts in let a = length-added seen t in omega arith

module _ (c : Contents) (format : InFormat c) where
  -- of a block, and of a number that is no block's
  block_small : (b : ℕ) → (fetches_of c b ≤ 64) × ((block_at c.blocks b).cycles ≤ 65535)
  block_small b = elim (cases_lt b (length c.blocks)) [
    | inl h ↦ (let r = All-get_or BlockRange c.blocks b (record { address = 0; fetches = 0; cycles = 0 }) h (ranges c format).blocks in (r.fetches, r.cycles))
    | inr h ↦
        subst (λ x. (x.fetches ≤ 64) × (x.cycles ≤ 65535)) (sym (get_or_past c.blocks b (record { address = 0; fetches = 0; cycles = 0 }) h))
        (omega arith, omega arith)
  ]

  module _ (marks : Marks) where
    paying_small : (pays : Category → Bool) (b : ℕ) → paying c marks pays b ≤ 64
    paying_small pays b =
        let r = length-passing (λ j. pays (marks b j (innermost (all_loops c) b))) (range_with_len 0 (fetches_of c b)) in
        omega (arith, length-range_with_len 0 (fetches_of c b), (block_small b).0)

    lines_small : (i : ℕ) (bs : List ℕ) → length (charged_lines c marks i bs) ≤ 64 * length bs
    lines_small i [] = omega arith
    lines_small i (b ∷ bs) =
        let js = passing (charged_fetch c marks i b) (range_with_len 0 (fetches_of c b)) in
        let r = lines_small i bs in
        let few = length-passing (charged_fetch c marks i b) (range_with_len 0 (fetches_of c b)) in
        omega (arith, length-append (map (line_of c b) js) (charged_lines c marks i bs), length-map js (line_of c b), length-range_with_len 0 (fetches_of c b), (block_small b).0)

    last_small : (i : ℕ) → i < length (all_loops c) → (loop_at (all_loops c) i).last ≤ 127
    last_small zero h = omega (arith, (ranges c format).few_blocks)
    last_small (suc i) h =
        let r = All-get_or (LoopRange (length c.blocks)) c.loops i (record { header = 0; last = 0; limit = 0 }) (omega arith) (ranges c format).loops in
        omega (arith, r.last, (ranges c format).few_blocks)

    -- as many lines as 128 blocks of 64 fetches have at most
    pub charged_small : (i : ℕ) → i < length (all_loops c) → length (charged_at c marks i) ≤ 8192
    charged_small i h =
        let l = loop_at (all_loops c) i in
        let d = length-distinct [] (charged_lines c marks i (blocks_of l)) in
        let s = lines_small i (blocks_of l) in
        let n = length-range_with_len l.header (suc l.last - l.header) in
        omega (arith, last_small i h)

    -- 64 fetches and their penalties
    pub entry_few : (pays : Category → Bool) (b : ℕ)
        → (block_at c.blocks b).cycles + (c.header.hit * fetches_of c b + c.header.penalty * paying c marks pays b) ≤ 343935
    entry_few pays b =
        let s = block_small b in
        let hits = mul-le-mul (ranges c format).header.hit_high s.0 in
        let misses = mul-le-mul (ranges c format).header.penalty (paying_small pays b) in
        omega (arith, s.1)

    -- the penalties of 8,192 lines
    pub stay_few : (i : ℕ) → i < length (all_loops c) → c.header.penalty * length (charged_at c marks i) ≤ 33546240
    stay_few i h = let s = mul-le-mul (ranges c format).header.penalty (charged_small i h) in omega arith

    cost_small : (pays : Category → Bool) (b : ℕ)
        → (block_at c.blocks b).cycles + (c.header.hit * fetches_of c b + c.header.penalty * paying c marks pays b) < 2 ^ 32
    cost_small pays b = omega (arith, entry_few pays b)

    pub cycle_costs_small : (b i : ℕ) → i < length (all_loops c)
        → ((cycle_costs c marks).first b < 2 ^ 32) × ((cycle_costs c marks).later b < 2 ^ 32) × ((cycle_costs c marks).stay i < 2 ^ 32)
    cycle_costs_small b i h =
        (cost_small pays_first b, cost_small pays_later b, omega (arith, stay_few i h))

    pub pair_costs_small : (b i : ℕ) → i < length (all_loops c)
        → (pair_size ((pair_costs c marks).first b) < 2 ^ 32) × (pair_size ((pair_costs c marks).later b) < 2 ^ 32) × (pair_size ((pair_costs c marks).stay i) < 2 ^ 32)
    pair_costs_small b i h =
        let s = block_small b in
        (omega (arith, s.0, paying_small pays_first b), omega (arith, s.0, paying_small pays_later b), omega (arith, charged_small i h))
