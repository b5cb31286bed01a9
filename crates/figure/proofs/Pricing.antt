-- Lists of costs, and the search over them.
use Rattle.std.proofs.Common.{◌≡◌, ℕ, ◌^◌, ◌<◌, List, map, length, get_or, Option, Some, None, sym, ap, ◌∙◌, subst, zero-add, arith, rules}
use Rattle.std.specs.List.{range_with_len, zip, All}
use Rattle.std.specs.Option.{IsSome}
use Rattle.std.proofs.lemmas.List.{get_or-map, length-map}
use Rattle.std.proofs.lemmas.List.Elements.{All-from_get_or}
use Rattle.std.proofs.lemmas.List.FromFn.{length-map-range_with_len, get_or-map-range_with_len}
use Rattle.records.specs.declared.parts.Header.{Header}
use Rattle.records.specs.declared.parts.Block.{Block}
use Rattle.records.specs.Contents.{Contents}
use Rattle.records.specs.Layout.{InFormat}
use Rattle.task.specs.Graph.{block_at}
use Rattle.task.specs.Rules.{Sound}
use Rattle.walks.specs.Walk.{all_loops}
use Rattle.tally.specs.Laws.{Ops, TallyLaws}
use Rattle.tally.specs.Kinds.{cycles_size, pair_size}
use Rattle.longest.specs.declared.ByRound.{ByRound}
use Rattle.longest.specs.declared.Cell.{Cell}
use Rattle.longest.specs.Charge.{Costs, Greatest}
use Rattle.longest.specs.Search.{by_round, figure_of}
use Rattle.longest.specs.Sizes.{Cheap}
use Rattle.longest.proofs.Theorem.{finds}
use Rattle.categories.specs.Category.{Marks}
use Rattle.categories.specs.Costs.{pays_first, pays_later, paying, charged_at, cycle_costs, pair_costs}
use Rattle.categories.proofs.Sizes.{cycle_costs_small, pair_costs_small}
use Rattle.search.specs.Outcome.{costs_of, Fits, CostList, Accepted, Answers}
use Rattle.figure.specs.Figure.{Found}
use Rattle.figure.specs.Price.{count_at, block_priced, priced}
use Rattle.figure.specs.Row.{paying_both}
use Rattle.figure.proofs.Agree.{CostsAgree, figure_agree}
use Rattle.figure.proofs.Lists.{map_same, zip_places, zip_each}

cost_list : {T : Type 0} (m : Ops T) (size : T → ℕ) (f : ℕ → T) (n : ℕ) (xs : List T) → xs ≡ map f (range_with_len 0 n)
    → ((k : ℕ) → k < n → Fits size (f k)) → CostList size n xs
cost_list m size f n xs xs-are small =
    let long : length xs ≡ n = ap length xs-are ∙ length-map-range_with_len f 0 n in
    record {
      long = long;
      fits = All-from_get_or (Fits size) xs m.none (λ k h.
          let less : k < n = omega arith in
          subst (Fits size) (sym (ap (λ ys. get_or ys k m.none) xs-are ∙ get_or-map-range_with_len f 0 n k k m.none less (zero-add k))) (small k less));
    }

module _ {T : Type 0} (m : Ops T) (size : T → ℕ) (costs : Costs T) (c : Contents) (fs ns ss : List T)
    (fs-are : fs ≡ map costs.first (range_with_len 0 (length c.blocks)))
    (ns-are : ns ≡ map costs.later (range_with_len 0 (length c.blocks)))
    (ss-are : ss ≡ map costs.stay (range_with_len 0 (length (all_loops c)))) where
  -- the search takes the lists
  pub accepted : Cheap size costs c → (s : List (Cell T)) → length s ≡ length c.blocks → Accepted size c fs ns ss s
  accepted cheap s cells = record {
    first = cost_list m size costs.first (length c.blocks) fs fs-are cheap.first;
    later = cost_list m size costs.later (length c.blocks) ns ns-are cheap.later;
    stays = cost_list m size costs.stay (length (all_loops c)) ss ss-are cheap.stay;
    cells = cells;
  }

  some_of : (s after : List (Cell T)) (r : Option T) → Answers m size c fs ns ss s after r → Accepted size c fs ns ss s → IsSome r
  some_of s after (Some t) answers ok = search rules
  some_of s after None answers ok = absurd (answers.0 ok)

  -- so it answers
  module _ (s after : List (Cell T)) (r : Option T) (answers : Answers m size c fs ns ss s after r) where
    pub answered : Accepted size c fs ns ss s → IsSome r
    answered ok = some_of s after r answers ok

    pub answer_is : (t : T) → r ≡ Some t → t ≡ figure_of m (costs_of m fs ns ss) c
    answer_is t some = (subst (Answers m size c fs ns ss s after) some answers).1.figure

  lists_agree : CostsAgree c (costs_of m fs ns ss) costs
  lists_agree = record {
    first = λ b h. ap (λ xs. get_or xs b m.none) fs-are ∙ get_or-map-range_with_len costs.first 0 (length c.blocks) b b m.none h (zero-add b);
    later = λ b h. ap (λ xs. get_or xs b m.none) ns-are ∙ get_or-map-range_with_len costs.later 0 (length c.blocks) b b m.none h (zero-add b);
    stay = λ i h. ap (λ xs. get_or xs i m.none) ss-are ∙ get_or-map-range_with_len costs.stay 0 (length (all_loops c)) i i m.none h (zero-add i);
  }

  -- and finds the figure of the costs
  pub figure_is : (t : T) → t ≡ figure_of m (costs_of m fs ns ss) c → t ≡ figure_of m costs c
  figure_is t e = e ∙ figure_agree m c (costs_of m fs ns ss) costs lists_agree

-- the prices of the blocks in one kind of round, by the counts of that kind
module _ {T : Type 0} (block : Header → Block → ℕ → T) (size : T → ℕ) (c : Contents) (ps : List (ByRound ℕ)) (long : length ps ≡ length c.blocks)
    (kind : ByRound ℕ → ℕ) (ns : List ℕ) (ns-are : ns ≡ map kind ps) where
  abbrev no_block : Block
  no_block = record { address = 0; fetches = 0; cycles = 0 }

  abbrev price : ℕ → T
  price b = block c.header (block_at c.blocks b) (kind (count_at ps b))

  kind_at : (b : ℕ) → b < length c.blocks → get_or ns b 0 ≡ kind (count_at ps b)
  kind_at b h = ap (λ xs. get_or xs b 0) ns-are ∙ get_or-map kind ps b (by_round 0 0) 0 (omega (arith, long))

  kind_long : length ns ≡ length c.blocks
  kind_long = ap length ns-are ∙ length-map ps kind ∙ long

  pub prices_fit : ((b : ℕ) → b < length c.blocks → Fits size (price b)) → All (λ p. Fits size (block_priced block c.header p)) (zip c.blocks ns)
  prices_fit fit = zip_each no_block 0 (λ p. Fits size (block_priced block c.header p)) c.blocks ns kind_long
      (λ b h. subst (λ n. Fits size (block c.header (block_at c.blocks b) n)) (sym (kind_at b h)) (fit b h))

  pub prices_are : map (block_priced block c.header) (zip c.blocks ns) ≡ map price (range_with_len 0 (length c.blocks))
  prices_are =
      zip_places no_block 0 (block_priced block c.header) c.blocks ns kind_long
      ∙ map_same _ _ 0 (length c.blocks) (λ b _ h. ap (block c.header (block_at c.blocks b)) (kind_at b (omega arith)))

-- costs that agree with small ones are small
pub cheap_agree : {T : Type 0} (size : T → ℕ) (c : Contents) (p q : Costs T) → CostsAgree c p q → Cheap size q c → Cheap size p c
cheap_agree size c p q a cheap = record {
  first = λ b h. subst (λ x. size x < 2 ^ 32) (sym (a.first b h)) (cheap.first b h);
  later = λ b h. subst (λ x. size x < 2 ^ 32) (sym (a.later b h)) (cheap.later b h);
  stay = λ i h. subst (λ x. size x < 2 ^ 32) (sym (a.stay i h)) (cheap.stay i h);
}

-- the figure is the greatest charge
greatest_of : {T : Type 0} (m : Ops T) (size : T → ℕ) → TallyLaws m size → (c : Contents) → InFormat c → Sound c → (costs : Costs T) (t : T) → t ≡ figure_of m costs c
    → Greatest m costs c t
greatest_of m size lawful c format sound costs t figure =
    subst (Greatest m costs c) (sym figure) (finds lawful costs c format sound)

-- what is counted, priced, agrees with the costs by the marks
module _ {T : Type 0} (block : Header → Block → ℕ → T) (stay : Header → ℕ → T) (c : Contents) (marks : Marks) (ps : List (ByRound ℕ)) (ss : List ℕ)
    (ps-are : ps ≡ map (paying_both c marks) (range_with_len 0 (length c.blocks)))
    (ss-are : ss ≡ map (λ i. length (charged_at c marks i)) (range_with_len 0 (length (all_loops c)))) where
  abbrev marked : Costs T
  marked = record {
    first = λ b. block c.header (block_at c.blocks b) (paying c marks pays_first b);
    later = λ b. block c.header (block_at c.blocks b) (paying c marks pays_later b);
    stay = λ i. stay c.header (length (charged_at c marks i));
  }

  counted_at : (b : ℕ) → b < length c.blocks → count_at ps b ≡ paying_both c marks b
  counted_at b h = ap (λ xs. count_at xs b) ps-are ∙ get_or-map-range_with_len (paying_both c marks) 0 (length c.blocks) b b (by_round 0 0) h (zero-add b)

  pub counts_agree : CostsAgree c (priced block stay c ps ss) marked
  counts_agree = record {
    first = λ b h. ap (λ (x : ByRound ℕ). block c.header (block_at c.blocks b) x.first) (counted_at b h);
    later = λ b h. ap (λ (x : ByRound ℕ). block c.header (block_at c.blocks b) x.later) (counted_at b h);
    stay = λ i h. ap (stay c.header) (ap (λ xs. get_or xs i 0) ss-are ∙ get_or-map-range_with_len (λ n. length (charged_at c marks n)) 0 (length (all_loops c)) i i 0 h (zero-add i));
  }

  pub blocks_long : length ps ≡ length c.blocks
  blocks_long = ap length ps-are ∙ length-map-range_with_len (paying_both c marks) 0 (length c.blocks)

  pub stays_long : length ss ≡ length (all_loops c)
  stays_long = ap length ss-are ∙ length-map-range_with_len (λ n. length (charged_at c marks n)) 0 (length (all_loops c))

  -- the figure of the counts is that of the marks, and it is the greatest charge
  pub found : (m : Ops T) (size : T → ℕ) → TallyLaws m size → InFormat c → Sound c → (t : T) → t ≡ figure_of m (priced block stay c ps ss) c → Found m marked c t
  found m size lawful format sound t e =
      let figure : t ≡ figure_of m marked c = e ∙ figure_agree m c (priced block stay c ps ss) marked counts_agree in
      record { figure = figure; greatest = greatest_of m size lawful c format sound marked t figure }

-- what is found by some costs is found by others that agree with them
pub found_agree : {T : Type 0} (m : Ops T) (size : T → ℕ) → TallyLaws m size → (c : Contents) → InFormat c → Sound c → (p q : Costs T) → CostsAgree c p q
    → (t : T) → Found m p c t → Found m q c t
found_agree m size lawful c format sound p q a t f =
    let figure : t ≡ figure_of m q c = f.figure ∙ figure_agree m c p q a in
    record { figure = figure; greatest = greatest_of m size lawful c format sound q t figure }

-- both kinds of costs are small
module _ (c : Contents) (format : InFormat c) (marks : Marks) where
  pub cycles_cheap : Cheap cycles_size (cycle_costs c marks) c
  cycles_cheap = record {
    first = λ b h. (cycle_costs_small c format marks b 0 (omega arith)).0;
    later = λ b h. (cycle_costs_small c format marks b 0 (omega arith)).1;
    stay = λ i h. (cycle_costs_small c format marks 0 i h).2;
  }

  pub pairs_cheap : Cheap pair_size (pair_costs c marks) c
  pairs_cheap = record {
    first = λ b h. (pair_costs_small c format marks b 0 (omega arith)).0;
    later = λ b h. (pair_costs_small c format marks b 0 (omega arith)).1;
    stay = λ i h. (pair_costs_small c format marks 0 i h).2;
  }
