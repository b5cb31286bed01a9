use Rattle.std.proofs.Common.{◌≡◌, ℕ, nat_lt, List, Option, inl, inr, refl, ap, ◌∙◌, sym, subst, rules, arith}
use Rattle.std.specs.Bool.{then_some}
use Rattle.std.proofs.lemmas.Bool.{cases_Bool, both_ways}
use Rattle.std.proofs.lemmas.Bool.Decides.{Decides-ltb}
use Rattle.std.proofs.lemmas.Iterator.{YieldsList-from_slice, YieldsList-from_map}
use Rattle.std.proofs.lemmas.Iterator.Consumers.{fits_by_from_yields_list, sum_by_from_yields_List}
use Rattle.std.proofs.lemmas.List.Recursion.{is_sum_by}
use Rattle.records.specs.declared.parts.Block.{Block}
use Rattle.task.specs.First.{First}
use Rattle.task.specs.Graph.{total_fetches}
use Rattle.task.specs.Rules.{BreaksTooManyFetches}
use Rattle.task.proofs.blocks.too_many_fetches.Goals as goal

pub sum-total-requires-clause-fits : goal.sum-total-requires-clause-fits
sum-total-requires-clause-fits c =
    let bs = c.args.blocks.now in
    fits_by_from_yields_list (λ b. b.fetches) bs c.map.result _
    (YieldsList-from_map _ (λ b. b.fetches) (YieldsList-from_slice bs cc) c.map.ensures.closure (λ x r q k. search rules))
    (omega (arith, is_sum_by total_fetches (λ b. b.fetches) refl (λ _ _. refl) bs))

-- place 0 is named where there are too many
too_many : (bs : List Block) (n : ℕ) (r : Option ℕ) → n ≡ total_fetches bs → r ≡ then_some (nat_lt 1024 n) 0 → First (BreaksTooManyFetches bs) r
too_many bs n r total is =
    let tells = Decides-ltb 1024 n in
    elim (cases_Bool (nat_lt 1024 n)) [
      | inl over ↦ subst (First (BreaksTooManyFetches bs)) (sym (is ∙ ap (λ t. then_some t 0) over)) ((refl, omega (arith, tells.0 over)), λ j h. absurd (omega arith))
      | inr few ↦ subst (First (BreaksTooManyFetches bs)) (sym (is ∙ ap (λ t. then_some t 0) few)) (λ k b. both_ways _ few (tells.1 (omega (arith, b.1))))
    ]

pub returns : goal.returns
returns c =
    let bs = c.args.blocks.now in
    let total = sum_by_from_yields_List (λ b. b.fetches) bs c.map.result c.sum-total.result c.sum-total.ensures.ran
    (YieldsList-from_map _ (λ b. b.fetches) (YieldsList-from_slice bs cc) c.map.ensures.closure (λ x r q k. search rules))
    ∙ sym (is_sum_by total_fetches (λ b. b.fetches) refl (λ _ _. refl) bs) in
    too_many bs c.sum-total.result c.then_some.result total c.then_some.ensures
