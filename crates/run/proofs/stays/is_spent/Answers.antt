use Rattle.std.proofs.Common.{◌≡◌, ℕ, ◌≤◌, length, get_or, refl, rules, tests, arith}
use Rattle.std.proofs.lemmas.Grind.{common_steps}
use Rattle.std.proofs.lemmas.Option.{gets}
use Rattle.std.proofs.lemmas.Iterator.{YieldsList-from_range, cases_from_any}
use Rattle.task.specs.Graph.{loop_at}
use Rattle.task.specs.View.{task_contents}
use Rattle.task.proofs.Finite.{any_below}
use Rattle.walks.specs.Walk.{all_loops}
use Rattle.run.proofs.stays.is_spent.Goals as goal

pub returns : goal.returns
returns c =
    let ls = all_loops (task_contents c.args.task.now) in
    let Full : ℕ → Type 0 = λ i. ((loop_at ls i).header ≡ c.args.b) × ((loop_at ls i).limit ≤ get_or c.args.rounds.now i 0) in
    any_below Full (λ i. Full i → ⊥) (length ls) _ c.any.result
    (cases_from_any _ _ c.any.result Full (λ i. Full i → ⊥) c.any.ensures.ran (YieldsList-from_range 0 _ (length ls) refl (omega arith))
    (λ x q k. grind (arith, common_steps, gets)) (λ x q k. (search (rules, tests), λ full. grind (arith, common_steps, gets))))
    (λ k h full. (k, h, full.0, full.1))
    (λ (k, h, e, l) none. none k h (e, l))
