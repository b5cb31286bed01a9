use Rattle.std.proofs.Common.{ℕ, ◌-◌, ◌+◌, length, rules, tests, arith}
use Rattle.std.proofs.lemmas.Bool.Decides.{nat_tests}
use Rattle.std.proofs.lemmas.Iterator.{first_from_Range}
use Rattle.task.specs.Graph.{edge_at}
use Rattle.task.specs.Rules.{Before, BreaksEdgeOrder}
use Rattle.task.proofs.Finite.{first_by}
use Rattle.task.proofs.Order.{in_order}
use Rattle.task.proofs.edges.first_out_of_order.Goals as goal

pub returns : goal.returns
returns c =
    let es = c.args.edges.now in
    let After : ℕ → Type 0 = λ k. Before (edge_at es (k - 1)) (edge_at es k) in
    first_by (BreaksEdgeOrder es) (λ k. After k → ⊥) After 1 (length es) c.find.result
    (first_from_Range _ _ _ c.find.result (λ k. After k → ⊥) After c.find.ensures.ran (λ x q k. grind (arith, nat_tests)) (λ x q k. (search (rules, tests), grind (arith, nat_tests))))
    (λ k l h unlike. (h, (k - 1, omega arith, unlike)))
    (λ k b. (b.0, λ sorted. b.1.2 (in_order es (k + 1) (λ j pos l. sorted j (omega arith) (omega arith)) k (omega arith) b.1.0 b.1.1)))
