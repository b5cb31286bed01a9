use Rattle.std.proofs.Common.{◌<◌, rules, tests, arith}
use Rattle.std.proofs.lemmas.Iterator.{first_from_Range}
use Rattle.task.specs.Graph.{limits}
use Rattle.task.specs.Rules.{BreaksLimitProduct}
use Rattle.task.proofs.Finite.{first_found}
use Rattle.task.proofs.loops.first_over_limit.Goals as goal

pub returns : goal.returns
returns c =
    let ls = c.args.loops.now in
    first_found (BreaksLimitProduct c.args.blocks ls) (λ b. 1000000 < limits ls b) (λ b. 1000000 < limits ls b → ⊥) 0 c.args.blocks c.find.result
    (first_from_Range _ _ _ c.find.result _ _ c.find.ensures.ran (λ x q k. search (rules, tests)) (λ x q k. search (rules, tests)))
    (λ k l h over. (h, over))
    (λ k b. (omega arith, b.0, λ few. few b.1))
