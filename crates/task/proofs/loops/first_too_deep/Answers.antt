use Rattle.std.proofs.Common.{◌<◌, ◌≤◌, rules, tests, arith}
use Rattle.std.proofs.lemmas.Iterator.{first_from_Range}
use Rattle.task.specs.Graph.{levels}
use Rattle.task.specs.Rules.{BreaksDepth}
use Rattle.task.proofs.Finite.{first_found}
use Rattle.task.proofs.loops.first_too_deep.Goals as goal

pub returns : goal.returns
returns c =
    let ls = c.args.loops.now in
    first_found (BreaksDepth c.args.blocks ls) (λ b. 8 < levels ls b) (λ b. levels ls b ≤ 8) 0 c.args.blocks c.find.result
    (first_from_Range _ _ _ c.find.result _ _ c.find.ensures.ran (λ x q k. search (rules, tests)) (λ x q k. search (rules, tests)))
    (λ k l h deep. (h, deep))
    (λ k b. (omega arith, b.0, λ few. absurd (omega arith)))
