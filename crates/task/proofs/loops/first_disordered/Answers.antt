use Rattle.std.proofs.Common.{rules, tests, arith}
use Rattle.std.proofs.lemmas.Iterator.{first_from_Range}
use Rattle.task.specs.Rules.{Disordered, BreaksLoopOrder}
use Rattle.task.proofs.Finite.{first_found}
use Rattle.task.proofs.loops.first_disordered.Goals as goal

pub returns : goal.returns
returns c =
    let ls = c.args.loops.now in
    first_found (BreaksLoopOrder ls) (Disordered ls) (λ k. Disordered ls k → ⊥) 0 _ c.find.result
    (first_from_Range _ _ _ c.find.result (Disordered ls) (λ k. Disordered ls k → ⊥) c.find.ensures.ran (λ x q k. search (rules, tests)) (λ x q k. search (rules, tests)))
    (λ k l h d. (omega arith, d))
    (λ k b. (omega arith, omega arith, λ none. none b.1))
