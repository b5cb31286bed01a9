use Rattle.std.proofs.Common.{ℕ, ◌<◌, rules, tests, arith}
use Rattle.std.proofs.lemmas.Iterator.{first_from_Range}
use Rattle.task.specs.Graph.{Leads}
use Rattle.task.specs.Rules.{BreaksUnreached}
use Rattle.task.proofs.Finite.{first_found}
use Rattle.task.proofs.blocks.first_unreached.Goals as goal

pub returns : goal.returns
returns c =
    let es = c.args.edges.now in
    first_found (BreaksUnreached c.args.blocks es) (λ b. (p : ℕ) × (p < b) × Leads es p b → ⊥) (λ b. (p : ℕ) × (p < b) × Leads es p b) 1 c.args.blocks c.find.result
    (first_from_Range _ _ _ c.find.result _ _ c.find.ensures.ran (λ x q k. search (rules, tests)) (λ x q k. search (rules, tests)))
    (λ k l h free. (omega arith, omega arith, λ p below leads. free (p, below, leads)))
    (λ k b. (omega arith, omega arith, λ (p, below, leads). b.2 p below leads))
