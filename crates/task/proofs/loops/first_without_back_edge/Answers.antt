use Rattle.std.proofs.Common.{◌<◌, rules, tests}
use Rattle.std.proofs.lemmas.Iterator.{YieldsList-from_slice, IsFirst-from_position}
use Rattle.records.specs.declared.parts.Loop.{Loop}
use Rattle.task.specs.Rules.{Repeats, BreaksNoBackEdge}
use Rattle.task.proofs.Finite.{first_in}
use Rattle.task.proofs.loops.first_without_back_edge.Goals as goal

pub returns : goal.returns
returns c =
    let ls = c.args.loops.now in
    let es = c.args.edges.now in
    let Lacks : Loop → Type 0 = λ l. (1 < l.limit) × (Repeats es l → ⊥) in
    first_in (BreaksNoBackEdge ls es) Lacks ls (record { header = 0; last = 0; limit = 0 }) c.position.result
    (IsFirst-from_position _ _ c.position.result Lacks (λ l. Lacks l → ⊥) c.position.ensures.ran (YieldsList-from_slice ls cc)
    (λ x q k. search (rules, tests)) (λ x q k. search (rules, tests)))
    (λ k h l. (h, l.0, l.1))
    (λ k b. (b.0, (b.1, b.2)))
