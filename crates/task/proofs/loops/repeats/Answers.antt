use Rattle.std.proofs.Common.{◌≡◌, refl, rules, tests, arith}
use Rattle.std.proofs.lemmas.Iterator.{YieldsList-from_slice, cases_from_any}
use Rattle.task.specs.Graph.{Within}
use Rattle.task.proofs.Finite.{any_found}
use Rattle.task.proofs.loops.repeats.Goals as goal

pub returns : goal.returns
returns c =
    let l = c.args.l in
    let es = c.args.edges.now in
    any_found (λ e. (e.to ≡ l.header) × Within l e.from) (λ e. e.to ≡ l.header → Within l e.from → ⊥) es _ _
    (cases_from_any _ _ _ (λ e. (e.to ≡ l.header) × Within l e.from) (λ e. e.to ≡ l.header → Within l e.from → ⊥) c.any.ensures.ran (YieldsList-from_slice es cc)
    (λ x q k. search (rules, tests)) (λ x q k. search (rules, tests)))
    (λ k h y. let e = y (record { from = 0; to = 0 }) in (_, (k, h, refl, e.0), e.1))
    (λ (p, (k, h, f, t), w) all. all k (record { from = 0; to = 0 }) (omega arith) h t (omega arith))
