use Rattle.std.proofs.Common.{◌≡◌, ◌<◌, refl, rules, tests, arith}
use Rattle.std.proofs.lemmas.Iterator.{YieldsList-from_slice, cases_from_any}
use Rattle.task.proofs.Finite.{any_found}
use Rattle.task.proofs.blocks.is_reached.Goals as goal

pub returns : goal.returns
returns c =
    let b = c.args.b in
    let es = c.args.edges.now in
    any_found (λ e. (e.to ≡ b) × (e.from < b)) (λ e. e.to ≡ b → e.from < b → ⊥) es _ _
    (cases_from_any _ _ _ (λ e. (e.to ≡ b) × (e.from < b)) (λ e. e.to ≡ b → e.from < b → ⊥) c.any.ensures.ran (YieldsList-from_slice es cc)
    (λ x q k. search (rules, tests)) (λ x q k. search (rules, tests)))
    (λ k h y. let e = y (record { from = 0; to = 0 }) in (_, e.1, (k, h, refl, e.0)))
    (λ (p, l, (k, h, f, t)) all. all k (record { from = 0; to = 0 }) (omega arith) h t (omega arith))
