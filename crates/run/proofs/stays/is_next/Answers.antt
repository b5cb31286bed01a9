use Rattle.std.proofs.Common.{◌≡◌, ℕ, nat_eq, Bool, true, false, ◌&&◌, List, Decides, subst, arith}
use Rattle.std.specs.List.{IsAnyAnswer}
use Rattle.std.proofs.lemmas.Bool.{both_ways}
use Rattle.std.proofs.lemmas.Bool.Decides.{Decides-and, Decides-eqb}
use Rattle.records.specs.declared.parts.Edge.{Edge}
use Rattle.task.specs.Graph.{edge_at, Leads}
use Rattle.task.specs.View.{task_contents}
use Rattle.task.proofs.Finite.{any_found}
use Rattle.walks.proofs.Inside.{leads_below}
use Rattle.run.proofs.stays.is_next.Goals as goal

-- an edge that is found is one that leads
leads_by : (es : List Edge) (p b : ℕ) (r : Bool) → IsAnyAnswer (λ e t. (nat_eq e.from p && nat_eq e.to b) ≡ t) es r → Decides r (Leads es p b)
leads_by es p b r cases =
    let Same : Edge → Type 0 = λ e. (e.from ≡ p) × (e.to ≡ b) in
    let same : (e : Edge) → Decides (nat_eq e.from p && nat_eq e.to b) (Same e) =
    λ e. Decides-and (nat_eq e.from p) (nat_eq e.to b) (Decides-eqb e.from p) (Decides-eqb e.to b) in
    any_found (λ e. (nat_eq e.from p && nat_eq e.to b) ≡ true) (λ e. (nat_eq e.from p && nat_eq e.to b) ≡ false) es (Leads es p b) r cases
    (λ k h y. let q = (same (edge_at es k)).0 (y (record { from = 0; to = 0 })) in (k, h, q.0, q.1))
    (λ (k, h, f, t) all. both_ways _ (all k (record { from = 0; to = 0 }) (omega arith) h) ((same (edge_at es k)).1 (f, t)))

pub returns : goal.returns
returns c =
    let t = c.args.task.now in
    let tells : Decides c.contains.result (Leads (task_contents t).edges c.args.p c.args.b) =
    subst (λ (es : List Edge). Decides c.contains.result (Leads es c.args.p c.args.b)) c.deref.ensures.value
    (leads_by c.deref.result.now c.args.p c.args.b c.contains.result c.contains.ensures.cases) in
    record { edge = tells; block = λ e. (leads_below (task_contents t) t.«record».ranges c.args.p c.args.b (tells.0 e)).1 }
