-- What the calls that change a bench come to.
use Rattle.std.proofs.Common.{◌≡◌, ℕ, ◌<◌, List, length, Ok, Err, Result, sym, refl, ap, ◌∙◌, subst, inl, inr}
use Rattle.records.specs.declared.parts.Geometry.{Geometry}
use Rattle.records.specs.Contents.{Contents}
use Rattle.records.specs.Layout.{InFormat}
use Rattle.task.specs.declared.Task.{Task}
use Rattle.task.specs.View.{task_contents}
use Rattle.load.specs.Loading.{Loading}
use Rattle.load.specs.declared.refusal.Refusal.{Refusal as RecordRefusal}
use Rattle.facts.specs.Kind.{Kind}
use Rattle.cache_state.specs.Cache.{Cache}
use Rattle.run.specs.Run.{Run, entered, fresh}
use Rattle.run.specs.declared.StepFault.{StepFault}
use Rattle.run.specs.declared.StepFault.TheVariants as step
use Rattle.longest.specs.Charge.{Greatest}
use Rattle.categories.specs.Costs.{cycle_costs, cycle_tally}
use Rattle.marks.specs.Marked.{task_marks}
use Rattle.examine.specs.declared.examination.Examination.{Examination}
use Rattle.examine.specs.declared.examination.ExamineError.{ExamineError}
use Rattle.examine.specs.declared.examination.ExamineError.TheVariants as examine
use Rattle.examine.specs.Examined.{Examined}
use Rattle.examine.specs.Findings.{Findings, shown}
use Rattle.calls.specs.declared.call.Call.TheVariants.{Load, Examine, Start}
use Rattle.calls.specs.declared.fault.BenchFault.TheVariants.{Step as Stuck, TooShort}
use Rattle.calls.specs.declared.refusal.Refusal.{Refusal}
use Rattle.calls.specs.declared.refusal.Refusal.TheVariants.{Record, Bench}
use Rattle.calls.specs.Held.{Backed, Open}
use Rattle.calls.specs.Outcomes.{Loaded, LoadCall, Examines, ExamineCall, Starts, StartCall, StepCall}
use Rattle.calls.specs.Refusal.{examine_fault}
use Rattle.calls.specs.View.{View, loaded, examined, walking, task_of, found_of}
use Rattle.calls.proofs.Walking.{open_begun}
use Rattle.bench.specs.declared.stage.Stage.TheVariants.{Walking}
use Rattle.bench.specs.declared.stage.WalkedTask.{WalkedTask}
use Rattle.bench.specs.View.{stage_view}
use Rattle.bench.specs.Walked.{Onward}
use Rattle.bench.proofs.Admits.{admission, not_admitted, was_admitted}

module _ (t : List ℕ) (v : View) where
  pub load_stopped : (r : Result Unit Refusal) (e : Refusal) → Err e ≡ admission Load v → r ≡ Err e → LoadCall t v r v
  load_stopped r e h q = not_admitted Load v r (v ≡ v) (Loaded t v r v) e h q refl

  pub load_refused : (r : Result Unit Refusal) (f : RecordRefusal) (u : Unit {0}) → Ok u ≡ admission Load v → r ≡ Err (Record f) → Loading t (Err f) → LoadCall t v r v
  load_refused r f u h q why =
      was_admitted Load v r (v ≡ v) (Loaded t v r v) u h (subst (λ z. Loaded t v z v) (sym q) (refl, (f, refl, why)))

  pub load_done : (w : View) (k : Task) (u : Unit {0}) → Ok u ≡ admission Load v → w ≡ loaded (task_contents k) → Loading t (Ok k) → LoadCall t v (Ok tt) w
  load_done w k u h is text =
      was_admitted Load v (Ok tt) (w ≡ v) (Loaded t v (Ok tt) w) u h
      (task_contents k, record { format = k.«record».ranges; sound = k.sound; text = text }, is)

module _ {K : Type 0} (kind : Geometry → Kind K) (fetched : Geometry → ℕ → K → K) (before after : List K) where
  -- the findings are backed by the marks of the kind
  pub backed : (c d : Contents) (e : Examination) → c ≡ d → Examined kind fetched c before (Ok e) after → ∥ Backed d (shown d e) ∥₁
  backed c d e q h =
      let found = subst (λ z. Examined kind fetched z before (Ok e) after) q h in
      let marks = task_marks kind fetched d in
      ∣ (marks, found.1.worth.covered, subst (λ (f : Findings). Greatest cycle_tally (cycle_costs d marks) d f.figure) (sym found.1.shows) found.1.worth.figure) ∣₁

  module _ (v : View) where
    refuses : (e : ExamineError) → Examined kind fetched (task_of v) before (Err e) after → Examines kind fetched before v (Err (examine_fault e)) after v
    refuses (examine.TooShort n) (needed, short, same) =
        (same, refl, inl (ap (λ k. Bench (TooShort k)) needed, subst (λ k. length before < k) needed short))
    refuses examine.NoMemory (long, same) = (same, refl, inr (refl, long))

    pub examine_refused : (c : Contents) (r : Result ℕ Refusal) (e : ExamineError) (u : Unit {0}) → c ≡ task_of v → Ok u ≡ admission Examine v
        → r ≡ Err (examine_fault e) → Examined kind fetched c before (Err e) after → ExamineCall kind fetched before v r after v
    examine_refused c r e u q h is why =
        was_admitted Examine v r ((after ≡ before) × (v ≡ v)) (Examines kind fetched before v r after v) u h
        (subst (λ z. Examines kind fetched before v z after v) (sym is)
        (refuses e (subst (λ z. Examined kind fetched z before (Err e) after) q why)))

    pub examine_done : (c d : Contents) (e : Examination) (u : Unit {0}) → c ≡ task_of v → d ≡ task_of v → Ok u ≡ admission Examine v
        → Examined kind fetched c before (Ok e) after → ExamineCall kind fetched before v (Ok e.passes) after (examined d (shown d e))
    examine_done c d e u q p h found =
        let w = examined d (shown d e) in
        let here = subst (λ z. Examined kind fetched z before (Ok e) after) q found in
        was_admitted Examine v (Ok e.passes) ((after ≡ before) × (w ≡ v)) (Examines kind fetched before v (Ok e.passes) after w) u h (
          here.0,
          ap (λ (f : Findings). f.passes) here.1.shows,
          here.1.worth,
          ap (λ z. examined z (shown z e)) p ∙ ap (examined (task_of v)) here.1.shows,
        )

-- a walk that has begun is open
pub opened : (c d : Contents) (r : Run) (s : Cache) → c ≡ d → InFormat d → r ≡ entered c 0 (fresh c s) → length s ≡ c.header.geometry.slots → ∥ Open d r ∥₁
opened c d r s q format is slots =
    let begun = subst (λ z. (r ≡ entered z 0 (fresh z s)) × (length s ≡ z.header.geometry.slots)) q (is, slots) in
    ∣ subst (Open d) (sym begun.0) (open_begun d s format begun.1) ∣₁

-- and leaves the bench walking
pub start_done : (s : Cache) (v : View) (c d : Contents) (f : Findings) (r : Run) (u : Unit {0}) → c ≡ task_of v → d ≡ task_of v → f ≡ found_of v → Ok u ≡ admission Start v
    → length s ≡ c.header.geometry.slots → r ≡ entered c 0 (fresh c s) → StartCall s v (Ok tt) (walking d f r)
start_done s v c d f r u q p found h slots is =
    let begun = subst (λ z. (r ≡ entered z 0 (fresh z s)) × (length s ≡ z.header.geometry.slots)) q (is, slots) in
    was_admitted Start v (Ok tt) (walking d f r ≡ v) (Starts s v (Ok tt) (walking d f r)) u h
    (begun.1, ap (λ z. walking z f r) p ∙ ap (λ z. walking (task_of v) z r) found ∙ ap (walking (task_of v) (found_of v)) begun.0)

-- a walk that may not go on
stays : (b : ℕ) (x : WalkedTask) (f : StepFault) (y : WalkedTask) → Onward b x (Err f) y
    → StepCall b (stage_view (Walking x)) (Err (Bench (Stuck f))) (stage_view (Walking x))
stays b x (step.NoEdge n) y (is, none) = (refl, inl (ap (λ k. Bench (Stuck (step.NoEdge k))) is, none))
stays b x (step.LimitSpent n) y (is, edge, spent) = (refl, inr (ap (λ k. Bench (Stuck (step.LimitSpent k))) is, edge, spent))

pub step_refused : (b : ℕ) (v : View) (x y : WalkedTask) (r : Result Unit Refusal) (f : StepFault) → v ≡ stage_view (Walking x) → y ≡ x
    → r ≡ Err (Bench (Stuck f)) → Onward b x (Err f) y → StepCall b v r (stage_view (Walking y))
step_refused b v x y r f at same is why =
    subst (λ z. StepCall b v r (stage_view (Walking z))) (sym same)
    (subst (λ z. StepCall b z r (stage_view (Walking x))) (sym at)
    (subst (λ z. StepCall b (stage_view (Walking x)) z (stage_view (Walking x))) (sym is) (stays b x f y why)))
