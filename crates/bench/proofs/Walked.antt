-- A walk that goes on stays open, and its counts stay exact.
use Rattle.std.proofs.Common.{◌≡◌, ℕ, ◌^◌, ◌<◌, Ok, Err, Result, sym, ap, ◌∙◌, subst}
use mathlib.Core.Logic.{∥∥₁_prop, ∥∥₁_map, ∥∥₁_map₂, ∥∥₁_elim}
use native.Mathlib.Bridge.{le_prop}
use native.Mathlib.Nat.{ℕ_set}
use Rattle.records.specs.Contents.{Contents}
use Rattle.records.specs.Layout.{InFormat}
use Rattle.task.specs.declared.Task.{Task}
use Rattle.task.specs.View.{task_contents}
use Rattle.run.specs.Run.{Run, entered}
use Rattle.run.specs.declared.OpenWalk.{OpenWalk}
use Rattle.run.specs.Open.{run_of, Fits, Stepped}
use Rattle.run.specs.declared.StepFault.{StepFault}
use Rattle.run.specs.declared.StepFault.TheVariants.{NoEdge, LimitSpent}
use Rattle.examine.specs.declared.examination.Examination.{Examination}
use Rattle.examine.specs.Findings.{Findings, shown}
use Rattle.calls.specs.Held.{Backed, Open}
use Rattle.calls.specs.Outcomes.{Free}
use Rattle.calls.specs.View.{walking}
use Rattle.calls.proofs.Walking.{open_stepped, open_fits}
use Rattle.bench.specs.declared.stage.WalkedTask.{WalkedTask}
use Rattle.bench.specs.Walked.{Onward}

module _ (c : Contents) (f : Findings) (r : Run) (b : ℕ) (format : InFormat c) (small : f.figure < 2 ^ 64) (backed : ∥ Backed c f ∥₁)
    (is_open : ∥ Open c r ∥₁) where
  -- a walk within the limits has counts of 64 bits after one block more
  enter_fits : Free c r b → Fits c b r
  enter_fits free =
      let shown : ∥ Fits c b r ∥₁ = ∥∥₁_map₂ backed is_open (λ k o. open_fits c r f b format k o free small) in
      record {
        long = ∥∥₁_elim shown (ℕ_set _ _) (λ x. x.long);
        cycles = ∥∥₁_elim shown le_prop (λ x. x.cycles);
        misses = ∥∥₁_elim shown le_prop (λ x. x.misses);
        fetches = ∥∥₁_elim shown le_prop (λ x. x.fetches);
      }

  -- so what it comes to is what the plain run comes to
  pub went : (s : Run) → Stepped c r b (Ok tt) s → s ≡ entered c b r
  went s (leads, free, next) = next (enter_fits (leads, free))

  -- the walk is open after the step, whatever its answer
  pub still_open : (x : Result Unit StepFault) (s : Run) → Stepped c r b x s → ∥ Open c s ∥₁
  still_open (Ok tt) s h =
      subst (λ (z : Run). ∥ Open c z ∥₁) (sym (went s h)) (∥∥₁_map is_open (λ o. open_stepped c r b o (h.0, h.1)))
  still_open (Err (NoEdge n)) s h = subst (λ (z : Run). ∥ Open c z ∥₁) (sym h.2) is_open
  still_open (Err (LimitSpent n)) s h = subst (λ (z : Run). ∥ Open c z ∥₁) (sym h.3) is_open

-- what the walk of an examined task comes to, whatever the answer
pub onward : (x y : WalkedTask) (b : ℕ) → x.examined.found.figures.cycles < 2 ^ 64 → (r : Result Unit StepFault) → x.examined.task ≡ y.examined.task
    → x.examined.found ≡ y.examined.found → Stepped (task_contents x.examined.task) (run_of x.walk) b r (run_of y.walk) → Onward b x r y
onward x y b small (Ok tt) same found h =
    let c = task_contents x.examined.task in
    let f = shown c x.examined.found in (
      (h.0, h.1),
      ap (λ t. walking (task_contents t) (shown (task_contents t) y.examined.found) (run_of y.walk)) (sym same)
          ∙ ap (λ e. walking c (shown c e) (run_of y.walk)) (sym found)
          ∙ ap (walking c f) (went c f (run_of x.walk) b x.examined.task.«record».ranges small x.examined.backed x.«open» (run_of y.walk) h),
    )
onward x y b small (Err (NoEdge n)) same found h = (h.0, h.1)
onward x y b small (Err (LimitSpent n)) same found h = (h.0, h.1, h.2)

-- two walked tasks with the same parts are the same
pub walked_same : (t : Task) (e : Examination) (k k' : ∥ Backed (task_contents t) (shown (task_contents t) e) ∥₁) (w w' : OpenWalk) (o : ∥ Open (task_contents t) (run_of w) ∥₁)
    (o' : ∥ Open (task_contents t) (run_of w') ∥₁) → w' ≡ w
    → ◌≡◌ {A = WalkedTask} (record { examined = record { task = t; found = e; backed = k' }; walk = w'; «open» = o' }) (record { examined = record { task = t; found = e; backed = k }; walk = w; «open» = o })
walked_same t e k k' w w' o o' q =
    subst (λ z. (p : ∥ Open (task_contents t) (run_of z) ∥₁)
    → ◌≡◌ {A = WalkedTask} (record { examined = record { task = t; found = e; backed = k' }; walk = z; «open» = p }) (record { examined = record { task = t; found = e; backed = k }; walk = w; «open» = o }))
    (sym q)
    (λ p. ap (λ z. record { examined = record { task = t; found = e; backed = z }; walk = w; «open» = p }) (∥∥₁_prop k' k)
    ∙ ap (λ z. record { examined = record { task = t; found = e; backed = k }; walk = w; «open» = z }) (∥∥₁_prop p o))
    o'
