-- After every list of calls the plain run has come to one end, and the bench answers by it.
use Rattle.std.proofs.Common.{◌≡◌, ℕ, ◌+◌, ◌*◌, ◌≤◌, List, length, Ok, Err, Result, refl, subst, arith}
use Rattle.records.specs.declared.parts.Geometry.{Geometry}
use Rattle.facts.specs.Kind.{Kind}
use Rattle.facts.specs.Settling.{task_states}
use Rattle.calls.specs.declared.refusal.Refusal.{Refusal}
use Rattle.calls.specs.View.{View}
use Rattle.calls.specs.Outcomes.{ExamineCall}
use Rattle.calls.specs.Plain.{Plain, plain_task, PlainLoad, PlainExamine, PlainStart, PlainStep, PlainClose}
use Rattle.calls.specs.Plain as plainly
use Rattle.calls.specs.History.{History, none, load, examine, start, step, close, write, figure, ask, stand, list, Fed, Runs, Settles, AllSettle, EveryHistoryStands}
use Rattle.calls.proofs.Tied.{Tied, at_unused, at_loaded, at_examined, at_walking, Led}
use Rattle.calls.proofs.Moves.{load_led, examine_led, start_led, step_led, close_led}
use Rattle.calls.proofs.Answered.{walk_answered, stage_same, task_same}

-- one call more
further : {v w : View} (h : History v) (next : Plain → Plain → Type 0) (before : Led v (Runs h)) → Led w (next before.plain)
    → Led w (λ q. (p : Plain) × Runs h p × next p q)
further h next before led = record {
  plain = led.plain;
  fed = (before.plain, before.fed, led.fed);
  only = λ q (p, runs, moved). led.only q (subst (λ (x : Plain). next x q) (before.only p runs) moved);
  tied = led.tied;
}

-- along every list of calls
leads : {v : View} (h : History v) → Led v (Runs h)
leads none = record { plain = plainly.unused; fed = refl; only = λ q e. e; tied = at_unused }
leads (load h t r call) = let before = leads h in further h (Fed r (PlainLoad t)) before (load_led t r before.tied call)
leads (examine h K kind fetched work after r call) =
    let before = leads h in further h (Fed r (PlainExamine (length work))) before (examine_led kind fetched work after r before.tied call)
leads (start h cache r call) = let before = leads h in further h (Fed r (PlainStart cache)) before (start_led cache r before.tied call)
leads (step h b r call) = let before = leads h in further h (Fed r (PlainStep b)) before (step_led b r before.tied call)
leads (close h r call) = let before = leads h in further h (Fed r PlainClose) before (close_led r before.tied call)
leads (write h out after r call) = leads h
leads (figure h r answer) = leads h
leads (ask h b j l r answer) = leads h
leads (stand h r answer) = leads h
leads (list h b out after r call) = leads h

module _ {K : Type 0} (kind : Geometry → Kind K) (fetched : Geometry → ℕ → K → K) (work after : List K) (w : View) where
  -- the passes are those of the plain run's task, and few
  abbrev FewPasses : Plain → ℕ → Type 0
  FewPasses p n =
      (n ≡ (task_states (kind (plain_task p).header.geometry) (plain_task p)).1)
      × (n ≤ length (plain_task p).blocks * (kind (plain_task p).header.geometry).height + 1)

  passes_few : {v : View} {p : Plain} → Tied v p → (n : ℕ) → ExamineCall kind fetched work v (Ok n) after w → FewPasses p n
  passes_few at_unused n (wrong, same) = absurd (cc)
  passes_few (at_loaded c format sound) n (long, passes, holds, same) = (passes, omega (arith, holds.few))
  passes_few (at_examined c f format sound found) n (long, passes, holds, same) = (passes, omega (arith, holds.few))
  passes_few (at_walking c f s u run format sound found along) n (wrong, same) = absurd (cc)

  settles : {v : View} (h : History v) (r : Result ℕ Refusal) → ExamineCall kind fetched work v r after w → Settles h kind r
  settles h (Ok n) call = let before = leads h in let few = passes_few before.tied n call in (before.plain, before.fed, few.0, few.1)
  settles h (Err e) call = tt

all_settle : {v : View} (h : History v) → AllSettle h
all_settle none = tt
all_settle (load h t r call) = all_settle h
all_settle (examine {w = w} h K kind fetched work after r call) = (all_settle h, settles kind fetched work after w h r call)
all_settle (start h cache r call) = all_settle h
all_settle (step h b r call) = all_settle h
all_settle (close h r call) = all_settle h
all_settle (write h out after r call) = all_settle h
all_settle (figure h r answer) = all_settle h
all_settle (ask h b j l r answer) = all_settle h
all_settle (stand h r answer) = all_settle h
all_settle (list h b out after r call) = all_settle h

pub every_history : EveryHistoryStands
every_history v h =
    let led = leads h in
    record {
      plain = led.plain;
      fed = led.fed;
      only = led.only;
      stage = stage_same led.tied;
      task = task_same led.tied;
      walk = walk_answered led.tied;
      settled = all_settle h;
    }
