-- What each call that can change the bench makes of the bench and of the plain run.
use Rattle.std.proofs.Common.{◌≡◌, ℕ, ◌*◌, ◌≤◌, false, ◌⊎◌, List, [], ◌∷◌, length, Ok, Err, Result, sym, refl, ap, ◌∙◌, inl, inr, arith}
use Rattle.records.specs.declared.parts.Geometry.{Geometry}
use Rattle.records.specs.Contents.{Contents}
use Rattle.records.specs.Layout.{InFormat}
use Rattle.reader.proofs.Once.{same_text}
use Rattle.task.specs.Rules.{Sound}
use Rattle.load.specs.Loading.{Loading}
use Rattle.load.specs.declared.refusal.Refusal.{Refusal as RecordRefusal}
use Rattle.load.specs.declared.refusal.Refusal.TheVariants as record-refused
use Rattle.load.proofs.Once.{promised}
use Rattle.facts.specs.Kind.{Kind}
use Rattle.cache_state.specs.Cache.{Cache}
use Rattle.run.specs.Run.{Run, entered, fresh}
use Rattle.examine.specs.Findings.{Findings, findings}
use Rattle.calls.specs.declared.fault.BenchFault.{BenchFault}
use Rattle.run.specs.declared.StepFault.TheVariants.{NoEdge, LimitSpent}
use Rattle.calls.specs.declared.fault.BenchFault.TheVariants.{StartLength, Step as Stuck, TooShort}
use Rattle.calls.specs.declared.refusal.Refusal.{Refusal}
use Rattle.calls.specs.declared.refusal.Refusal.TheVariants.{Record, Bench}
use Rattle.calls.specs.View.{View, unused, loaded, examined, walking, task_of}
use Rattle.calls.specs.Outcomes.{Reads, Loaded, LoadCall, Examines, ExamineCall, Starts, StartCall, Free, Steps, StepCall, CloseCall}
use Rattle.calls.specs.Held.{Along}
use Rattle.calls.specs.Plain.{Plain, enter, PlainLoad, PlainExamine, PlainStart, PlainStep, PlainClose}
use Rattle.calls.specs.Plain as plainly
use Rattle.calls.specs.History.{wanting, Fed}
use Rattle.calls.proofs.Walking.{begun, stepped}
use Rattle.calls.proofs.Tied.{Found, found, Tied, at_unused, at_loaded, at_examined, at_walking, Led, retied, stays, Moved, goes, declines, accepts, refuses, lacks, wrong_stage}

-- a text that is refused for a fault is no sound record's
no_record : (t : List ℕ) (f : RecordRefusal) → (f ≡ record-refused.NoMemory → ⊥) → Loading t (Err f) → (c : Contents) → Reads t c → ⊥
no_record t f fault loading c reads = elim ((promised t (Err f) loading).back c reads.format reads.sound reads.text) [
  | inl e ↦ cc
  | inr e ↦ fault (cc)
]

-- a fault of the record is not want of memory
fault_carried : (e : Refusal) (f : RecordRefusal) → wanting {A = Unit {0}} (Err e) ≡ false → e ≡ Record f → f ≡ record-refused.NoMemory → ⊥
fault_carried e f faulty is q = cc

module _ (t : List ℕ) (v w : View) (p : Plain) (tied : Tied v p) where
  -- where a load is of the stage
  abbrev Reading : Plain → Plain → Type 0
  Reading a q = ((c : Contents) × Reads t c × (q ≡ plainly.loaded c)) ⊎ (((c : Contents) → Reads t c → ⊥) × (q ≡ a))

  unread : (e : Refusal) → wanting {A = Unit {0}} (Err e) ≡ false → Loaded t v (Err e) w → Led w (Reading p)
  unread e faulty (same, (f, is, loading)) =
      let never = no_record t f (fault_carried e f faulty is) loading in
      record {
        plain = p;
        fed = inr (never, refl);
        only = λ q m. elim m [ inl x ↦ absurd (never x.0 x.1) | inr x ↦ x.1 ];
        tied = retied v w p same tied;
      }

  loads : (r : Result Unit Refusal) → Loaded t v r w → Led w (Fed r Reading p)
  loads (Ok u) (c, reads, same) =
      record {
        plain = plainly.loaded c;
        fed = inl (c, reads, refl);
        only = λ q m. elim m [
          | inl x ↦ x.2 ∙ ap plainly.loaded (same_text x.0 c x.1.format reads.format (sym x.1.text ∙ reads.text))
          | inr x ↦ absurd (x.0 c reads)
        ];
        tied = retied (loaded c) w (plainly.loaded c) same (at_loaded c reads.format reads.sound);
      }
  loads (Err (Record (record-refused.Text g))) out = unread (Record (record-refused.Text g)) refl out
  loads (Err (Record (record-refused.Graph g))) out = unread (Record (record-refused.Graph g)) refl out
  loads (Err (Record record-refused.NoMemory)) out = stays v w p out.0 tied
  loads (Err (Bench g)) out = unread (Bench g) refl out

pub load_led : (t : List ℕ) (r : Result Unit Refusal) {v w : View} {p : Plain} → Tied v p → LoadCall t v r w → Led w (Fed r (PlainLoad t) p)
load_led t r {w} at_unused call = loads t unused w plainly.unused at_unused r call
load_led t r {w} (at_loaded c format sound) call = loads t (loaded c) w (plainly.loaded c) (at_loaded c format sound) r call
load_led t r {w} (at_examined c f format sound holds) call = loads t (examined c f) w (plainly.examined c) (at_examined c f format sound holds) r call
load_led t r (at_walking c f s u run format sound holds along) (wrong, same) =
    wrong_stage r (PlainLoad t) (at_walking c f s u run format sound holds along) wrong same refl (λ q e. e)

module _ {K : Type 0} (kind : Geometry → Kind K) (fetched : Geometry → ℕ → K → K) (work after : List K) where
  -- where an examination is of the stage
  module _ (v w : View) (p : Plain) (tied : Tied v p) (format : InFormat (task_of v)) (sound : Sound (task_of v)) where
    abbrev Examining : Plain → Plain → Type 0
    Examining a = Moved (2 * length (task_of v).blocks ≤ length work) a (plainly.examined (task_of v))

    examines : (r : Result ℕ Refusal) → Examines kind fetched work v r after w → Led w (Fed r Examining p)
    examines (Ok n) (long, passes, holds, same) =
        goes (2 * length (task_of v).blocks ≤ length work) p (plainly.examined (task_of v)) (examined (task_of v) (findings kind fetched (task_of v))) w long same
        (at_examined (task_of v) (findings kind fetched (task_of v)) format sound (found kind fetched (task_of v) holds))
    examines (Err e) (same-list, same, inl (short, little)) =
        refuses {A = ℕ} (Err e) Examining w p (TooShort (2 * length (task_of v).blocks)) (ap Err short)
        (declines (2 * length (task_of v).blocks ≤ length work) p (plainly.examined (task_of v)) v w (λ long. omega arith) same tied)
    examines (Err e) (same-list, same, inr (none, long)) = lacks {A = ℕ} (Err e) Examining w p v (ap Err none) same tied

  pub examine_led : (r : Result ℕ Refusal) {v w : View} {p : Plain} → Tied v p → ExamineCall kind fetched work v r after w → Led w (Fed r (PlainExamine (length work)) p)
  examine_led r at_unused (wrong, (same-list, same)) = wrong_stage r (PlainExamine (length work)) at_unused wrong same refl (λ q e. e)
  examine_led r {w} (at_loaded c format sound) call = examines (loaded c) w (plainly.loaded c) (at_loaded c format sound) format sound r call
  examine_led r {w} (at_examined c f format sound holds) call =
      examines (examined c f) w (plainly.examined c) (at_examined c f format sound holds) format sound r call
  examine_led r (at_walking c f s u run format sound holds along) (wrong, (same-list, same)) =
      wrong_stage r (PlainExamine (length work)) (at_walking c f s u run format sound holds along) wrong same refl (λ q e. e)

-- a walk is started
module _ (cache : Cache) (c : Contents) (f : Findings) (w : View) (format : InFormat c) (sound : Sound c) (holds : Found c f) where
  abbrev fits : Type 0
  fits = length cache ≡ c.header.geometry.slots

  abbrev first : Plain
  first = enter c cache [] (fresh c cache) 0

  starts : (r : Result Unit Refusal) → Starts cache (examined c f) r w → Led w (Fed r (PlainStart cache) (plainly.examined c))
  starts (Ok u) (slots, same) =
      goes fits (plainly.examined c) first (walking c f (entered c 0 (fresh c cache))) w slots same
      (at_walking c f cache [] (entered c 0 (fresh c cache)) format sound holds (begun c cache format slots))
  starts (Err e) (same, inl (length-is, unfit)) =
      refuses {A = Unit} (Err e) (PlainStart cache) w (plainly.examined c) (StartLength c.header.geometry.slots) (ap Err length-is)
      (declines fits (plainly.examined c) first (examined c f) w unfit same (at_examined c f format sound holds))
  starts (Err e) (same, inr (none, slots)) =
      lacks {A = Unit} (Err e) (PlainStart cache) w (plainly.examined c) (examined c f) (ap Err none) same (at_examined c f format sound holds)

pub start_led : (cache : Cache) (r : Result Unit Refusal) {v w : View} {p : Plain} → Tied v p → StartCall cache v r w → Led w (Fed r (PlainStart cache) p)
start_led cache r at_unused (wrong, same) = wrong_stage r (PlainStart cache) at_unused wrong same refl (λ q e. e)
start_led cache r (at_loaded c format sound) (wrong, same) = wrong_stage r (PlainStart cache) (at_loaded c format sound) wrong same refl (λ q e. e)
start_led cache r {w} (at_examined c f format sound holds) call = starts cache c f w format sound holds r call
start_led cache r (at_walking c f s u run format sound holds along) (wrong, same) =
    wrong_stage r (PlainStart cache) (at_walking c f s u run format sound holds along) wrong same refl (λ q e. e)

-- the open walk goes on, or not
module _ (b : ℕ) (c : Contents) (f : Findings) (s : Cache) (u : List ℕ) (run : Run) (w : View) (format : InFormat c) (sound : Sound c) (holds : Found c f)
    (along : Along c s u run) where
  abbrev here : Plain
  here = plainly.walking c s (run.block ∷ u) run

  abbrev next : Plain
  next = enter c s (run.block ∷ u) run b

  stuck : (e : Refusal) (fault : BenchFault) → e ≡ Bench fault → w ≡ walking c f run → (Free c run b → ⊥) → Led w (Fed {A = Unit} (Err e) (PlainStep b) here)
  stuck e fault is same unfree =
      refuses {A = Unit} (Err e) (PlainStep b) w here fault (ap Err is)
      (declines (Free c run b) here next (walking c f run) w unfree same (at_walking c f s u run format sound holds along))

  steps : (r : Result Unit Refusal) → Steps b (walking c f run) r w → Led w (Fed r (PlainStep b) here)
  steps (Ok x) (free, same) =
      goes (Free c run b) here next (walking c f (entered c b run)) w free same
      (at_walking c f s (run.block ∷ u) (entered c b run) format sound holds (stepped c s u run along b free))
  steps (Err e) (same, inl (is, no_edge)) = stuck e (Stuck (NoEdge b)) is same (λ free. no_edge free.0)
  steps (Err e) (same, inr (is, leads, spent)) = stuck e (Stuck (LimitSpent b)) is same (λ free. free.1 spent)

pub step_led : (b : ℕ) (r : Result Unit Refusal) {v w : View} {p : Plain} → Tied v p → StepCall b v r w → Led w (Fed r (PlainStep b) p)
step_led b r at_unused (wrong, same) = wrong_stage r (PlainStep b) at_unused wrong same refl (λ q e. e)
step_led b r (at_loaded c format sound) (wrong, same) = wrong_stage r (PlainStep b) (at_loaded c format sound) wrong same refl (λ q e. e)
step_led b r (at_examined c f format sound holds) (wrong, same) =
    wrong_stage r (PlainStep b) (at_examined c f format sound holds) wrong same refl (λ q e. e)
step_led b r {w} (at_walking c f s u run format sound holds along) call = steps b c f s u run w format sound holds along r call

pub close_led : (r : Result Unit Refusal) {v w : View} {p : Plain} → Tied v p → CloseCall v r w → Led w (Fed r PlainClose p)
close_led r at_unused (wrong, same) = wrong_stage r PlainClose at_unused wrong same refl (λ q e. e)
close_led r (at_loaded c format sound) (wrong, same) = wrong_stage r PlainClose (at_loaded c format sound) wrong same refl (λ q e. e)
close_led r (at_examined c f format sound holds) (wrong, same) = wrong_stage r PlainClose (at_examined c f format sound holds) wrong same refl (λ q e. e)
close_led r {w} (at_walking c f s u run format sound holds along) (done, same) =
    accepts r PlainClose w (plainly.walking c s (run.block ∷ u) run) tt done
    (goes (Unit {0}) (plainly.walking c s (run.block ∷ u) run) (plainly.examined c) (examined c f) w tt same (at_examined c f format sound holds))
