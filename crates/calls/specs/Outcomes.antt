-- What each call on a bench comes to: its answer, and what it leaves of the bench and of what it was handed.
use Rattle.std.specs.Prelude.{◌≡◌, ℕ, ◌*◌, ◌<◌, ◌≤◌, true, false, ◌⊎◌, List, ◌++◌, length, drop, Ok, Err, Result, nat_lt}
use Rattle.records.specs.declared.parts.Geometry.{Geometry}
use Rattle.records.specs.Contents.{Contents}
use Rattle.records.specs.Layout.{InFormat, record_text}
use Rattle.task.specs.Graph.{Leads}
use Rattle.task.specs.Rules.{Sound}
use Rattle.load.specs.Loading.{Loading}
use Rattle.load.specs.declared.refusal.Refusal.{Refusal as RecordRefusal}
use Rattle.facts.specs.Kind.{Kind}
use Rattle.cache_state.specs.Cache.{Cache}
use Rattle.run.specs.Run.{Run, entered, fresh}
use Rattle.run.specs.Open.{Spent}
use Rattle.run.specs.declared.StepFault.TheVariants.{NoEdge, LimitSpent}
use Rattle.examine.specs.Findings.{findings}
use Rattle.examine.specs.Examined.{Warranted}
use Rattle.listing.specs.Text.{block_text}
use Rattle.calls.specs.declared.call.Call.{Call}
use Rattle.calls.specs.declared.call.Call.TheVariants.{Load, Examine, Start, Step, Close, Write, List as Listing}
use Rattle.calls.specs.declared.fault.Part.TheVariants.{Block}
use Rattle.calls.specs.declared.fault.BenchFault.TheVariants.{WrongStage, StartLength, Step as Stuck, NoSuch, TooShort}
use Rattle.calls.specs.declared.refusal.Refusal.{Refusal}
use Rattle.calls.specs.declared.refusal.Refusal.TheVariants.{Record, Bench}
use Rattle.calls.specs.Fault.{stage_number}
use Rattle.calls.specs.Refusal.{no_memory}
use Rattle.calls.specs.View.{View, loaded, examined, walking, stage_of, taken, task_of, found_of, walk_of}

-- A call that is not of the stage is refused before all else, and changes nothing; else it has its own outcome.
abbrev pub Admitted : {A : Type 0} → Call → View → Result A Refusal → Type 0 → Type 0 → Type 0
Admitted call v r same own =
    elim (taken call (stage_of v)) [ true ↦ own | false ↦ (r ≡ Err (Bench (WrongStage (stage_number (stage_of v))))) × same ]

-- the text is that of a sound record with these contents
pub record Reads (t : List ℕ) (c : Contents) : Type 0 where
  pub format : InFormat c
  pub sound : Sound c
  pub text : t ≡ record_text c

-- the task of the record, or what refuses the record
abbrev pub Loaded : List ℕ → View → Result Unit Refusal → View → Type 0
Loaded t v (Ok u) w = (c : Contents) × Reads t c × (w ≡ loaded c)
Loaded t v (Err e) w = (w ≡ v) × ((f : RecordRefusal) × (e ≡ Record f) × Loading t (Err f))

abbrev pub LoadCall : List ℕ → View → Result Unit Refusal → View → Type 0
LoadCall t v r w = Admitted Load v r (w ≡ v) (Loaded t v r w)

-- The findings by the kind, with all that they are worth, and the passes as the answer; or the working list is too short, or there is
-- no memory, and bench and list are as before. After an acceptance the list may hold anything.
module _ {K : Type 0} (kind : Geometry → Kind K) (fetched : Geometry → ℕ → K → K) where
  abbrev pub Examines : List K → View → Result ℕ Refusal → List K → View → Type 0
  Examines work v (Ok n) after w =
      (2 * length (task_of v).blocks ≤ length work) × (n ≡ (findings kind fetched (task_of v)).passes) × Warranted kind fetched (task_of v)
      × (w ≡ examined (task_of v) (findings kind fetched (task_of v)))
  Examines work v (Err e) after w =
      (after ≡ work) × (w ≡ v)
      × (((e ≡ Bench (TooShort (2 * length (task_of v).blocks))) × (length work < 2 * length (task_of v).blocks))
      ⊎ ((e ≡ no_memory) × (2 * length (task_of v).blocks ≤ length work)))

  abbrev pub ExamineCall : List K → View → Result ℕ Refusal → List K → View → Type 0
  ExamineCall work v r after w = Admitted Examine v r ((after ≡ work) × (w ≡ v)) (Examines work v r after w)

-- a walk that enters block 0 from the starting cache
abbrev pub Starts : Cache → View → Result Unit Refusal → View → Type 0
Starts cache v (Ok u) w =
    (length cache ≡ (task_of v).header.geometry.slots) × (w ≡ walking (task_of v) (found_of v) (entered (task_of v) 0 (fresh (task_of v) cache)))
Starts cache v (Err e) w =
    (w ≡ v)
    × (((e ≡ Bench (StartLength (task_of v).header.geometry.slots)) × (length cache ≡ (task_of v).header.geometry.slots → ⊥))
    ⊎ ((e ≡ no_memory) × (length cache ≡ (task_of v).header.geometry.slots)))

abbrev pub StartCall : Cache → View → Result Unit Refusal → View → Type 0
StartCall cache v r w = Admitted Start v r (w ≡ v) (Starts cache v r w)

-- the walk may go on to block b: an edge leads there, and no stay in a loop that b heads has had its limit of rounds
abbrev pub Free : Contents → Run → ℕ → Type 0
Free c r b = Leads c.edges r.block b × (Spent c r b → ⊥)

-- the block is entered
abbrev pub Steps : ℕ → View → Result Unit Refusal → View → Type 0
Steps b v (Ok u) w = Free (task_of v) (walk_of v) b × (w ≡ walking (task_of v) (found_of v) (entered (task_of v) b (walk_of v)))
Steps b v (Err e) w =
    (w ≡ v)
    × (((e ≡ Bench (Stuck (NoEdge b))) × (Leads (task_of v).edges (walk_of v).block b → ⊥))
    ⊎ ((e ≡ Bench (Stuck (LimitSpent b))) × Leads (task_of v).edges (walk_of v).block b × Spent (task_of v) (walk_of v) b))

abbrev pub StepCall : ℕ → View → Result Unit Refusal → View → Type 0
StepCall b v r w = Admitted Step v r (w ≡ v) (Steps b v r w)

-- the walk is forgotten
abbrev pub CloseCall : View → Result Unit Refusal → View → Type 0
CloseCall v r w = Admitted Close v r (w ≡ v) ((r ≡ Ok tt) × (w ≡ examined (task_of v) (found_of v)))

-- a text fills the front of a buffer, and the rest keeps its bytes; or the buffer is too short for it, and keeps all
abbrev pub Delivered : List ℕ → List ℕ → Result ℕ Refusal → List ℕ → Type 0
Delivered text out (Ok n) after = (n ≡ length text) × (n ≤ length out) × (after ≡ text ++ drop n out)
Delivered text out (Err e) after = (e ≡ Bench (TooShort (length text))) × (length out < length text) × (after ≡ out)

-- the record's text
abbrev pub WriteCall : List ℕ → View → Result ℕ Refusal → List ℕ → Type 0
WriteCall out v r after = Admitted Write v r (after ≡ out) (Delivered (record_text (task_of v)) out r after)

-- the lines of a block's fetches, if the task has the block
abbrev pub Lists : ℕ → List ℕ → View → Result ℕ Refusal → List ℕ → Type 0
Lists b out v r after =
    elim (nat_lt b (length (task_of v).blocks)) [
      | true ↦ Delivered (block_text (task_of v) (found_of v) b) out r after
      | false ↦ (r ≡ Err (Bench (NoSuch Block))) × (after ≡ out)
    ]

abbrev pub ListCall : ℕ → List ℕ → View → Result ℕ Refusal → List ℕ → Type 0
ListCall b out v r after = Admitted Listing v r (after ≡ out) (Lists b out v r after)
