-- Every list of calls on one bench, and what holds after it.
use Rattle.std.specs.Prelude.{◌≡◌, ℕ, ◌+◌, ◌*◌, ◌<◌, ◌≤◌, Bool, true, false, List, [], ◌∷◌, length, Ok, Err, Result}
use Rattle.records.specs.declared.parts.Geometry.{Geometry}
use Rattle.records.specs.Contents.{Contents}
use Rattle.task.specs.Graph.{loop_at, Within}
use Rattle.walks.specs.Walk.{all_loops}
use Rattle.facts.specs.Kind.{Kind}
use Rattle.facts.specs.Settling.{task_states}
use Rattle.cache_state.specs.Cache.{Cache, Hits}
use Rattle.run.specs.Run.{Run}
use Rattle.categories.specs.declared.category.Category.{Category}
use Rattle.categories.specs.Category.{fetches_of}
use Rattle.categories.specs.Meaning.{Again, Keeps}
use Rattle.marks.specs.Table.{level_of}
use Rattle.figure.specs.declared.outcome.Figures.{Figures}
use Rattle.calls.specs.declared.call.Standing.{Standing}
use Rattle.calls.specs.declared.refusal.Refusal.{Refusal}
use Rattle.load.specs.declared.refusal.Refusal.TheVariants.{Text, Graph, NoMemory}
use Rattle.calls.specs.declared.refusal.Refusal.TheVariants.{Record, Bench}
use Rattle.calls.specs.Standing.{standing}
use Rattle.calls.specs.View.{View, unused, stage_of, task_of}
use Rattle.calls.specs.Answers.{figure_answer, ask_answer, stand_answer}
use Rattle.calls.specs.Outcomes.{LoadCall, ExamineCall, StartCall, StepCall, CloseCall, WriteCall, ListCall}
use Rattle.calls.specs.Plain.{Plain, plain_stage, plain_task, PlainLoad, PlainExamine, PlainStart, PlainStep, PlainClose}
use Rattle.calls.specs.Plain as plainly

-- A list of calls with their answers, the latest outermost, that leads from an unused bench to this one. Each call comes out as its
-- contract says, whatever the text, the starting cache, the block, the buffers; each examination brings a kind of its own.
pub data History : View → Type 1 where
  none : History unused
  load : {v w : View} → History v → (t : List ℕ) (r : Result Unit Refusal) → LoadCall t v r w → History w
  examine : {v w : View} → History v → (K : Type 0) (kind : Geometry → Kind K) (fetched : Geometry → ℕ → K → K) (work after : List K)
      (r : Result ℕ Refusal) → ExamineCall kind fetched work v r after w → History w
  start : {v w : View} → History v → (cache : Cache) (r : Result Unit Refusal) → StartCall cache v r w → History w
  step : {v w : View} → History v → (b : ℕ) (r : Result Unit Refusal) → StepCall b v r w → History w
  close : {v w : View} → History v → (r : Result Unit Refusal) → CloseCall v r w → History w
  write : {v : View} → History v → (out after : List ℕ) (r : Result ℕ Refusal) → WriteCall out v r after → History v
  figure : {v : View} → History v → (r : Result Figures Refusal) → r ≡ figure_answer v → History v
  ask : {v : View} → History v → (b j l : ℕ) (r : Result Category Refusal) → r ≡ ask_answer v b j l → History v
  stand : {v : View} → History v → (r : Result Standing Refusal) → r ≡ stand_answer v → History v
  list : {v : View} → History v → (b : ℕ) (out after : List ℕ) (r : Result ℕ Refusal) → ListCall b out v r after → History v

-- the call was refused for want of memory
abbrev pub wanting : {A : Type 0} → Result A Refusal → Bool
wanting (Ok x) = false
wanting (Err (Record (Text f))) = false
wanting (Err (Record (Graph f))) = false
wanting (Err (Record NoMemory)) = true
wanting (Err (Bench f)) = false

-- a call refused for want of memory is as if it had not been made
abbrev pub Fed : {A : Type 0} → Result A Refusal → (Plain → Plain → Type 0) → Plain → Plain → Type 0
Fed r next p q = elim (wanting r) [ true ↦ q ≡ p | false ↦ next p q ]

-- the plain run fed with these calls comes to q
abbrev pub Runs : {v : View} → History v → Plain → Type 0
Runs none q = q ≡ plainly.unused
Runs (load h t r _) q = (p : Plain) × Runs h p × Fed r (PlainLoad t) p q
Runs (examine h K kind fetched work after r _) q = (p : Plain) × Runs h p × Fed r (PlainExamine (length work)) p q
Runs (start h cache r _) q = (p : Plain) × Runs h p × Fed r (PlainStart cache) p q
Runs (step h b r _) q = (p : Plain) × Runs h p × Fed r (PlainStep b) p q
Runs (close h r _) q = (p : Plain) × Runs h p × Fed r PlainClose p q
Runs (write h out after r _) q = Runs h q
Runs (figure h r _) q = Runs h q
Runs (ask h b j l r _) q = Runs h q
Runs (stand h r _) q = Runs h q
Runs (list h b out after r _) q = Runs h q

-- the passes that an examination answered are those in which its kind settles the task that the plain run then had, and few
abbrev pub Settles : {v : View} {K : Type 0} → History v → (Geometry → Kind K) → Result ℕ Refusal → Type 0
Settles h kind (Ok n) =
    (p : Plain) × Runs h p × (n ≡ (task_states (kind (plain_task p).header.geometry) (plain_task p)).1)
    × (n ≤ length (plain_task p).blocks * (kind (plain_task p).header.geometry).height + 1)
Settles h kind (Err e) = Unit {0}

-- every examination did
abbrev pub AllSettle : {v : View} → History v → Type 0
AllSettle none = Unit {0}
AllSettle (load h t r _) = AllSettle h
AllSettle (examine h K kind fetched work after r _) = AllSettle h × Settles h kind r
AllSettle (start h cache r _) = AllSettle h
AllSettle (step h b r _) = AllSettle h
AllSettle (close h r _) = AllSettle h
AllSettle (write h out after r _) = AllSettle h
AllSettle (figure h r _) = AllSettle h
AllSettle (ask h b j l r _) = AllSettle h
AllSettle (stand h r _) = AllSettle h
AllSettle (list h b out after r _) = AllSettle h

-- On the blocks of a walk, the latest first, each fetch has kept the category that the bench answers for it at each loop around its block.
abbrev pub KeptAsAnswered : View → Contents → Cache → List ℕ → Type 0
KeptAsAnswered v c s [] = Unit {0}
KeptAsAnswered v c s (b ∷ w) =
    ((j i : ℕ) → j < fetches_of c b → i < length (all_loops c) → Within (loop_at (all_loops c) i) b
    → (x : Category) × (ask_answer v b j (level_of c b i) ≡ Ok x) × Keeps x (Again (loop_at (all_loops c) i) b w) (Hits c s w b j))
    × KeptAsAnswered v c s w

-- What the bench answers of the open walk: block, cycles, misses and fetches are the plain run's, the cycles are at most the figure, and
-- every fetch has kept its categories.
pub record Answered (v : View) (c : Contents) (s : Cache) (w : List ℕ) (r : Run) : Type 0 where
  pub stand : stand_answer v ≡ Ok (standing r)
  pub figures : Figures
  pub answered : figure_answer v ≡ Ok figures
  pub covered : r.cycles ≤ figures.cycles
  pub kept : KeptAsAnswered v c s w

abbrev pub WalkAnswered : View → Plain → Type 0
WalkAnswered v plainly.unused = Unit {0}
WalkAnswered v (plainly.loaded c) = Unit {0}
WalkAnswered v (plainly.examined c) = Unit {0}
WalkAnswered v (plainly.walking c s w r) = Answered v c s w r

-- What holds after a list of calls: the plain run fed with the same calls comes to one end; the bench has its stage and its task;
-- the answers about the open walk are right; and every examination has settled.
pub record Stands {v : View} (h : History v) : Type 0 where
  pub plain : Plain
  pub fed : Runs h plain
  pub only : (q : Plain) → Runs h q → q ≡ plain
  pub stage : stage_of v ≡ plain_stage plain
  pub task : task_of v ≡ plain_task plain
  pub walk : WalkAnswered v plain
  pub settled : AllSettle h

-- The law of the bench.
abbrev pub EveryHistoryStands : Type 1
EveryHistoryStands = (v : View) (h : History v) → Stands h
