-- A worked list of calls: the worked record is loaded and examined, and a walk goes from an empty cache through blocks 0, 1 and 2.
use Rattle.std.specs.Prelude.{◌≡◌, ℕ, List, [], ◌∷◌, replicate, Ok, Err}
use Rattle.records.specs.declared.parts.Geometry.{Geometry}
use Rattle.records.specs.Layout.{record_text}
use Rattle.task.specs.Example.{example}
use Rattle.facts.specs.Kind.{Kind}
use Rattle.cache_state.specs.Cache.{Cache, empty}
use Rattle.run.specs.Run.{Run, run_along}
use Rattle.examine.specs.Findings.{Findings}
use Rattle.run.specs.declared.StepFault.TheVariants.{NoEdge}
use Rattle.calls.specs.declared.fault.BenchFault.TheVariants.{Step as Stuck}
use Rattle.calls.specs.declared.refusal.Refusal.TheVariants.{Bench}
use Rattle.calls.specs.View.{unused, loaded, examined, walking}
use Rattle.calls.specs.Answers.{stand_answer}
use Rattle.calls.specs.Outcomes.{LoadCall, ExamineCall, StartCall, Free, StepCall}
use Rattle.calls.specs.Held.{Along}

abbrev pub at_first : Cache
at_first = replicate 2 empty

-- what the walk has come to at block 0, at block 1 and at block 2
abbrev pub started : Run
started = run_along example at_first (0 ∷ [])

abbrev pub second : Run
second = run_along example at_first (1 ∷ 0 ∷ [])

abbrev pub walked : Run
walked = run_along example at_first (2 ∷ 1 ∷ 0 ∷ [])

-- The calls and their answers, with any kind of cache state and a working list of eight states; no edge leads from block 0 to block 2.
pub record Worked {K : Type 0} (kind : Geometry → Kind K) (fetched : Geometry → ℕ → K → K) (work after : List K) (f : Findings) : Type 0 where
  pub load : LoadCall (record_text example) unused (Ok tt) (loaded example)
  pub examine : ExamineCall kind fetched work (loaded example) (Ok f.passes) after (examined example f)
  pub start : StartCall at_first (examined example f) (Ok tt) (walking example f started)
  pub aside : StepCall 2 (walking example f started) (Err (Bench (Stuck (NoEdge 2)))) (walking example f started)
  pub on : StepCall 1 (walking example f started) (Ok tt) (walking example f second)
  pub through : StepCall 2 (walking example f second) (Ok tt) (walking example f walked)
  pub stand : stand_answer (walking example f walked) ≡ Ok (record { block = 2; cycles = 23; misses = 2; fetches = 5 })
  -- the walk is open, and may go back to block 1
  pub along : Along example at_first (1 ∷ 0 ∷ []) walked
  pub back : Free example walked 1
