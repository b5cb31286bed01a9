-- What a bench holds, and the stages in which it takes each call.
use Rattle.std.specs.Prelude.{Bool, true, false, not, ◌&&◌, []}
use Rattle.records.specs.Contents.{Contents}
use Rattle.run.specs.Run.{Run}
use Rattle.examine.specs.Findings.{Findings}
use Rattle.calls.specs.declared.call.Call.{Call}
use Rattle.calls.specs.declared.call.Call.TheVariants.{Load, Examine, Start, Step, Close, Write, Figure, Ask, List, Stand}
use Rattle.calls.specs.declared.stage.StageName.{StageName}
use Rattle.calls.specs.declared.stage.StageName.TheVariants.{Unused, Loaded, Examined, Walking}

-- A bench by its stage: the task, what was found of it, and what the open walk has come to.
pub data View : Type 0 where
  unused : View
  loaded : Contents → View
  examined : Contents → Findings → View
  walking : Contents → Findings → Run → View

abbrev pub stage_of : View → StageName
stage_of unused = Unused
stage_of (loaded c) = Loaded
stage_of (examined c f) = Examined
stage_of (walking c f r) = Walking

-- what a bench holds at a stage
abbrev pub has_task : StageName → Bool
has_task Unused = false
has_task Loaded = true
has_task Examined = true
has_task Walking = true

abbrev pub has_findings : StageName → Bool
has_findings Unused = false
has_findings Loaded = false
has_findings Examined = true
has_findings Walking = true

abbrev pub has_walk : StageName → Bool
has_walk Unused = false
has_walk Loaded = false
has_walk Examined = false
has_walk Walking = true

-- the stages of each call
abbrev pub taken : Call → StageName → Bool
taken Load s = not (has_walk s)
taken Examine s = has_task s && not (has_walk s)
taken Start s = has_findings s && not (has_walk s)
taken Step s = has_walk s
taken Close s = has_walk s
taken Write s = has_task s
taken Figure s = has_findings s
taken Ask s = has_findings s
taken List s = has_findings s
taken Stand s = has_walk s

-- The parts of what a bench holds; a part that its stage lacks is blank.
abbrev pub no_task : Contents
no_task = record {
  header = record { geometry = record { line = 0; slots = 0 }; hit = 0; penalty = 0; window = 0 };
  blocks = [];
  loops = [];
  edges = [];
}

abbrev pub no_findings : Findings
no_findings = record { passes = 0; figure = 0; greatest = (0, 0); categories = [] }

abbrev pub no_walk : Run
no_walk = record { cache = []; block = 0; rounds = []; cycles = 0; misses = 0; fetches = 0 }

abbrev pub task_of : View → Contents
task_of unused = no_task
task_of (loaded c) = c
task_of (examined c f) = c
task_of (walking c f r) = c

abbrev pub found_of : View → Findings
found_of unused = no_findings
found_of (loaded c) = no_findings
found_of (examined c f) = f
found_of (walking c f r) = f

abbrev pub walk_of : View → Run
walk_of unused = no_walk
walk_of (loaded c) = no_walk
walk_of (examined c f) = no_walk
walk_of (walking c f r) = r
