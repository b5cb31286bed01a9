-- The number of each stage, part and fault of a call, and the place of each fault.
use Rattle.std.specs.Prelude.{ℕ}
use Rattle.run.specs.declared.StepFault.TheVariants.{NoEdge, LimitSpent}
use Rattle.calls.specs.declared.stage.StageName.{StageName}
use Rattle.calls.specs.declared.stage.StageName.TheVariants.{Unused, Loaded, Examined, Walking}
use Rattle.calls.specs.declared.fault.Part.{Part}
use Rattle.calls.specs.declared.fault.Part.TheVariants.{Block, Fetch, Level}
use Rattle.calls.specs.declared.fault.BenchFault.{BenchFault}
use Rattle.calls.specs.declared.fault.BenchFault.TheVariants.{WrongStage, StartLength, Step, NoSuch, TooShort}

abbrev pub number : BenchFault → ℕ
number (WrongStage n) = 15
number (StartLength n) = 16
number (Step (NoEdge n)) = 17
number (Step (LimitSpent n)) = 18
number (NoSuch p) = 19
number (TooShort n) = 20

abbrev pub stage_number : StageName → ℕ
stage_number Unused = 0
stage_number Loaded = 1
stage_number Examined = 2
stage_number Walking = 3

abbrev pub part_number : Part → ℕ
part_number Block = 0
part_number Fetch = 1
part_number Level = 2

abbrev pub place : BenchFault → ℕ
place (WrongStage n) = n
place (StartLength n) = n
place (Step (NoEdge n)) = n
place (Step (LimitSpent n)) = n
place (NoSuch p) = part_number p
place (TooShort n) = n
