-- Each refusal of a call by its number, layer and place.
use Rattle.std.specs.Prelude.{ℕ, List, ◌∷◌, ◌++◌, codes, decimal}
use Rattle.load.specs.Refusal as record-refusal
use Rattle.load.specs.declared.refusal.Refusal.TheVariants as refused
use Rattle.examine.specs.declared.examination.ExamineError.{ExamineError}
use Rattle.examine.specs.declared.examination.ExamineError.TheVariants as examine
use Rattle.calls.specs.declared.fault.BenchFault.TheVariants.{TooShort}
use Rattle.calls.specs.declared.refusal.Refusal.{Refusal}
use Rattle.calls.specs.declared.refusal.Refusal.TheVariants.{Record, Bench}
use Rattle.calls.specs.Fault as bench

abbrev pub number : Refusal → ℕ
number (Record r) = record-refusal.number r
number (Bench f) = bench.number f

abbrev pub layer : Refusal → List ℕ
layer (Record r) = record-refusal.layer r
layer (Bench f) = codes "bench"

abbrev pub place : Refusal → ℕ
place (Record r) = record-refusal.place r
place (Bench f) = bench.place f

-- as it is printed
abbrev pub refusal_line : Refusal → List ℕ
refusal_line r = codes "refused=" ++ (decimal (number r) ++ (44 ∷ (layer r ++ (44 ∷ decimal (place r)))))

-- no memory was to be had: nothing is said of the record or of the call
abbrev pub no_memory : Refusal
no_memory = Record refused.NoMemory

-- what an examination lacks
abbrev pub examine_fault : ExamineError → Refusal
examine_fault (examine.TooShort n) = Bench (TooShort n)
examine_fault examine.NoMemory = no_memory
