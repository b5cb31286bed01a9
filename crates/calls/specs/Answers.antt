-- What a bench answers to the questions about its findings and its walk.
use Rattle.std.specs.Prelude.{ℕ, true, false, length, Ok, Err, Result, nat_lt}
use Rattle.records.specs.Contents.{Contents}
use Rattle.categories.specs.declared.category.Category.{Category}
use Rattle.categories.specs.Category.{fetches_of, levels_of}
use Rattle.figure.specs.declared.outcome.Figures.{Figures}
use Rattle.examine.specs.Findings.{Findings, category_at}
use Rattle.calls.specs.declared.call.Call.{Call}
use Rattle.calls.specs.declared.call.Call.TheVariants.{Figure, Ask, Stand}
use Rattle.calls.specs.declared.call.Standing.{Standing}
use Rattle.calls.specs.declared.fault.Part.TheVariants.{Block, Fetch, Level}
use Rattle.calls.specs.declared.fault.BenchFault.TheVariants.{WrongStage, NoSuch}
use Rattle.calls.specs.declared.refusal.Refusal.{Refusal}
use Rattle.calls.specs.declared.refusal.Refusal.TheVariants.{Bench}
use Rattle.calls.specs.Fault.{stage_number}
use Rattle.calls.specs.Standing.{standing}
use Rattle.calls.specs.View.{View, stage_of, taken, task_of, found_of, walk_of}

-- a call that is not of the stage is refused before all else
abbrev pub admitted : {A : Type 0} → Call → View → Result A Refusal → Result A Refusal
admitted call v answer = elim (taken call (stage_of v)) [ true ↦ answer | false ↦ Err (Bench (WrongStage (stage_number (stage_of v)))) ]

-- the worst case in cycles, and the greatest pair
abbrev pub figure_answer : View → Result Figures Refusal
figure_answer v = admitted Figure v (Ok (record { cycles = (found_of v).figure; greatest = (found_of v).greatest }))

-- the category of fetch j of block b at level l, if the task has that block, fetch and level
abbrev pub category_answer : Contents → Findings → ℕ → ℕ → ℕ → Result Category Refusal
category_answer c f b j l =
    elim (nat_lt b (length c.blocks)) [
      | true ↦ elim (nat_lt j (fetches_of c b)) [
        | true ↦ elim (nat_lt l (length (levels_of c b))) [ true ↦ Ok (category_at f b j l) | false ↦ Err (Bench (NoSuch Level)) ]
        | false ↦ Err (Bench (NoSuch Fetch))
      ]
      | false ↦ Err (Bench (NoSuch Block))
    ]

abbrev pub ask_answer : View → ℕ → ℕ → ℕ → Result Category Refusal
ask_answer v b j l = admitted Ask v (category_answer (task_of v) (found_of v) b j l)

-- where the open walk stands, and what it has counted
abbrev pub stand_answer : View → Result Standing Refusal
stand_answer v = admitted Stand v (Ok (standing (walk_of v)))
