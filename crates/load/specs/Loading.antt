-- What becomes of the bytes of a text: a task, or a refusal.
use Rattle.std.specs.Prelude.{◌≡◌, ℕ, ◌⊎◌, List, Ok, Err, Result}
use Rattle.records.specs.Contents.{Contents}
use Rattle.records.specs.Layout.{InFormat, record_text}
use Rattle.records.specs.View.{contents}
use Rattle.reader.specs.Reading.{Refused}
use Rattle.task.specs.declared.Task.{Task}
use Rattle.task.specs.Rules.{Sound, FirstBroken}
use Rattle.load.specs.declared.refusal.Refusal.{Refusal}
use Rattle.load.specs.declared.refusal.Refusal.TheVariants.{Text, Graph, NoMemory}

-- The text is that of the task's record; or it breaks a rule of the text; or it is the text of a record whose graph breaks
-- a rule. That a task's record is in range and sound is part of its type.
abbrev pub Loading : List ℕ → Result Task Refusal → Type 0
Loading t (Ok k) = t ≡ record_text (contents k.«record»)
Loading t (Err (Text f)) = Refused t f
Loading t (Err (Graph f)) = (c : Contents) × InFormat c × (t ≡ record_text c) × FirstBroken c f
Loading t (Err NoMemory) = Unit {0}

-- what an outcome says: which record, or which refusal
abbrev pub said : Result Task Refusal → Result Contents Refusal
said (Ok k) = Ok (contents k.«record»)
said (Err r) = Err r

-- two outcomes say the same, or one of them is for want of memory
abbrev pub Agree : Result Task Refusal → Result Task Refusal → Type 0
Agree a b = (said a ≡ said b) ⊎ ((a ≡ Err NoMemory) ⊎ (b ≡ Err NoMemory))

-- a text has one outcome
abbrev pub OneReading : List ℕ → Result Task Refusal → Type 0
OneReading t a = (b : Result Task Refusal) → Loading t b → Agree a b

-- the outcome is the task with this record, or is for want of memory
abbrev pub Gives : Contents → Result Task Refusal → Type 0
Gives c a = (said a ≡ Ok c) ⊎ (a ≡ Err NoMemory)

-- the text of a sound record gives a task with that record
abbrev pub ReadsBack : List ℕ → Result Task Refusal → Type 0
ReadsBack t a = (c : Contents) → InFormat c → Sound c → t ≡ record_text c → Gives c a
