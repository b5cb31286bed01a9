-- What becomes of a record that is to be a task.
use Rattle.std.specs.Prelude.{◌≡◌, Some, None, Ok, Err, Option, Result}
use Rattle.records.specs.declared.Record.{Record}
use Rattle.records.specs.Contents.{Contents}
use Rattle.records.specs.View.{contents}
use Rattle.task.specs.declared.Task.{Task}
use Rattle.task.specs.Fault.{GraphFault}
use Rattle.task.specs.Rules.{Sound, FirstBroken}

-- these contents break no rule, or this one first
abbrev pub FirstFault : Contents → Option GraphFault → Type 0
FirstFault c None = Sound c
FirstFault c (Some f) = FirstBroken c f

-- no other answer fits these contents
abbrev pub OnlyFault : Contents → Option GraphFault → Type 0
OnlyFault c o = (p : Option GraphFault) → FirstFault c p → p ≡ o

-- a task with this record, or the first rule that the record breaks
abbrev pub Vetted : Record → Result Task GraphFault → Type 0
Vetted r (Ok t) = t.«record» ≡ r
Vetted r (Err f) = FirstBroken (contents r) f
