-- The search finds the greatest charge.
use Rattle.records.specs.Contents.{Contents}
use Rattle.records.specs.Layout.{InFormat}
use Rattle.task.specs.Rules.{Sound}
use Rattle.tally.specs.Laws.{Ops}
use Rattle.longest.specs.Charge.{Costs, Greatest}
use Rattle.longest.specs.Search.{figure_of}

-- in every sound task, whatever the costs
abbrev pub Finds : {T : Type 0} → Ops T → Type 0
Finds {T} m = (costs : Costs T) (c : Contents) → InFormat c → Sound c → Greatest m costs c (figure_of m costs c)
