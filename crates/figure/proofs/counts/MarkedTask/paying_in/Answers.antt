use Rattle.std.proofs.Common.{length, ap, ◌∙◌, ap₂, arith}
use Rattle.task.specs.View.{task_contents}
use Rattle.longest.specs.Search.{by_round}
use Rattle.categories.specs.Costs.{pays_first, pays_later}
use Rattle.figure.specs.Row.{paying_rows}
use Rattle.figure.proofs.Places.{block_range, rows_long, paying_is}
use Rattle.figure.proofs.counts.MarkedTask.paying_in.Goals as goal

pub paying-requires : goal.paying-requires
paying-requires c =
    let task = c.args.self.now.task.now in
    let long = rows_long (task_contents task) c.args.b c.requires c.args.self.now.table.now c.args.self.now.rows in
    omega (arith, ap length c.rows_of.ensures, (block_range (task_contents task) c.args.b c.requires task.«record».ranges).fetches)

pub returns : goal.returns
returns c =
    let k = task_contents c.args.self.now.task.now in
    let is = paying_is k c.args.b c.requires c.args.self.now.table.now c.args.self.now.rows in
    ap₂ by_round (c.paying.ensures.first ∙ ap (paying_rows pays_first) c.rows_of.ensures ∙ is pays_first)
    (c.paying.ensures.later ∙ ap (paying_rows pays_later) c.rows_of.ensures ∙ is pays_later)
