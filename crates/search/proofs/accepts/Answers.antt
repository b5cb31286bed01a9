-- The tests decide it, one list after the other.
use Rattle.std.proofs.Common.{◌∙◌}
use Rattle.task.specs.View.{task_contents}
use Rattle.search.proofs.Calls.{accepts_decides}
use Rattle.search.proofs.accepts.Goals as goal

pub returns : goal.returns
returns g c =
    let task = c.args.task.now in
    accepts_decides g.T.Tally.size (task_contents task) c.args.first.now c.args.later.now c.args.stays.now c.args.work.now
    c.are_costs.result c.are_costs-2.result c.are_costs-3.result c.len-blocks.result c.len-loops.result
    c.are_costs.ensures c.are_costs-2.ensures c.are_costs-3.ensures (c.len-blocks.ensures ∙ task.«record».blocks.ok.0)
    (c.len-loops.ensures ∙ task.«record».loops.ok.0)
