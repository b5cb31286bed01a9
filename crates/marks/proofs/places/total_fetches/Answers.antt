use Rattle.std.proofs.Common.{vec_items, ◌∙◌, arith}
use Rattle.marks.proofs.Counts.{fetches-all}
use Rattle.marks.proofs.places.total_fetches.Goals as goal

pub returns : goal.returns
returns c = c.fetches_before.ensures ∙ fetches-all (vec_items c.args.task.now.«record».blocks) c.len.result (omega arith)
