use Rattle.std.proofs.Common.{rules}
use Rattle.task.specs.View.{task_contents}
use Rattle.examine.specs.Findings.{shown}
use Rattle.listing.specs.Text.{block_text}
use Rattle.listing.proofs.Bound.{block_small}
use Rattle.listing.proofs.list.Goals as goal

pub returns : goal.returns
returns c =
    let t = task_contents c.args.task.now in
    c.fill.ensures (block_text t (shown t c.args.found.now) c.args.b)
    (block_small t c.args.task.now.«record».ranges c.args.task.now.sound c.args.found.now c.args.b) (λ old new h. search rules)
