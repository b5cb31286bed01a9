use Rattle.std.proofs.Common.{get_or, arith}
use Rattle.std.proofs.lemmas.List.{get_or_default}
use Rattle.facts.specs.Space.{placed}
use Rattle.settle.proofs.Steps.{no_block, every_at, added}
use Rattle.settle.proofs.entries.Entries.add.Goals as goal

pub returns : goal.returns
returns g c =
    let xs = c.args.self.now.states.now in
    let blocks = c.args.self.now.region.now.blocks.now in
    let x = get_or xs c.args.p c.index-self-p.result in
    added (g.K.Facts.kind c.args.self.now.geometry) blocks xs c.args.p c.args.state x c.pass-end.result c.join.result (omega arith)
    (get_or_default xs c.args.p c.index-self-p.result x (omega arith))
    (c.pass-end.ensures c.args.self.now.taken (every_at placed no_block blocks c.args.p c.args.self.now.placed c.requires))
    (c.join.ensures c.args.self.now.taken)
