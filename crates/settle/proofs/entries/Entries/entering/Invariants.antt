use Rattle.std.proofs.Common.{◌≡◌, drop}
use Rattle.facts.specs.Settling.{leads_in, starts, gathered}
use Rattle.settle.proofs.entries.Entries.entering.Given as goal

abbrev pub invariant-loop-edge : goal.invariant-loop-edge
invariant-loop-edge g l =
    let k = g.K.Facts.kind l.self.geometry in
    gathered k l.self.region.now.blocks.now l.self.states.now l.state (starts (leads_in l.self.region.now.range) (drop l.edge-index l.self.region.now.edges.now))
    ≡ gathered k l.self.region.now.blocks.now l.self.states.now k.nothing_yet (starts (leads_in l.self.region.now.range) l.self.region.now.edges.now)
