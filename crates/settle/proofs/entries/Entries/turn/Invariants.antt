use Rattle.std.proofs.Common.{◌≡◌, drop}
use Rattle.facts.specs.Settling.{leads_on, starts, state_at, gathered}
use Rattle.settle.proofs.entries.Entries.turn.Given as goal

abbrev pub invariant-loop-edge : goal.invariant-loop-edge
invariant-loop-edge g l =
    let k = g.K.Facts.kind l.self.geometry in
    gathered k l.self.region.now.blocks.now l.self.states.now l.state (starts (leads_on l.self.region.now.range l.b) (drop l.edge-index l.self.region.now.edges.now))
    ≡ gathered k l.self.region.now.blocks.now l.self.states.now (state_at k l.self.states.now l.b) (starts (leads_on l.self.region.now.range l.b) l.self.region.now.edges.now)
