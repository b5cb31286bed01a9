use Rattle.std.proofs.Common.{length, ap, ◌∙◌, inl, inr}
use Rattle.std.proofs.lemmas.Bool.{ltb-true}
use Rattle.facts.specs.Settling.{leads_in, starts, gathered}
use Rattle.settle.specs.Outcome.{starts_below}
use Rattle.settle.proofs.Steps.{no_edge, every_at, gathered_more, gathered-all}
use Rattle.settle.proofs.entries.Entries.entering.Goals as goal
use Rattle.settle.proofs.entries.Entries.entering.Goals.{then-leads_in, else-leads_in}

pub add-state-requires : goal.add-state-requires
add-state-requires g c =
    ltb-true _ _
    (every_at (starts_below (length c.args.self.now.region.now.blocks.now)) no_edge c.args.self.now.region.now.edges.now c.loop-edge.edge-index c.requires c.loop-edge-test.true)

pub loop-edge-init : goal.loop-edge-init
loop-edge-init g c =
    let k = g.K.Facts.kind c.args.self.now.geometry in
    ap (λ x. gathered k c.args.self.now.region.now.blocks.now c.args.self.now.states.now x (starts (leads_in c.args.self.now.region.now.range) c.args.self.now.region.now.edges.now)) (c.nothing-state.ensures c.args.self.now.taken)

pub loop-edge-preserved : goal.loop-edge-preserved
loop-edge-preserved g c =
    gathered_more (g.K.Facts.kind c.args.self.now.geometry) c.args.self.now.region.now.blocks.now c.args.self.now.states.now (leads_in c.args.self.now.region.now.range) c.args.self.now.region.now.edges.now
    c.loop-edge.edge-index c.loop-edge.state c.if-leads_in.state c.leads_in.result c.loop-edge-test.true c.leads_in.ensures
    (elim c.if-leads_in.branch [
      | then-leads_in w ↦ inl (w.if-leads_in.true, w.state-is ∙ w.add-state.ensures)
      | else-leads_in w ↦ inr (w.if-leads_in.false, w.state-is)
    ])
    ∙ c.loop-edge.invariant

pub returns : goal.returns
returns g c =
    gathered-all (g.K.Facts.kind c.args.self.now.geometry) c.args.self.now.region.now.blocks.now c.args.self.now.states.now (leads_in c.args.self.now.region.now.range) c.args.self.now.region.now.edges.now
    c.loop-edge.edge-index c.loop-edge.state _ c.loop-edge-test.false c.loop-edge.invariant
