use Rattle.std.proofs.Common.{◌<◌, length, ap, ◌∙◌, inl, inr, arith}
use Rattle.std.proofs.lemmas.List.{get_or_default}
use Rattle.facts.specs.Settling.{leads_on, starts, gathered}
use Rattle.settle.proofs.Steps.{gathered_more, gathered-all}
use Rattle.settle.proofs.entries.Entries.turn.Goals as goal
use Rattle.settle.proofs.entries.Entries.turn.Goals.{then-leads_on, else-leads_on}

pub loop-edge-init : goal.loop-edge-init
loop-edge-init g c =
    let k = g.K.Facts.kind c.args.self.now.geometry in
    let l : c.args.b < length c.args.self.now.states.now = omega arith in
    ap (λ x. gathered k c.args.self.now.region.now.blocks.now c.args.self.now.states.now x (starts (leads_on c.args.self.now.region.now.range c.args.b) c.args.self.now.region.now.edges.now))
    (get_or_default c.args.self.now.states.now c.args.b c.index-self-b.result k.nothing_yet l)

pub loop-edge-preserved : goal.loop-edge-preserved
loop-edge-preserved g c =
    gathered_more (g.K.Facts.kind c.args.self.now.geometry) c.args.self.now.region.now.blocks.now c.args.self.now.states.now (leads_on c.args.self.now.region.now.range c.args.b) c.args.self.now.region.now.edges.now
    c.loop-edge.edge-index c.loop-edge.state c.if-leads_on.state c.leads_on.result c.loop-edge-test.true c.leads_on.ensures
    (elim c.if-leads_on.branch [
      | then-leads_on w ↦ inl (w.if-leads_on.true, w.state-is ∙ w.add-state.ensures)
      | else-leads_on w ↦ inr (w.if-leads_on.false, w.state-is)
    ])
    ∙ c.loop-edge.invariant

pub returns : goal.returns
returns g c =
    gathered-all (g.K.Facts.kind c.args.self.now.geometry) c.args.self.now.region.now.blocks.now c.args.self.now.states.now (leads_on c.args.self.now.region.now.range c.args.b) c.args.self.now.region.now.edges.now
    c.loop-edge.edge-index c.loop-edge.state _ c.loop-edge-test.false c.loop-edge.invariant
