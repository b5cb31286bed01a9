-- Each turn takes one edge.
use Rattle.std.proofs.Common.{sym, ap, ◌∙◌, arith}
use Rattle.std.proofs.lemmas.List.{at_drop_all}
use Rattle.task.specs.Graph.{edge_at}
use Rattle.longest.specs.Search.{greater_both, turned}
use Rattle.search.proofs.Steps.{turned_taken, turned_left, back_block}
use Rattle.search.proofs.turn_of.Goals as goal
use Rattle.search.proofs.turn_of.Goals.{then-is_backward, else-is_backward}

pub value_at-requires : goal.value_at-requires
value_at-requires g c =
    let m = g.T.Tally.ops in
    let es = c.args.edges.now in
    let k = c.loop-e.e-index in
    let q = back_block m c.args.l c.args.work.now es k c.loop-e-test.true (sym c.if-is_backward.ensures)
    c.requires.backs in
    let s = c.requires.small (edge_at es k).from q in
    record { block = omega (arith, q, c.requires.room); low = c.requires.low; small = s }

pub loop-e-preserved : goal.loop-e-preserved
loop-e-preserved g c =
    let m = g.T.Tally.ops in
    let s = c.args.work.now in
    let es = c.args.edges.now in
    let k = c.loop-e.e-index in
    let lt = c.loop-e-test.true in
    elim c.if-is_backward.branch [
      | then-is_backward w ↦ turned_taken m c.args.l s es k lt c.loop-e.most c.if-is_backward.most
          (sym c.is_backward.ensures ∙ w.if-is_backward.true)
          (w.most-is ∙ w.greater_both-most.ensures ∙ ap (greater_both m c.loop-e.most) w.value_at.ensures) ∙ c.loop-e.invariant
      | else-is_backward w ↦ turned_left m c.args.l s es k lt c.loop-e.most c.if-is_backward.most
          (sym c.is_backward.ensures ∙ w.if-is_backward.false) w.most-is ∙ c.loop-e.invariant
    ]

pub returns : goal.returns
returns g c =
    let m = g.T.Tally.ops in
    sym (at_drop_all (λ es. turned m c.args.l c.args.work.now es c.loop-e.most) c.args.edges.now c.loop-e.e-index
    c.loop-e-test.false) ∙ c.loop-e.invariant
