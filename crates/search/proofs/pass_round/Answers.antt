-- Each turn takes one edge.
use Rattle.std.proofs.Common.{◌<◌, length, sym, ap, ◌∙◌, arith}
use Rattle.std.proofs.lemmas.List.{at_drop_all}
use Rattle.task.specs.Graph.{edge_at}
use Rattle.longest.specs.Search.{round_of, arrived}
use Rattle.longest.proofs.Pushes.{forward_parts}
use Rattle.search.proofs.Steps.{pushed_next, passed_next, round_again, small_turn}
use Rattle.search.proofs.pass_round.Goals as goal
use Rattle.search.proofs.pass_round.Goals.{then-is_forward, else-is_forward}

pub value_at-x-requires : goal.value_at-x-requires
value_at-x-requires g c =
    let t = g.T.Tally in
    let m = t.ops in
    let l = c.args.l in
    let es = c.args.edges.now in
    let k = c.loop-e.e-index in
    let yes = sym c.if-is_forward.ensures in
    let f = forward_parts l (edge_at es k) yes in
    let room : l.last < length c.loop-e.work = omega (arith, c.requires.room, c.loop-e.auto.work) in
    let s = small_turn m l es k c.loop-e-test.true c.loop-e.work c.loop-e.invariant.1 room t.size _ c.requires.sorted yes
    c.loop-e.invariant.0 c.requires.small in
    record { block = omega arith; low = c.loop-e.invariant.1; small = s }

pub loop-e-preserved : goal.loop-e-preserved
loop-e-preserved g c =
    let t = g.T.Tally in
    let m = t.ops in
    let l = c.args.l in
    let es = c.args.edges.now in
    let k = c.loop-e.e-index in
    let lt = c.loop-e-test.true in
    let s = c.loop-e.work in
    let e = edge_at es k in
    let room : l.last < length s = omega (arith, c.requires.room, c.loop-e.auto.work) in
    let again = round_again m l es k lt s c.loop-e.invariant.1 room c.if-is_forward.work (round_of m l es c.args.work.now) in
    elim c.if-is_forward.branch [
      | then-is_forward w ↦ again (pushed_next m l es k lt s c.if-is_forward.work
          (sym c.is_forward.ensures ∙ w.if-is_forward.true)
          (w.work-is ∙ w.arrive.ensures ∙ ap (arrived m s e.to) w.value_at-x.ensures)) c.loop-e.invariant.0
      | else-is_forward w ↦ again (passed_next m l es k lt s c.if-is_forward.work
          (sym c.is_forward.ensures ∙ w.if-is_forward.false) w.work-is) c.loop-e.invariant.0
    ]

pub returns : goal.returns
returns g c =
    let t = g.T.Tally in
    let m = t.ops in
    sym (at_drop_all (λ es. round_of m c.args.l es c.loop-e.work) c.args.edges.now c.loop-e.e-index c.loop-e-test.false)
    ∙ c.loop-e.invariant.0
