use Rattle.std.proofs.Common.{◌+◌, ◌*◌, length, arith}
use Rattle.settle.specs.View.{viewed}
use Rattle.settle.proofs.Steps.{going_begun, pass_lowers, going_on, going_ends, ranks_fit, height_small}
use Rattle.settle.proofs.run.Goals as goal

pub loop-geometry-init : goal.loop-geometry-init
loop-geometry-init g c =
    let k = g.K.Facts.kind c.args.geometry in
    let low = ranks_fit (g.met.K.Facts.lawful c.args.geometry c.requires.taken) c.args.states.now (length c.args.region.now.blocks.now) c.requires.room in
    going_begun k (viewed c.args.region.now) (length c.args.region.now.blocks.now * k.height + 1) c.args.states.now (omega arith)

pub loop-geometry-smaller : goal.loop-geometry-smaller
loop-geometry-smaller g c =
    pass_lowers (g.met.K.Facts.lawful c.args.geometry c.requires.taken) (viewed c.args.region.now)
    c.loop-geometry.states c.pass.new.states c.pass.result (omega arith) c.pass.ensures.after c.pass.ensures.changed c.loop-geometry-test.true

pub loop-geometry-preserved : goal.loop-geometry-preserved
loop-geometry-preserved g c =
    let k = g.K.Facts.kind c.args.geometry in
    going_on k (viewed c.args.region.now) (length c.args.region.now.blocks.now * k.height + 1)
    c.args.states.now c.loop-geometry.states c.pass.new.states c.loop-geometry.passes c.pass.result
    c.pass.ensures.after c.pass.ensures.changed c.loop-geometry.invariant c.loop-geometry-test.true (loop-geometry-smaller g c)

pub overflow_add-passes : goal.overflow_add-passes
overflow_add-passes g c =
    let laws = g.met.K.Facts.lawful c.args.geometry c.requires.taken in
    let few = c.loop-geometry.invariant.few in
    let low = ranks_fit laws c.args.states.now (length c.args.region.now.blocks.now) c.requires.room in
    let small = height_small laws (length c.args.region.now.blocks.now) c.requires.few in
    omega arith

pub returns : goal.returns
returns g c =
    let k = g.K.Facts.kind c.args.geometry in
    going_ends k (viewed c.args.region.now) (length c.args.region.now.blocks.now * k.height + 1)
    c.args.states.now c.loop-geometry.states c.pass.new.states c.loop-geometry.passes c.pass.result
    c.pass.ensures.after c.pass.ensures.changed c.loop-geometry.invariant c.loop-geometry-test.false
