-- Every loop is ready when its turn comes, and the last leaves the table.
use Rattle.std.proofs.Common.{arith}
use Rattle.task.specs.View.{task_contents}
use Rattle.search.proofs.Calls.{loop_ready, loop_more, table_all}
use Rattle.search.proofs.fill_table.Goals as goal

pub one_loop-requires : goal.one_loop-requires
one_loop-requires g c =
    let t = g.T.Tally in
    let task = c.args.task.now in
    loop_ready t.ops t.size (task_contents task) c.args.first.now c.args.later.now c.args.stays.now c.args.work.now
    g.met.T.Tally.lawful task.«record».ranges task.sound c.requires
    c.loop-number.number c.loop-number-test.true c.loop-number.auto.number
    c.loop-number.work c.loop-number.invariant c.deref.result.now c.deref.ensures.value c.loop_at.result
    c.loop_at.ensures.range c.index-stays-number.result c.index-stays-number.is

pub loop-number-preserved : goal.loop-number-preserved
loop-number-preserved g c =
    let t = g.T.Tally in
    let task = c.args.task.now in
    loop_more t.ops t.size (task_contents task) c.args.first.now c.args.later.now c.args.stays.now c.args.work.now
    g.met.T.Tally.lawful task.«record».ranges task.sound c.requires
    c.loop-number.number c.loop-number-test.true c.loop-number.auto.number
    c.loop-number.work c.loop-number.invariant c.deref.result.now c.deref.ensures.value c.loop_at.result
    c.loop_at.ensures.range c.index-stays-number.result c.index-stays-number.is
    c.one_loop.new.work c.one_loop.ensures

pub returns : goal.returns
returns g c =
    let t = g.T.Tally in
    let task = c.args.task.now in
    table_all t.ops t.size (task_contents task) c.args.first.now c.args.later.now c.args.stays.now c.args.work.now
    g.met.T.Tally.lawful task.«record».ranges task.sound c.requires
    c.loop-number.number c.loop-number.work (omega (arith, c.loop-number-test.false)) c.loop-number.invariant
