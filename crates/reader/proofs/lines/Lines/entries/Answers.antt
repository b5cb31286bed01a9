use Rattle.std.proofs.Common.{◌≡◌, vec_items, arith, rules}
use Rattle.std.proofs.lemmas.Result.{err_from_is_err_and}
use Rattle.reader.specs.Lines.{form}
use Rattle.reader.proofs.Lists.{sofar_none, sofar_more, sofar_stop, sofar_all}
use Rattle.reader.proofs.lines.Lines.entries.Goals as goal

pub loop-init : goal.loop-init
loop-init g c =
    sofar_none c.args.count (form g.E.Entry.tag (g.E.Parse.ranges c.args.blocks)) g.E.Entry.numbers c.args.self.now (vec_items c.new-all.result) c.new-all.ensures.items

pub returns-in_err-entry : goal.returns-in_err-entry
returns-in_err-entry g c =
    let p = err_from_is_err_and c.from_residual.result c.from_residual.ensures.1 in
    rw (p.1, p.2)
    (sofar_stop c.args.count (form g.E.Entry.tag (g.E.Parse.ranges c.args.blocks)) g.E.Entry.numbers c.args.self.now c.loop.counter (vec_items c.loop.all) c.loop.self _ c.loop-test.true c.loop.invariant c.in_err-entry.ensures)

pub loop-preserved : goal.loop-preserved
loop-preserved g c =
    sofar_more c.args.count (form g.E.Entry.tag (g.E.Parse.ranges c.args.blocks)) g.E.Entry.numbers c.args.self.now c.loop.counter (vec_items c.loop.all) (vec_items c.push.new.self) c.in_ok-entry.field-0 c.loop.self c.entry.new.self c.loop-test.true c.loop.invariant c.in_ok-entry.ensures (search rules)

pub returns : goal.returns
returns g c =
    let e : c.loop.counter ≡ c.args.count = omega arith in
    sofar_all c.args.count (form g.E.Entry.tag (g.E.Parse.ranges c.args.blocks)) g.E.Entry.numbers c.args.self.now c.loop.counter (vec_items c.loop.all) c.loop.self e c.loop.invariant
