-- The table has the greatest charge to each block, and the answer is the greatest of these.
use Rattle.std.proofs.Common.{refl}
use Rattle.std.proofs.lemmas.Bool.{false≢true}
use Rattle.task.specs.View.{task_contents}
use Rattle.search.proofs.Calls.{found}
use Rattle.search.proofs.greatest_charge.Goals as goal

pub returns-then-not-accepts : goal.returns-then-not-accepts
returns-then-not-accepts g c = (λ ok. false≢true (c.if-not-accepts.ensures.1 ok), refl)

pub fill_table-requires : goal.fill_table-requires
fill_table-requires g c = c.if-not-accepts.ensures.0 refl

pub returns : goal.returns
returns g c =
    let t = g.T.Tally in
    let task = c.args.task.now in
    let ok = c.if-not-accepts.ensures.0 refl in (
      ok,
      found t.ops t.size (task_contents task) c.args.first.now c.args.later.now c.args.stays.now c.args.work.now g.met.T.Tally.lawful
          task.«record».ranges task.sound ok c.fill_table.new.work c.highest_of.result c.fill_table.ensures
          c.highest_of.ensures,
    )
