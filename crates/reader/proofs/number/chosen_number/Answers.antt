use Rattle.std.proofs.Common.{◌∙◌}
use Rattle.reader.proofs.Singles.{chosen, was_number, one_in, one_out}
use Rattle.records.specs.Layout.{one_of}
use Rattle.reader.proofs.number.chosen_number.Goals as goal

pub returns-then-not-contains : goal.returns-then-not-contains
returns-then-not-contains c =
    one_out (one_of c.args.choices.now) c.in_ok-n.n c.args.body.now (was_number c.args.body.now c.number.result _ c.in_ok-n.n c.in_ok-n.ensures.value c.number.ensures)
    (chosen c.args.choices.now c.in_ok-n.n c.contains.result c.contains.ensures.cases ∙ c.if-not-contains.true)

pub returns : goal.returns
returns c =
    one_in (one_of c.args.choices.now) c.in_ok-n.n c.args.body.now (was_number c.args.body.now c.number.result _ c.in_ok-n.n c.in_ok-n.ensures.value c.number.ensures)
    (chosen c.args.choices.now c.in_ok-n.n c.contains.result c.contains.ensures.cases ∙ c.if-not-contains.false)
