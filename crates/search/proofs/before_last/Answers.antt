-- The three sums are small.
use Rattle.std.proofs.Common.{ap, ◌∙◌, arith}
use Rattle.search.proofs.Steps.{before_parts}
use Rattle.search.proofs.before_last.Goals as goal

pub returns : goal.returns
returns g c =
    let t = g.T.Tally in
    let p = before_parts g.met.T.Tally.lawful c.args.limit c.args.stay c.args.turn c.requires.several c.requires.small in
    let rounds = c.times.ensures p.rounds in
    let rounds-size = ap t.size rounds in
    let turns = c.add.ensures (omega (arith, p.turns)) ∙ ap (t.ops.plus c.args.turn.first) rounds in
    let turns-size = ap t.size turns in
    c.add-2.ensures (omega (arith, p.all)) ∙ ap (t.ops.plus c.args.stay) turns ∙ p.is
