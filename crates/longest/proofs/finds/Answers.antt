use Rattle.longest.proofs.Theorem.{finds}
use Rattle.longest.proofs.Sizes.{stays_small}
use Rattle.longest.proofs.finds.Goals as goal

pub returns : goal.returns
returns g c = record { greatest = finds g.met.T.Tally.lawful; small = stays_small g.met.T.Tally.lawful }
