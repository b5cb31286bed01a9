use Rattle.facts.proofs.Settled.{ends}
use Rattle.facts.proofs.settling_ends.Goals as goal

pub returns : goal.returns
returns g c geometry taken r entry some fits = ends (g.met.K.Facts.lawful geometry taken) r entry some fits
