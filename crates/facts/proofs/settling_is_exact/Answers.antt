use Rattle.facts.proofs.Exact.{exact}
use Rattle.facts.proofs.settling_is_exact.Goals as goal

pub returns : goal.returns
returns g c geometry taken =
    exact (g.met.K.Facts.lawful geometry taken) (g.met.K.Facts.distributing geometry taken)
