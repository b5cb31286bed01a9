use Rattle.std.proofs.Common.{refl}
use Rattle.task.specs.Example.{example}
use Rattle.task.proofs.Instance.{example_sound}
use Rattle.examine.proofs.Worth.{worth}
use Rattle.calls.proofs.Worked.{worked}
use Rattle.calls.proofs.example.example_history.Goals as goal

pub returns : goal.returns
returns g c work after long =
    let k = g.K.Facts in
    let s = g.K.CacheState in
    worked k.kind s.fetched work after long
    (worth k.takes k.kind s.fetched g.met.K.CacheState.everywhere g.met.K.Facts.lawful g.met.K.Facts.distributing g.met.K.CacheState.fetching
    g.met.K.CacheState.«spreading» example refl example_sound)
