use Rattle.cache_state.proofs.Exactly.{exactly}
use Rattle.cache_state.proofs.states_are_exact.Goals as goal

pub returns : goal.returns
returns g c geometry taken =
    exactly (g.met.K.Facts.lawful geometry taken) (g.met.K.Facts.distributing geometry taken) (g.met.K.CacheState.fetching geometry taken)
    (λ t. g.met.K.CacheState.spreading geometry t taken)
