use Rattle.cache_state.proofs.Tracks.{sound}
use Rattle.cache_state.proofs.states_are_sound.Goals as goal

pub returns : goal.returns
returns g c geometry taken = sound (g.met.K.Facts.lawful geometry taken) (g.met.K.CacheState.fetching geometry taken)
