use Rattle.categories.proofs.Fits.{passed_exactly}
use Rattle.categories.proofs.passed_blocks_tell.Goals as goal

pub returns : goal.returns
returns g c geometry = passed_exactly (g.P.Facts.kind geometry)
