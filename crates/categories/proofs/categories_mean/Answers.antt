use Rattle.categories.proofs.Grounds.{grounds_of}
use Rattle.categories.proofs.Fits.{means}
use Rattle.categories.proofs.categories_mean.Goals as goal

pub returns : goal.returns
returns g c task passed settled =
    means (g.K.Facts.kind task.header.geometry) (g.K.CacheState.fetched task.header.geometry) passed task
    (grounds_of g.K.Facts.takes g.K.Facts.kind g.K.CacheState.fetched g.met.K.CacheState.everywhere g.met.K.Facts.lawful
    g.met.K.CacheState.fetching g.met.K.CacheState.«spreading» task passed settled)
