-- How categories are written.
use Rattle.std.specs.Prelude.{ℕ, List, codes}
use Rattle.categories.specs.declared.category.Category.{Category}
use Rattle.categories.specs.declared.category.Category.TheVariants.{AlwaysHit, FirstMiss, FirstHit, AlwaysMiss}

abbrev pub letters_of : Category → List ℕ
letters_of AlwaysHit = codes "h"
letters_of FirstMiss = codes "fm"
letters_of FirstHit = codes "fh"
letters_of AlwaysMiss = codes "m"
