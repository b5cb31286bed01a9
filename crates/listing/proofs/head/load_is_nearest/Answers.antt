use Rattle.listing.proofs.Loads.{nearest}
use Rattle.listing.proofs.head.load_is_nearest.Goals as goal

pub returns : goal.returns
returns c = nearest
