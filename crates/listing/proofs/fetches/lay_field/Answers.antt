use Rattle.writer.proofs.Laying.{appends_then}
use Rattle.listing.proofs.fetches.lay_field.Goals as goal

pub returns : goal.returns
returns c = appends_then c.lay_number.ensures c.lay_bytes.ensures
