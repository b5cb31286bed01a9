use Rattle.writer.proofs.Laying.{appends_then}
use Rattle.listing.proofs.fetches.lay_place.Goals as goal

pub returns : goal.returns
returns c =
    appends_then c.lay_bytes.ensures (appends_then c.lay_field.ensures (appends_then c.lay_field-2.ensures c.lay_field-3.ensures))
