-- The lent lists of a region, as the definition of settling sees them.
use Rattle.facts.specs.Settling.{Region as Settled, region_of}
use Rattle.settle.specs.declared.region.Region.{Region}

abbrev pub viewed : Region → Settled
viewed r = region_of r.blocks.now r.edges.now r.range
