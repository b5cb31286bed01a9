-- The contents of a record.
use Rattle.std.specs.Prelude.{vec_items}
use Rattle.records.specs.declared.Record.{Record}
use Rattle.records.specs.Contents.{Contents, contents_of}

abbrev pub contents : Record → Contents
contents r = contents_of r.header (vec_items r.blocks) (vec_items r.loops) (vec_items r.edges)
