-- What stands in a record, as plain lists.
use Rattle.std.specs.Prelude.{List}
use Rattle.records.specs.declared.parts.Header.{Header}
use Rattle.records.specs.declared.parts.Block.{Block}
use Rattle.records.specs.declared.parts.Loop.{Loop}
use Rattle.records.specs.declared.parts.Edge.{Edge}

pub record Contents : Type 0 where
  pub header : Header
  pub blocks : List Block
  pub loops : List Loop
  pub edges : List Edge

abbrev pub contents_of : Header → List Block → List Loop → List Edge → Contents
contents_of h bs ls es = record { header = h; blocks = bs; loops = ls; edges = es }
