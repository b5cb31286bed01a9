use Rattle.std.proofs.Common.{◌≡◌, List, ◌++◌}
use Rattle.records.specs.declared.parts.Block.{Block}
use Rattle.records.specs.declared.parts.Loop.{Loop}
use Rattle.records.specs.declared.parts.Edge.{Edge}
use Rattle.records.specs.Contents.{Contents}
use Rattle.records.specs.View.{contents}
use Rattle.records.specs.Layout.{record_text}
use Rattle.writer.specs.Parts.{header_text}
use Rattle.writer.proofs.Laying.{appends_then, appends_same}
use Rattle.writer.proofs.Parts.{blocks_text, loops_text, edges_text, record_parts}
use Rattle.writer.proofs.lay_record.Goals as goal

-- the parts, in the slices that were lent
lent_parts : (c : Contents) (bs : List Block) (ls : List Loop) (es : List Edge) → bs ≡ c.blocks → ls ≡ c.loops → es ≡ c.edges
    → record_text c ≡ header_text c.header ++ (blocks_text bs ++ (loops_text ls ++ edges_text es))
lent_parts c bs ls es b l e = rw (b, l, e) (record_parts c)

pub returns : goal.returns
returns c =
    appends_same
    (lent_parts (contents c.args.record.now) c.deref.result.now c.deref-2.result.now c.deref-3.result.now
    c.deref.ensures.value c.deref-2.ensures.value c.deref-3.ensures.value)
    (appends_then c.lay_header.ensures (appends_then c.lay_list.ensures (appends_then c.lay_list-2.ensures c.lay_list-3.ensures)))
