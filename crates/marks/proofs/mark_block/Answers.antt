use Rattle.std.proofs.Common.{◌+◌, ◌<◌, length, vec_items, ap, arith}
use Rattle.std.proofs.lemmas.List.{get_or_read}
use Rattle.records.specs.declared.parts.Block.{Block}
use Rattle.task.specs.View.{task_contents}
use Rattle.categories.specs.Category.{fetches_of}
use Rattle.marks.proofs.Filling.{filled_more, filled_all}
use Rattle.marks.proofs.mark_block.Goals as goal

pub loop-fetch-preserved : goal.loop-fetch-preserved
loop-fetch-preserved g c =
    let e = ap (λ (x : Block). x.fetches)
    (get_or_read (vec_items c.args.place.now.task.now.«record».blocks) c.args.place.now.b c.index.result.now c.args.place.now.block c.index.ensures (record { address = 0; fetches = 0; cycles = 0 })) in
    let l : c.args.row + c.loop-fetch.fetch < length c.loop-fetch.table = omega arith in
    filled_more c.loop-fetch.table c.store.new.table c.loop-fetch.fetch c.category_of-category.result c.loop-fetch.invariant
    c.store.ensures.table c.category_of-category.ensures l c.store.ensures.row c.requires.level

pub returns : goal.returns
returns g c =
    let e = ap (λ (x : Block). x.fetches)
    (get_or_read (vec_items c.args.place.now.task.now.«record».blocks) c.args.place.now.b c.index.result.now c.args.place.now.block c.index.ensures (record { address = 0; fetches = 0; cycles = 0 })) in
    filled_all c.loop-fetch.table c.loop-fetch.fetch (fetches_of (task_contents c.args.place.now.task.now) c.args.place.now.b) (omega arith) c.loop-fetch.invariant
