use Rattle.std.proofs.Common.{ap, ◌∙◌}
use Rattle.task.specs.View.{task_contents}
use Rattle.cache_state.specs.Fetching.{sure_fetch}
use Rattle.cache_state.proofs.InRange.{record_in_range}
use Rattle.marks.proofs.Sounds.{read_block}
use Rattle.marks.proofs.place.Place.is_sure.Goals as goal

pub returns : goal.returns
returns g c =
    let t = task_contents c.args.self.now.task.now in
    let s = t.header.geometry in
    let read = read_block t c.args.self.now.task.now.sound c.args.self.now.b c.args.fetch c.index.result.now c.args.self.now.block c.requires c.index.ensures in
    c.sure_fetch.ensures (g.met.K.CacheState.everywhere s (record_in_range t c.args.self.now.task.now.«record».ranges))
    read.1 read.2
    ∙ ap (λ x. sure_fetch s (g.K.Facts.kind s) (g.K.CacheState.fetched s) x c.args.fetch c.args.state.now) read.0
