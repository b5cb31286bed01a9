use Rattle.std.proofs.Common.{ap, ◌∙◌}
use Rattle.task.specs.View.{task_contents}
use Rattle.cache_state.specs.Cache.{fetch_line}
use Rattle.cache_state.proofs.Fetches.{line_fits}
use Rattle.marks.proofs.Sounds.{read_block}
use Rattle.marks.proofs.place.Place.line_of.Goals as goal

pub returns : goal.returns
returns c =
    let t = task_contents c.args.self.now.task.now in
    let s = t.header.geometry in
    let read = read_block t c.args.self.now.task.now.sound c.args.self.now.b c.args.fetch c.index.result.now c.args.self.now.block c.requires c.index.ensures in
    line_fits s c.index.result.now c.args.fetch c.program_line.result c.program_line.ensures
    read.1 read.2
    ∙ ap (λ x. fetch_line s x c.args.fetch) read.0
