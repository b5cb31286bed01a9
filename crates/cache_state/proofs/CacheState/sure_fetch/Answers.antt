use Rattle.std.proofs.Common.{◌∙◌, ap₂}
use Rattle.cache_state.proofs.Fetches.{line_fits}
use Rattle.cache_state.proofs.CacheState.sure_fetch.Goals as goal

pub returns : goal.returns
returns g c t p l =
    c.sure.ensures t
    ∙ ap₂ (g.Self.Facts.kind c.args.geometry).sure (c.fetch_first-state.ensures t p)
    (line_fits c.args.geometry c.args.block.now c.args.fetch c.program_line.result c.program_line.ensures p l)
