use Rattle.std.proofs.Common.{arith}
use Rattle.cache_state.specs.Cache.{fetch_line, fetch_cache}
use Rattle.cache_state.proofs.Fetches.{line_fits, fetch_more}
use Rattle.run.proofs.Missed.{missed_once, misses_more}
use Rattle.run.proofs.fetches.fetch_block.Goals as goal

pub loop-fetch-preserved : goal.loop-fetch-preserved
loop-fetch-preserved c =
    let g = c.args.geometry in
    let block = c.args.block.now in
    let n = c.loop-fetch.fetch in
    let t = c.program_line.result in
    let was = c.args.cache.now in
    let cache = c.loop-fetch.cache in
    let line = line_fits g block n t c.program_line.ensures c.requires c.loop-fetch-test.true in
    let one = missed_once g t cache in
    let more = misses_more g (fetch_line g block) n t was cache line c.loop-fetch.invariant.2 in
    let count = c.fetch_line-misses.ensures.misses in
    let so_far = c.loop-fetch.invariant.1 in (
      omega arith,
      omega arith,
      fetch_more (fetch_cache g) (fetch_line g block) n t was cache c.fetch_line-misses.new.cache c.fetch_line-misses.ensures.cache line c.loop-fetch.invariant.2,
    )
