-- The fetches so far are made and their misses counted.
use Rattle.std.proofs.Common.{◌≡◌, ◌≤◌, map}
use Rattle.std.specs.List.{range_with_len}
use Rattle.cache_state.specs.Cache.{fetch_line, fetch_cache, fetch_all}
use Rattle.run.specs.Run.{misses_of}
use Rattle.run.proofs.fetches.fetch_block.Given as goal

abbrev pub invariant-loop-fetch : goal.invariant-loop-fetch
invariant-loop-fetch l =
    (l.misses ≤ l.fetch)
    × (l.misses ≡ misses_of l.geometry (map (fetch_line l.geometry l.block) (range_with_len 0 l.fetch)) l.initial.cache)
    × (l.cache ≡ fetch_all (fetch_cache l.geometry) (map (fetch_line l.geometry l.block) (range_with_len 0 l.fetch)) l.initial.cache)
