-- The plain run of a walk, from the task and the starting cache alone.
use Rattle.std.specs.Prelude.{ℕ, suc, ◌+◌, ◌*◌, cond, List, [], ◌∷◌, map, length, ◌==◌, slice_index_or}
use Rattle.records.specs.declared.parts.Geometry.{Geometry}
use Rattle.records.specs.declared.parts.Loop.{Loop}
use Rattle.records.specs.Contents.{Contents}
use Rattle.task.specs.Graph.{block_at, within}
use Rattle.walks.specs.Walk.{all_loops}
use Rattle.cache_state.specs.Cache.{Cache, empty, slot_of, fetch_lines, fetch_cache, fetch_all}

-- What a run has come to.
pub record Run : Type 0 where
  pub cache : Cache
  -- the block entered last
  pub block : ℕ
  -- the rounds of the current stay in each of the task's loops; 0 without a stay
  pub rounds : List ℕ
  pub cycles : ℕ
  pub misses : ℕ
  pub fetches : ℕ

-- the lines of block b's fetches
abbrev pub lines_of : Contents → ℕ → List ℕ
lines_of c b = fetch_lines c.header.geometry (block_at c.blocks b)

-- a fetch of line t misses: 1, or 0 where it hits
abbrev pub missed : Geometry → ℕ → Cache → ℕ
missed g t cache = cond ((slice_index_or cache (slot_of g t) empty) == t) 0 1

-- how many of these fetches miss, one after the other
abbrev pub misses_of : Geometry → List ℕ → Cache → ℕ
misses_of g [] cache = 0
misses_of g (t ∷ ts) cache = missed g t cache + misses_of g ts (fetch_cache g t cache)

-- the rounds of each loop's stay once block b is entered: a stay in a loop without b ends; at a
-- header the loop's stay has one round more, or begins with one
abbrev pub entered_rounds : List Loop → ℕ → List ℕ → List ℕ
entered_rounds [] b rs = []
entered_rounds (l ∷ ls) b [] = []
entered_rounds (l ∷ ls) b (r ∷ rs) = cond (within l b) (cond (b == l.header) (suc r) r) 0 ∷ entered_rounds ls b rs

-- and of one loop
abbrev pub next_rounds : Loop → ℕ → ℕ → ℕ
next_rounds l b r = cond (within l b) (cond (b == l.header) (suc r) r) 0

-- the run that enters block b and makes its fetches, each of which hits or misses in order
abbrev pub entered : Contents → ℕ → Run → Run
entered c b r =
    let ts = lines_of c b in
    let m = misses_of c.header.geometry ts r.cache in
    record {
      cache = fetch_all (fetch_cache c.header.geometry) ts r.cache;
      block = b;
      rounds = entered_rounds (all_loops c) b r.rounds;
      cycles = r.cycles + ((block_at c.blocks b).cycles + (c.header.hit * length ts + c.header.penalty * m));
      misses = r.misses + m;
      fetches = r.fetches + length ts;
    }

-- a run that has entered no block: no stays, and nothing counted
abbrev pub fresh : Contents → Cache → Run
fresh c cache = record { cache = cache; block = 0; rounds = map (λ l. 0) (all_loops c); cycles = 0; misses = 0; fetches = 0 }

-- the run along these blocks, the latest first
abbrev pub run_along : Contents → Cache → List ℕ → Run
run_along c cache [] = fresh c cache
run_along c cache (b ∷ w) = entered c b (run_along c cache w)
