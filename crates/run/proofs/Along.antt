-- A run's cache, block and rounds are functions of the walk; its cycles are those of its blocks, its fetches and its misses.
use Rattle.std.proofs.Common.{◌≡◌, ℕ, ◌+◌, ◌*◌, ◌<◌, List, [], ◌∷◌, map, length, get_or, refl, ap, ◌∙◌, mul-add, arith, length-set}
use Rattle.std.proofs.lemmas.List.{get_or-map}
use Rattle.records.specs.declared.parts.Geometry.{Geometry}
use Rattle.records.specs.declared.parts.Loop.{Loop}
use Rattle.records.specs.Contents.{Contents}
use Rattle.task.specs.Graph.{block_at, loop_at}
use Rattle.walks.specs.Walk.{all_loops, rounds}
use Rattle.cache_state.specs.Cache.{Cache, slot_of, fetch_cache, fetch_all, walk_cache}
use Rattle.run.specs.Run.{lines_of, misses_of, entered_rounds, run_along}

pub entered_rounds_lem : (ls : List Loop) (b : ℕ) (w : List ℕ) → entered_rounds ls b (map (λ l. rounds l w) ls) ≡ map (λ l. rounds l (b ∷ w)) ls
entered_rounds_lem [] b w = refl
entered_rounds_lem (l ∷ ls) b w = ap (λ rs. rounds l (b ∷ w) ∷ rs) (entered_rounds_lem ls b w)

-- fetches keep the number of slots
pub length-fetches : (g : Geometry) (ts : List ℕ) (cache : Cache) → length (fetch_all (fetch_cache g) ts cache) ≡ length cache
length-fetches g [] cache = refl
length-fetches g (t ∷ ts) cache = length-fetches g ts (fetch_cache g t cache) ∙ length-set cache (slot_of g t) t

-- the own cycles of these blocks, and their fetches as hits
abbrev pub plain_cycles : Contents → List ℕ → ℕ
plain_cycles c [] = 0
plain_cycles c (b ∷ w) = plain_cycles c w + ((block_at c.blocks b).cycles + c.header.hit * length (lines_of c b))

module _ (c : Contents) (cache : Cache) where
  pub run_cache : (w : List ℕ) → (run_along c cache w).cache ≡ walk_cache c.header.geometry c.blocks w cache
  run_cache [] = refl
  run_cache (b ∷ w) = ap (fetch_all (fetch_cache c.header.geometry) (lines_of c b)) (run_cache w)

  pub run_rounds : (w : List ℕ) → (run_along c cache w).rounds ≡ map (λ l. rounds l w) (all_loops c)
  run_rounds [] = refl
  run_rounds (b ∷ w) = ap (entered_rounds (all_loops c) b) (run_rounds w) ∙ entered_rounds_lem (all_loops c) b w

  pub run_rounds_at : (w : List ℕ) (i : ℕ) → i < length (all_loops c) → get_or (run_along c cache w).rounds i 0 ≡ rounds (loop_at (all_loops c) i) w
  run_rounds_at w i h =
      ap (λ rs. get_or rs i 0) (run_rounds w) ∙ get_or-map (λ l. rounds l w) (all_loops c) i (record { header = 0; last = 0; limit = 0 }) 0 h

  pub length-run-cache : (w : List ℕ) → length (run_along c cache w).cache ≡ length cache
  length-run-cache [] = refl
  length-run-cache (b ∷ w) = length-fetches c.header.geometry (lines_of c b) (run_along c cache w).cache ∙ length-run-cache w

  pub run_cycles : (w : List ℕ) → (run_along c cache w).cycles ≡ plain_cycles c w + c.header.penalty * (run_along c cache w).misses
  run_cycles [] = omega arith
  run_cycles (b ∷ w) =
      let r = run_cycles w in
      omega (arith, mul-add c.header.penalty (run_along c cache w).misses (misses_of c.header.geometry (lines_of c b) (run_along c cache w).cache))
