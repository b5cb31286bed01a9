-- A block is entered: each part of the run, and that the counts of a first block are small.
use Rattle.std.proofs.Common.{◌≡◌, ℕ, zero, suc, ◌+◌, ◌-◌, ◌*◌, ◌^◌, ◌<◌, ◌≤◌, min, List, [], ◌∷◌, map, length, get_or, replicate, sym, refl, ap, ◌∙◌, subst, le_of_suc-le-suc, mul-le-mul, arith}
use native.Mathlib.Nat.{min-eq_left}
use Rattle.std.proofs.lemmas.List.FromFn.{length-map-range_with_len}
use Rattle.std.proofs.lemmas.List.{get_or-map, get_or_read, length-map}
use Rattle.records.specs.declared.parts.Block.{Block}
use Rattle.records.specs.declared.parts.Loop.{Loop}
use Rattle.records.specs.Contents.{Contents}
use Rattle.records.specs.Layout.{InFormat}
use Rattle.records.proofs.Ranges.{ranges}
use Rattle.task.specs.Graph.{block_at, loop_at}
use Rattle.task.proofs.Ranged.{block_range_at, loop_range_at}
use Rattle.walks.specs.Walk.{all_loops}
use Rattle.cache_state.specs.Cache.{Cache, fetch_line, fetch_lines, fetch_cache, fetch_all}
use Rattle.run.specs.Run.{Run, lines_of, misses_of, entered_rounds, entered, fresh}
use Rattle.run.specs.Open.{entry_cycles, Spent, Fits}
use Rattle.run.proofs.Missed.{misses_few}

-- a block that is read is the block of its number
pub block_read : (c : Contents) (b : ℕ) (x : Block) → b < length c.blocks → x ≡ get_or c.blocks b x → x ≡ block_at c.blocks b
block_read c b x l e = get_or_read c.blocks b x l e (record { address = 0; fetches = 0; cycles = 0 })

pub length-lines : (c : Contents) (b : ℕ) → length (lines_of c b) ≡ (block_at c.blocks b).fetches
length-lines c b = length-map-range_with_len (fetch_line c.header.geometry (block_at c.blocks b)) 0 (block_at c.blocks b).fetches

pub saturated : (n x : ℕ) → n ≡ min x (2 ^ 64 - 1) → x < 2 ^ 64 → n ≡ x
saturated n x e l = e ∙ min-eq_left (omega arith)

-- runs that agree in each part
same_run : (r s : Run) → r.block ≡ s.block → r.cache ≡ s.cache → r.rounds ≡ s.rounds → r.cycles ≡ s.cycles → r.misses ≡ s.misses → r.fetches ≡ s.fetches → r ≡ s
same_run r s p q t u v w =
    let parts : ◌≡◌ {A = Run} (record { cache = r.cache; block = r.block; rounds = r.rounds; cycles = r.cycles; misses = r.misses; fetches = r.fetches })
    (record { cache = s.cache; block = s.block; rounds = s.rounds; cycles = s.cycles; misses = s.misses; fetches = s.fetches }) = cc in
    parts

-- what entering a block makes of a run: the cache, the rounds, the misses and cycles of the block, and counts that stop at the end of 64 bits
pub record Made (c : Contents) (b : ℕ) (r : Run) (block : Block) (m charge : ℕ) (s : Run) : Type 0 where
  pub here : s.block ≡ b
  pub held : s.cache ≡ fetch_all (fetch_cache c.header.geometry) (fetch_lines c.header.geometry block) r.cache
  pub stays : s.rounds ≡ entered_rounds (all_loops c) b r.rounds
  pub few : m ≡ misses_of c.header.geometry (fetch_lines c.header.geometry block) r.cache
  pub price : entry_cycles c.header block m < 2 ^ 64 → charge ≡ entry_cycles c.header block m
  pub cycles : s.cycles ≡ min (r.cycles + charge) (2 ^ 64 - 1)
  pub misses : s.misses ≡ min (r.misses + m) (2 ^ 64 - 1)
  pub fetches : s.fetches ≡ min (r.fetches + block.fetches) (2 ^ 64 - 1)

module _ (c : Contents) (b : ℕ) (r : Run) where
  abbrev misses_at : ℕ
  misses_at = misses_of c.header.geometry (lines_of c b) r.cache

  charged : entry_cycles c.header (block_at c.blocks b) misses_at ≡ (block_at c.blocks b).cycles + (c.header.hit * length (lines_of c b) + c.header.penalty * misses_at)
  charged = ap (λ n. (block_at c.blocks b).cycles + (c.header.hit * n + c.header.penalty * misses_at)) (sym (length-lines c b))

  entered_at : (m charge : ℕ) (s : Run) → Fits c b r → Made c b r (block_at c.blocks b) m charge s → s ≡ entered c b r
  entered_at m charge s fits made =
      let at = ap (entry_cycles c.header (block_at c.blocks b)) made.few in
      let all = charged in
      let n = length-lines c b in
      let low = fits.cycles in
      let exact = made.price (omega arith) in
      let y = saturated s.cycles (r.cycles + charge) made.cycles (omega arith) in
      let t = saturated s.misses (r.misses + m) made.misses (omega (arith, fits.misses, made.few)) in
      let u = saturated s.fetches (r.fetches + (block_at c.blocks b).fetches) made.fetches (omega (arith, fits.fetches)) in
      same_run s (entered c b r) made.here made.held made.stays (omega arith) (omega (arith, made.few)) (omega arith)

  -- so the run is as it should be, where the counts fit
  pub entered_is : (block : Block) (m charge : ℕ) (s : Run) → block ≡ block_at c.blocks b → Fits c b r → Made c b r block m charge s → s ≡ entered c b r
  entered_is block m charge s is fits made = entered_at m charge s fits (subst (λ x. Made c b r x m charge s) is made)

zeros : (ls : List Loop) → replicate {A = ℕ} (length ls) 0 ≡ map (λ l. 0) ls
zeros [] = refl
zeros (l ∷ ls) = ap (λ rs. 0 ∷ rs) (zeros ls)

module _ (c : Contents) (format : InFormat c) (cache : Cache) where
  limit_some : (i : ℕ) → i < length (all_loops c) → 1 ≤ (loop_at (all_loops c) i).limit
  limit_some zero h = omega arith
  limit_some (suc i) h = (loop_range_at c format i (le_of_suc-le-suc h)).some

  fresh_free : Spent c (fresh c cache) 0 → ⊥
  fresh_free (i, h, e, l) =
      let some = limit_some i h in
      let none : get_or (fresh c cache).rounds i 0 ≡ 0 = get_or-map (λ (x : Loop). 0) (all_loops c) i (record { header = 0; last = 0; limit = 0 }) 0 h in
      omega arith

  fresh_fits : Fits c 0 (fresh c cache)
  fresh_fits =
      let range = ranges c format in
      let block = block_range_at c format 0 range.some in
      let n = length-lines c 0 in
      let few = misses_few c.header.geometry (lines_of c 0) cache in
      let hits = mul-le-mul {n₁ = c.header.hit} {m₁ = length (lines_of c 0)} {n₂ = 255} {m₂ = 64} range.header.hit_high (omega arith) in
      let misses = mul-le-mul {n₁ = c.header.penalty} {m₁ = misses_of c.header.geometry (lines_of c 0) cache} {n₂ = 4095} {m₂ = 64} range.header.penalty (omega arith) in
      record { long = length-map (all_loops c) (λ l. 0); cycles = omega arith; misses = omega arith; fetches = omega arith }

  -- a first block is entered as it should be
  pub first_run : (start s : Run) → start ≡ fresh c cache → (Fits c 0 start → (Spent c start 0 → ⊥) → s ≡ entered c 0 start) → s ≡ entered c 0 (fresh c cache)
  first_run start s e go = subst (λ r. Fits c 0 r → (Spent c r 0 → ⊥) → s ≡ entered c 0 r) e go fresh_fits fresh_free

  -- a walk with no rounds yet, and nothing counted
  pub fresh_is : (held rs : List ℕ) (n : ℕ) → held ≡ cache → rs ≡ replicate n 0 → n ≡ length (all_loops c)
      → ◌≡◌ {A = Run} (record { cache = held; block = 0; rounds = rs; cycles = 0; misses = 0; fetches = 0 }) (fresh c cache)
  fresh_is held rs n h z e =
      same_run (record { cache = held; block = 0; rounds = rs; cycles = 0; misses = 0; fetches = 0 }) (fresh c cache) refl h (z ∙ ap (λ k. replicate {A = ℕ} k 0) e ∙ zeros (all_loops c)) refl refl refl
