-- The direct-mapped instruction cache.
use Rattle.std.specs.Prelude.{◌≡◌, ℕ, ◌+◌, ◌*◌, ◌/◌, ◌%◌, Bool, ◌&&◌, List, [], ◌∷◌, map, take, slice_index_or, slice_set}
use Rattle.std.specs.List.{range_with_len}
use Rattle.records.specs.declared.parts.Geometry.{Geometry}
use Rattle.records.specs.declared.parts.Block.{Block}
use Rattle.records.specs.Contents.{Contents}
use Rattle.records.specs.Layout.{one_of}
use Rattle.task.specs.Graph.{block_at}

-- the program line that each slot holds, or `empty`
abbrev pub Cache : Type 0
Cache = List ℕ

abbrev pub empty : ℕ
empty = 4294967295

-- a geometry that a record may have
abbrev pub in_range : Geometry → Bool
in_range g = one_of (4 ∷ 8 ∷ 16 ∷ 32 ∷ 64 ∷ []) g.line && one_of (1 ∷ 2 ∷ 4 ∷ 8 ∷ 16 ∷ 32 ∷ 64 ∷ []) g.slots

-- the program line of a block's fetch, counted from 0
abbrev pub fetch_line : Geometry → Block → ℕ → ℕ
fetch_line g b j = (b.address + 4 * j) / g.line

-- the lines of a block's fetches, in order
abbrev pub fetch_lines : Geometry → Block → List ℕ
fetch_lines g b = map (fetch_line g b) (range_with_len 0 b.fetches)

-- the slot of a program line
abbrev pub slot_of : Geometry → ℕ → ℕ
slot_of g t = t % g.slots

-- line t's slot holds it: a fetch of t hits
abbrev pub Resident : Geometry → Cache → ℕ → Type 0
Resident g c t = slice_index_or c (slot_of g t) empty ≡ t

-- the cache that a fetch of line t leaves
abbrev pub fetch_cache : Geometry → ℕ → Cache → Cache
fetch_cache g t c = slice_set c (slot_of g t) t

-- fetches one after the other, of a cache or of a state
abbrev pub fetch_all : {A : Type 0} → (ℕ → A → A) → List ℕ → A → A
fetch_all f [] x = x
fetch_all f (t ∷ ts) x = fetch_all f ts (f t x)

-- the cache that the blocks w leave, the latest first
abbrev pub walk_cache : Geometry → List Block → List ℕ → Cache → Cache
walk_cache g bs [] c = c
walk_cache g bs (p ∷ w) c = fetch_all (fetch_cache g) (fetch_lines g (block_at bs p)) (walk_cache g bs w c)

-- fetch j of block b, entered after the blocks w from this starting cache, hits
abbrev pub Hits : Contents → Cache → List ℕ → ℕ → ℕ → Type 0
Hits c start w b j =
    let g = c.header.geometry in
    let block = block_at c.blocks b in
    Resident g (fetch_all (fetch_cache g) (take j (fetch_lines g block)) (walk_cache g c.blocks w start)) (fetch_line g block j)
