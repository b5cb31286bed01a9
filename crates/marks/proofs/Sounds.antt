-- What a sound task's blocks are like, by number.
use Rattle.std.proofs.Common.{◌≡◌, ℕ, ◌<◌, Bool, true, length, get_or, ap, ◌∙◌, arith}
use Rattle.std.specs.List.{list_all}
use Rattle.records.specs.declared.parts.Geometry.{Geometry}
use Rattle.records.specs.declared.parts.Block.{Block}
use Rattle.records.specs.Contents.{Contents}
use Rattle.task.specs.Graph.{block_at}
use Rattle.task.specs.Rules.{Sound}
use Rattle.task.proofs.Laws.{shallow}
use Rattle.facts.specs.Space.{placed}
use Rattle.facts.proofs.Space.{block_placed}
use Rattle.run.specs.Run.{lines_of}
use Rattle.run.proofs.Entering.{block_read}
use Rattle.categories.specs.Category.{fetches_of, apart}
use Rattle.cache_state.specs.Cache.{fetch_lines}
use Rattle.cache_state.proofs.Fetches.{first_lines, all_lines}
use Rattle.marks.specs.Steps.{given_lines}
use Rattle.marks.specs.Table.{level_of}
use Rattle.marks.proofs.Counts.{fewer_around}

-- no fetch of the block has another line of this line's slot
abbrev pub alone_at : Contents → ℕ → ℕ → Bool
alone_at c t b = list_all (apart c.header.geometry t) (lines_of c b)

-- in the address space the lines of a block's fetches are given as they are
pub lines_given : (g : Geometry) (x : Block) → placed x ≡ true → given_lines g x ≡ fetch_lines g x
lines_given g x p = first_lines g x x.fetches x.fetches p (omega arith) ∙ all_lines g x

-- a block that is read is the block of its number and lies in the address space, and the fetch is one of its fetches
pub read_block : (c : Contents) → Sound c → (b j : ℕ) (x : Block) → b < length c.blocks → j < fetches_of c b → x ≡ get_or c.blocks b x
    → (x ≡ block_at c.blocks b) × (placed x ≡ true) × (j < x.fetches)
read_block c sound b j x l few read =
    let e = block_read c b x l read in
    let n = ap (λ (y : Block). y.fetches) e in
    (e, ap placed e ∙ block_placed c sound b l, omega arith)

-- each level has a place in a row
pub level_low : (c : Contents) → Sound c → (b i : ℕ) → b < length c.blocks → level_of c b i < 8
level_low c sound b i l = let s = (shallow c sound b l).0 in let f = fewer_around b i c.loops in omega arith
