use Rattle.std.proofs.Common.{◌≡◌, ℕ, ◌+◌, ◌<◌, List, ◌++◌, length, get_or, ap, ◌∙◌, subst, arith}
use Rattle.std.specs.List.{range_with_len, flat_map}
use Rattle.records.specs.declared.parts.Block.{Block}
use Rattle.task.specs.Graph.{block_at}
use Rattle.task.specs.View.{task_contents}
use Rattle.facts.specs.Space.{placed}
use Rattle.facts.proofs.Space.{block_placed}
use Rattle.cache_state.specs.Cache.{fetch_line}
use Rattle.cache_state.proofs.Fetches.{line_fits}
use Rattle.categories.specs.Category.{fetches_of, line_of}
use Rattle.marks.proofs.Counts.{rows_end}
use Rattle.figure.proofs.Places.{few_rows}
use Rattle.examine.specs.Findings.{shown}
use Rattle.writer.proofs.Laying.{appends_then, appends_none, appends_same}
use Rattle.listing.specs.Text.{fetch_text}
use Rattle.listing.proofs.Counted.{joined_count}
use Rattle.listing.proofs.Shown.{levels_are, levels_few, fetch_parts}
use Rattle.listing.proofs.lay_block.Goals as goal

-- the block that is read
found : (xs ys : List Block) (b : ℕ) (x : Block) → ys ≡ xs → (b < length ys) × ((d : Block) → x ≡ get_or ys b d) → (b < length xs) × (x ≡ block_at xs b)
found xs ys b x e h = subst (λ (zs : List Block). (b < length zs) × (x ≡ block_at zs b)) e (h.0, h.1 _)

pub overflow_add-levels : goal.overflow_add-levels
overflow_add-levels c =
    let read = found (task_contents c.args.task.now).blocks c.deref.result.now c.args.b c.in-Some.block.now c.deref.ensures.value c.in-Some.ensures.lookup.3 in
    let t = task_contents c.args.task.now in
    let few = levels_few t c.args.b read.0 c.args.task.now.sound in
    let are = levels_are t c.args.b read.0 in
    omega arith

pub loop-fetch-init : goal.loop-fetch-init
loop-fetch-init c = appends_none _

pub overflow_add-first : goal.overflow_add-first
overflow_add-first c =
    let read = found (task_contents c.args.task.now).blocks c.deref.result.now c.args.b c.in-Some.block.now c.deref.ensures.value c.in-Some.ensures.lookup.3 in
    let t = task_contents c.args.task.now in
    let n = ap (λ (x : Block). x.fetches) read.1 in
    let rows = rows_end t.blocks c.args.b read.0 in
    let few = few_rows t c.args.task.now.sound in
    omega arith

pub loop-fetch-preserved : goal.loop-fetch-preserved
loop-fetch-preserved c =
    let read = found (task_contents c.args.task.now).blocks c.deref.result.now c.args.b c.in-Some.block.now c.deref.ensures.value c.in-Some.ensures.lookup.3 in
    let t = task_contents c.args.task.now in
    let e = c.args.found.now in
    let b = c.args.b in
    let j = c.loop-fetch.fetch in
    let is = read.1 in
    let n = ap (λ (x : Block). x.fetches) is in
    let here = read.0 in
    let line : c.program_line-line.result ≡ line_of t b j =
    line_fits t.header.geometry c.in-Some.block.now j c.program_line-line.result c.program_line-line.ensures
    (ap placed is ∙ block_placed t c.args.task.now.sound b here) c.loop-fetch-test.true
    ∙ ap (λ x. fetch_line t.header.geometry x j) is in
    appends_same (joined_count (fetch_text t (shown t e) b) 0 j j (omega arith)
    ∙ ap (λ x. flat_map (fetch_text t (shown t e) b) (range_with_len 0 j) ++ x)
    (fetch_parts t b here e j (omega (arith, n)) c.program_line-line.result (c.fetches_before-first.result + j) (c.level_of-levels.result + 1) c.deref-in-loop-fetch.result.now
    line (ap (λ x. x + j) c.fetches_before-first.ensures) (omega (arith, levels_are t b here)) c.deref-in-loop-fetch.ensures.value))
    (appends_then c.loop-fetch.invariant (appends_then c.lay_place.ensures (appends_then c.lay_categories.ensures c.lay_bytes.ensures)))

pub returns : goal.returns
returns c =
    let read = found (task_contents c.args.task.now).blocks c.deref.result.now c.args.b c.in-Some.block.now c.deref.ensures.value c.in-Some.ensures.lookup.3 in
    let t = task_contents c.args.task.now in
    let n = ap (λ (x : Block). x.fetches) read.1 in
    let all : fetches_of (task_contents c.args.task.now) c.args.b ≡ c.loop-fetch.fetch = omega arith in
    appends_same (ap (λ k. flat_map (fetch_text t (shown t c.args.found.now) c.args.b) (range_with_len 0 k)) all) c.loop-fetch.invariant
