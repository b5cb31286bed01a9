use Rattle.std.proofs.Common.{◌≡◌, ℕ, ◌+◌, List, [], ◌∷◌, map, length, get_or, vec_items, ap, ◌∙◌, arith}
use Rattle.std.specs.List.{range_with_len}
use Rattle.std.proofs.lemmas.List.{get_or_read}
use Rattle.std.proofs.lemmas.Result.{IfOk-weaker}
use Rattle.records.specs.declared.parts.Block.{Block}
use Rattle.task.specs.Graph.{block_at}
use Rattle.task.specs.View.{task_contents}
use Rattle.walks.specs.Walk.{all_loops}
use Rattle.cache_state.specs.Cache.{fetch_line}
use Rattle.categories.specs.declared.category.Category.{Category}
use Rattle.categories.specs.Costs.{passing, distinct, charged_lines}
use Rattle.marks.specs.Table.{mark_at}
use Rattle.figure.specs.Row.{charged_row}
use Rattle.figure.proofs.Levels.{above_from, above_in, above_least}
use Rattle.figure.proofs.Places.{block_range, depth_is, depth_small, rows_long, charged_are}
use Rattle.figure.proofs.counts.MarkedTask.add_charged.Goals as goal

pub overflow_add-depth : goal.overflow_add-depth
overflow_add-depth c =
    let task = c.args.self.now.task.now in
    omega (arith, c.level_of-depth.ensures, depth_small (task_contents task) c.args.b c.requires.block task.«record».ranges task.sound)

pub add_block-requires : goal.add_block-requires
add_block-requires c =
    let task = c.args.self.now.task.now in
    let k = task_contents task in
    let b = c.args.b in
    let format = task.«record».ranges in
    let deep = depth_small k b c.requires.block format task.sound in
    let range = block_range k b c.requires.block format in
    record {
      outer =
          let up = above_in (all_loops k) b c.args.i c.requires.number c.requires.inside in
          let least = above_least (all_loops k) b c.args.i (omega (arith, c.requires.number)) in
          let whole = depth_is k b c.requires.block format in
          omega (arith, c.level_of-level.ensures, c.level_of-depth.ensures);
      deep = omega (arith, c.level_of-depth.ensures);
      short =
          let long = rows_long k b c.requires.block c.args.self.now.table.now c.args.self.now.rows in
          omega (arith, ap length c.rows_of.ensures, range.fetches);
      low =
          let read = get_or_read k.blocks b c.index.result.now c.requires.block c.index.ensures (record { address = 0; fetches = 0; cycles = 0 }) in
          omega (arith, ap (λ (x : Block). x.address) read, range.address);
    }

pub returns : goal.returns
returns c =
    let task = c.args.self.now.task.now in
    let k = task_contents task in
    let b = c.args.b in
    let depth : c.level_of-depth.result + 1 ≡ above_from (all_loops k) b 0 =
    omega (arith, c.level_of-depth.ensures, depth_is k b c.requires.block task.«record».ranges) in
    let lines : Block → List (List Category) → List ℕ =
    λ x rows. map (fetch_line k.header.geometry x) (passing (λ j. charged_row c.level_of-level.result (c.level_of-depth.result + 1) (get_or rows j [])) (range_with_len 0 (length rows))) in
    let are : lines c.index.result.now c.rows_of.result.now ≡ charged_lines k (mark_at k c.args.self.now.table.now) c.args.i (b ∷ []) =
    ap (λ x. lines x c.rows_of.result.now) (get_or_read k.blocks b c.index.result.now c.requires.block c.index.ensures (record { address = 0; fetches = 0; cycles = 0 })) ∙ ap (lines (block_at k.blocks b)) c.rows_of.ensures
    ∙ charged_are k b c.requires.block c.args.self.now.table.now c.args.self.now.rows c.args.i c.level_of-level.result (c.level_of-depth.result + 1) c.requires.number c.requires.inside c.level_of-level.ensures depth in
    IfOk-weaker c.add_block.result _ _ (λ _ e. e ∙ ap (distinct (vec_items c.args.lines.now)) are) c.add_block.ensures
