use Rattle.std.proofs.Common.{arith, rules}
use Rattle.std.proofs.lemmas.List.{get_or_read}
use Rattle.task.specs.View.{task_contents}
use Rattle.figure.proofs.Places.{few_rows, rows_end, rows_are}
use Rattle.figure.proofs.counts.MarkedTask.rows_of.Goals as goal

pub overflow_add-result : goal.overflow_add-result
overflow_add-result c =
    let task = c.args.self.now.task.now in
    let read = get_or_read (task_contents task).blocks c.args.b c.index.result.now c.requires c.index.ensures (record { address = 0; fetches = 0; cycles = 0 }) in
    let end = rows_end (task_contents task) c.args.b c.requires c.index.result.now c.fetches_before-first.result read c.fetches_before-first.ensures in
    omega (arith, few_rows (task_contents task) task.sound)

pub offset_bounds-self-first : goal.offset_bounds-self-first
offset_bounds-self-first c =
    let task = c.args.self.now.task.now in
    let read = get_or_read (task_contents task).blocks c.args.b c.index.result.now c.requires c.index.ensures (record { address = 0; fetches = 0; cycles = 0 }) in
    let end = rows_end (task_contents task) c.args.b c.requires c.index.result.now c.fetches_before-first.result read c.fetches_before-first.ensures in
    omega (arith, few_rows (task_contents task) task.sound)

pub slice_bounds-result-end : goal.slice_bounds-result-end
slice_bounds-result-end c =
    let task = c.args.self.now.task.now in
    let read = get_or_read (task_contents task).blocks c.args.b c.index.result.now c.requires c.index.ensures (record { address = 0; fetches = 0; cycles = 0 }) in
    let end = rows_end (task_contents task) c.args.b c.requires c.index.result.now c.fetches_before-first.result read c.fetches_before-first.ensures in
    let long = c.args.self.now.rows in
    search rules

pub returns : goal.returns
returns c =
    let task = c.args.self.now.task.now in
    let read = get_or_read (task_contents task).blocks c.args.b c.index.result.now c.requires c.index.ensures (record { address = 0; fetches = 0; cycles = 0 }) in
    rows_are (task_contents task) c.args.b c.requires c.index.result.now c.fetches_before-first.result read c.fetches_before-first.ensures c.args.self.now.table.now
