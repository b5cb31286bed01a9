use Rattle.std.proofs.Common.{◌+◌, vec_items, arith}
use Rattle.records.proofs.Ranges.{ranges}
use Rattle.task.specs.View.{task_contents}
use Rattle.run.specs.Open.{run_of}
use Rattle.run.proofs.Entering.{first_run, fresh_is}
use Rattle.run.proofs.OpenWalk.open.Goals as goal

pub enter-requires : goal.enter-requires
enter-requires c = let t = c.args.task.now in (ranges (task_contents t) t.«record».ranges).some

pub returns : goal.returns
returns c =
    let t = c.args.task.now in
    first_run (task_contents t) t.«record».ranges c.args.cache.now _ (run_of c.enter.new.self)
    (fresh_is (task_contents t) t.«record».ranges c.args.cache.now (vec_items c.in_ok-from_slice.field-0) (vec_items c.in_ok-no_stays.field-0) (c.len.result + 1)
    c.in_ok-from_slice.ensures.items c.in_ok-no_stays.ensures (omega (arith, c.len.ensures)))
    c.enter.ensures
