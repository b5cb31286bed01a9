use Rattle.std.proofs.Common.{suc, ◌<◌, length, vec_items, ap, ◌∙◌, arith}
use Rattle.task.specs.View.{task_contents}
use Rattle.settle.specs.Outcome.{outcome}
use Rattle.settle.specs.View.{viewed}
use Rattle.marks.proofs.Rounds.{settled_front}
use Rattle.marks.proofs.settle_task.Goals as goal

pub returns : goal.returns
returns g c =
    let t = task_contents c.args.task.now in
    let k = g.K.Facts.kind c.args.geometry in
    let taken = g.K.Facts.takes c.args.geometry in
    let l : 0 < suc (length (vec_items c.args.task.now.«record».loops)) = omega arith in
    let o = c.settle.ensures.outcome ∙ ap (λ x. outcome k taken (viewed c.region.result) x c.args.states.now) (c.open.ensures c.requires.taken) in
    let both = settled_front k taken c.requires.taken t c.args.task.now.«record».ranges c.args.task.now.sound 0 l (viewed c.region.result) c.region.ensures
    c.args.states.now c.requires.room k.open_state c.settle.result c.settle.new.states o in
    record { passes = both.0; settled = both.1 }
