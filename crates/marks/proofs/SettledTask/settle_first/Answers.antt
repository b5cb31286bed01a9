use Rattle.std.proofs.Common.{◌≡◌, ℕ, Some, None, subst, arith}
use Rattle.task.specs.Graph.{loop_at}
use Rattle.task.specs.View.{task_contents}
use Rattle.walks.specs.Walk.{all_loops}
use Rattle.facts.specs.Settling.{region_of, settled, entry_state, task_states}
use Rattle.cache_state.proofs.InRange.{record_in_range}
use Rattle.settle.specs.View.{viewed}
use Rattle.marks.specs.Steps.{Settled}
use Rattle.marks.proofs.Rounds.{settled_front, entry_known}
use Rattle.marks.proofs.SettledTask.settle_first.Goals as goal

pub returns-in-Some : goal.returns-in-Some
returns-in-Some g c =
    let t = task_contents c.args.self.now.task.now in
    let s = t.header.geometry in
    let k = g.K.Facts.kind s in
    let takes = g.met.K.CacheState.everywhere s (record_in_range t c.args.self.now.task.now.«record».ranges) in
    let q = viewed c.region-region.result in
    let known = entry_known k (g.K.Facts.takes s) takes t c.args.self.now.task.now.«record».ranges c.args.self.now.task.now.sound c.args.number c.requires.number
    q c.region-region.ensures
    c.args.self.now.states.now c.args.self.now.whole.room c.args.self.now.whole (Some c.in-Some.entry) c.in-Some.ensures in
    let entry : c.in-Some.entry ≡ entry_state k (region_of t.blocks t.edges (loop_at (all_loops t) c.args.number)) (task_states k t).0 = cc in
    subst (λ x. Settled t c.settle.new.states (settled k (region_of t.blocks t.edges (loop_at (all_loops t) c.args.number)) x).0) entry
    (settled_front k (g.K.Facts.takes s) takes t c.args.self.now.task.now.«record».ranges c.args.self.now.task.now.sound c.args.number c.requires.number
    q c.region-region.ensures
    c.args.first.now c.requires.room c.in-Some.entry c.settle.result c.settle.new.states c.settle.ensures.outcome).1

pub returns-in_default : goal.returns-in_default
returns-in_default g c =
    let t = task_contents c.args.self.now.task.now in
    let s = t.header.geometry in
    let k = g.K.Facts.kind s in
    let takes = g.met.K.CacheState.everywhere s (record_in_range t c.args.self.now.task.now.«record».ranges) in
    let q = viewed c.region-region.result in
    let known = entry_known k (g.K.Facts.takes s) takes t c.args.self.now.task.now.«record».ranges c.args.self.now.task.now.sound c.args.number c.requires.number
    q c.region-region.ensures
    c.args.self.now.states.now c.args.self.now.whole.room c.args.self.now.whole None c.in_default.ensures in
    let z : ◌≡◌ {A = ℕ} 0 1 = cc in
    absurd (omega arith)
