-- What the checks find in the lists they find in the record, rule after rule.
use Rattle.std.proofs.Common.{None}
use Rattle.records.specs.View.{contents}
use Rattle.task.specs.declared.fault.GraphRule.TheVariants.{LoopOrder, Depth, LimitProduct, EdgeOrder, BackEdge, LoopEntry, Unreached, NoBackEdge, TooManyFetches, Address}
use Rattle.task.proofs.Laws.{laws}
use Rattle.task.proofs.Ranged.{fetches_few}
use Rattle.task.proofs.Tried.{Trial, tried_none, tried, kept, refused, tried_all, only_fault}
use Rattle.task.proofs.vet.vet.Goals as goal
use Rattle.task.proofs.vet.vet.Goals.{After-held, After-held-2, After-held-3, After-held-4, After-held-5, After-held-6, After-held-7, After-held-8, After-held-9, After-held-10}

pub too_many_fetches-requires : goal.too_many_fetches-requires
too_many_fetches-requires c = rw c.deref-blocks.ensures.value (fetches_few (contents c.args.«record».now) c.args.«record».now.ranges)

-- what is known once each rule is tried
loop_order : (c : After-held) → Trial (contents c.args.«record».now) 6 c.held.result
loop_order c = tried LoopOrder _ _ tried_none (rw (← c.deref-loops.ensures.value) (search)) c.held.ensures

depth : (c : After-held-2) → Trial (contents c.args.«record».now) 7 c.held-2.result
depth c = tried Depth _ _ (kept c.in_ok-held.was (search loop_order)) (rw (← c.deref-blocks.ensures.value, ← c.deref-loops.ensures.value) (search)) c.held-2.ensures

limit_product : (c : After-held-3) → Trial (contents c.args.«record».now) 8 c.held-3.result
limit_product c = tried LimitProduct _ _ (kept c.in_ok-held-2.was (search depth)) (rw (← c.deref-blocks.ensures.value, ← c.deref-loops.ensures.value) (search)) c.held-3.ensures

edge_order : (c : After-held-4) → Trial (contents c.args.«record».now) 9 c.held-4.result
edge_order c = tried EdgeOrder _ _ (kept c.in_ok-held-3.was (search limit_product)) (rw (← c.deref-edges.ensures.value) (search)) c.held-4.ensures

back_edge : (c : After-held-5) → Trial (contents c.args.«record».now) 10 c.held-5.result
back_edge c = tried BackEdge _ _ (kept c.in_ok-held-4.was (search edge_order)) (rw (← c.deref-loops.ensures.value, ← c.deref-edges.ensures.value) (search)) c.held-5.ensures

loop_entry : (c : After-held-6) → Trial (contents c.args.«record».now) 11 c.held-6.result
loop_entry c = tried LoopEntry _ _ (kept c.in_ok-held-5.was (search back_edge)) (rw (← c.deref-loops.ensures.value, ← c.deref-edges.ensures.value) (search)) c.held-6.ensures

unreached : (c : After-held-7) → Trial (contents c.args.«record».now) 12 c.held-7.result
unreached c = tried Unreached _ _ (kept c.in_ok-held-6.was (search loop_entry)) (rw (← c.deref-blocks.ensures.value, ← c.deref-edges.ensures.value) (search)) c.held-7.ensures

no_back_edge : (c : After-held-8) → Trial (contents c.args.«record».now) 13 c.held-8.result
no_back_edge c = tried NoBackEdge _ _ (kept c.in_ok-held-7.was (search unreached)) (rw (← c.deref-loops.ensures.value, ← c.deref-edges.ensures.value) (search)) c.held-8.ensures

too_many_fetches : (c : After-held-9) → Trial (contents c.args.«record».now) 14 c.held-9.result
too_many_fetches c = tried TooManyFetches _ _ (kept c.in_ok-held-8.was (search no_back_edge)) (rw (← c.deref-blocks.ensures.value) (search)) c.held-9.ensures

address : (c : After-held-10) → Trial (contents c.args.«record».now) 15 c.held-10.result
address c = tried Address _ _ (kept c.in_ok-held-9.was (search too_many_fetches)) (rw (← c.deref-blocks.ensures.value) (search)) c.held-10.ensures

pub returns-in_err-held : goal.returns-in_err-held
returns-in_err-held c = refused 6 _ c.in_err-held.was (search loop_order) c.from_residual.ensures.1

pub returns-in_err-held-2 : goal.returns-in_err-held-2
returns-in_err-held-2 c = refused 7 _ c.in_err-held-2.was (search depth) c.from_residual-in_err-held-2.ensures.1

pub returns-in_err-held-3 : goal.returns-in_err-held-3
returns-in_err-held-3 c = refused 8 _ c.in_err-held-3.was (search limit_product) c.from_residual-in_err-held-3.ensures.1

pub returns-in_err-held-4 : goal.returns-in_err-held-4
returns-in_err-held-4 c = refused 9 _ c.in_err-held-4.was (search edge_order) c.from_residual-in_err-held-4.ensures.1

pub returns-in_err-held-5 : goal.returns-in_err-held-5
returns-in_err-held-5 c = refused 10 _ c.in_err-held-5.was (search back_edge) c.from_residual-in_err-held-5.ensures.1

pub returns-in_err-held-6 : goal.returns-in_err-held-6
returns-in_err-held-6 c = refused 11 _ c.in_err-held-6.was (search loop_entry) c.from_residual-in_err-held-6.ensures.1

pub returns-in_err-held-7 : goal.returns-in_err-held-7
returns-in_err-held-7 c = refused 12 _ c.in_err-held-7.was (search unreached) c.from_residual-in_err-held-7.ensures.1

pub returns-in_err-held-8 : goal.returns-in_err-held-8
returns-in_err-held-8 c = refused 13 _ c.in_err-held-8.was (search no_back_edge) c.from_residual-in_err-held-8.ensures.1

pub returns-in_err-held-9 : goal.returns-in_err-held-9
returns-in_err-held-9 c = refused 14 _ c.in_err-held-9.was (search too_many_fetches) c.from_residual-in_err-held-9.ensures.1

pub returns-in_err-held-10 : goal.returns-in_err-held-10
returns-in_err-held-10 c = refused 15 _ c.in_err-held-10.was (search address) c.from_residual-in_err-held-10.ensures.1

pub returns : goal.returns
returns c =
    let r = c.args.«record».now in
    let sound = tried_all {c = contents r} (kept c.in_ok-held-10.was (search address)) in
    record { first = sound; only = only_fault (contents r) None sound; laws = laws (contents r) r.ranges sound }
