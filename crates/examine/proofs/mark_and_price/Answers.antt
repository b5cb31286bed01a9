use Rattle.std.proofs.Common.{◌≡◌, true, List, Ok, Err, Result, MatchResult, vec_items, sym, ◌∙◌, subst, arith}
use Rattle.std.specs.Result.{is_ok}
use Rattle.std.specs.Vec.{with_items}
use Rattle.std.proofs.lemmas.List.{with_items_is}
use Rattle.records.specs.Contents.{Contents}
use Rattle.task.specs.View.{task_contents}
use Rattle.categories.specs.declared.category.Category.{Category}
use Rattle.figure.specs.declared.outcome.FigureError.{FigureError}
use Rattle.figure.specs.declared.outcome.Figures.{Figures}
use Rattle.figure.specs.Figure.{FiguresBy, FiguresOf}
use Rattle.examine.specs.declared.examination.ExamineError.{ExamineError}
use Rattle.examine.proofs.Worth.{examined}
use Rattle.examine.proofs.mark_and_price.Goals as goal

-- figures that were not refused are those by the table
priced : (c : Contents) (table : List (List Category)) (r : Result Figures FigureError) (f : Figures) (P : FigureError → Type 0) → FiguresOf c table r
    → MatchResult r (λ x. ◌≡◌ {A = Result Figures ExamineError} (Ok f) (Ok x)) P → true ≡ is_ok r → FiguresBy c table f
priced c table (Ok x) f P by same ok = let e : f ≡ x = cc in subst (FiguresBy c table) (sym e) by
priced c table (Err e) f P by same ok = absurd (cc)

pub returns : goal.returns
returns g c =
    let t = c.args.task.now in
    let k = g.K.Facts in
    let s = g.K.CacheState in
    let m = rw c.unwrap-passes.ensures at c.mark.ensures in
    let table = c.mark.new.table in
    let same : vec_items (with_items c.in_ok-table.table table) ≡ table = with_items_is c.in_ok-table.table table (omega (arith, c.mark.auto.table, c.deref_mut-2.ensures.len)) in
    let by = priced (task_contents t) c.deref.result.now c.figures.result c.in_ok-figures.figures _ c.figures.ensures c.in_ok-figures.ensures.cases c.in_ok-figures.ensures.variant in
    examined k.takes k.kind s.fetched g.met.K.CacheState.everywhere g.met.K.Facts.lawful g.met.K.Facts.distributing g.met.K.CacheState.fetching g.met.K.CacheState.«spreading»
    (task_contents t) (record { passes = c.unwrap-passes.result; figures = c.in_ok-figures.figures; table = with_items c.in_ok-table.table table }) table t.«record».ranges t.sound
    same m.1 m.2 (subst (λ (x : List (List Category)). FiguresBy (task_contents t) x c.in_ok-figures.figures) (c.deref.ensures.value ∙ same) by)
