-- What a bench that is tied to the plain run answers of the open walk.
use Rattle.std.proofs.Common.{◌≡◌, ℕ, ◌<◌, true, ltb, List, [], ◌∷◌, length, Ok, refl, ap, ◌∙◌}
use Rattle.std.proofs.lemmas.Bool.{lt-ltb}
use Rattle.records.specs.Contents.{Contents}
use Rattle.records.specs.Layout.{InFormat}
use Rattle.task.specs.Graph.{loop_at, Within}
use Rattle.walks.specs.Walk.{Walk, all_loops}
use Rattle.cache_state.specs.Cache.{Cache}
use Rattle.run.specs.Run.{Run}
use Rattle.categories.specs.Category.{fetches_of, levels_of}
use Rattle.categories.specs.Meaning.{Kept}
use Rattle.categories.proofs.Loops.{walk_below}
use Rattle.marks.specs.Table.{level_of}
use Rattle.examine.specs.Findings.{Findings, category_at}
use Rattle.examine.proofs.Levels.{level_less}
use Rattle.calls.specs.View.{View, walking, stage_of, task_of}
use Rattle.calls.specs.Answers.{category_answer, ask_answer}
use Rattle.calls.specs.Plain.{Plain, plain_stage, plain_task}
use Rattle.calls.specs.History.{KeptAsAnswered, WalkAnswered}
use Rattle.calls.proofs.Walking.{within_figure}
use Rattle.calls.proofs.Tied.{Found, Tied, at_unused, at_loaded, at_examined, at_walking}

-- a question about a part that the task has
category_known : (c : Contents) (f : Findings) (b j l : ℕ) → b < length c.blocks → j < fetches_of c b → l < length (levels_of c b)
    → category_answer c f b j l ≡ Ok (category_at f b j l)
category_known c f b j l block fetch level =
    let x : ltb b (length c.blocks) ≡ true = lt-ltb b (length c.blocks) block in
    let y : ltb j (fetches_of c b) ≡ true = lt-ltb j (fetches_of c b) fetch in
    let z : ltb l (length (levels_of c b)) ≡ true = lt-ltb l (length (levels_of c b)) level in
    rw (x, category_answer, y, z)

module _ (c : Contents) (f : Findings) (s : Cache) (r : Run) (format : InFormat c) (holds : Found c f) where
  -- the answer at the level of a loop around the block is the mark at that loop
  asked : (b j i : ℕ) → b < length c.blocks → j < fetches_of c b → i < length (all_loops c) → Within (loop_at (all_loops c) i) b
      → ask_answer (walking c f r) b j (level_of c b i) ≡ Ok (holds.marks b j i)
  asked b j i block fetch number around =
      category_known c f b j (level_of c b i) block fetch (level_less c b i number around) ∙ ap Ok (holds.shown b j i block fetch number around)

  kept_answered : (w : List ℕ) (b : ℕ) → Walk c.edges 0 w b → Kept c holds.marks s (b ∷ w) → KeptAsAnswered (walking c f r) c s (b ∷ w)
  kept_answered [] b walk kept = (
    (λ j i fetch number around.
        (holds.marks b j i, asked b j i (walk_below c format [] b walk) fetch number around, kept.0 j i fetch number around)),
    tt,
  )
  kept_answered (p ∷ w) b walk kept = (
    (λ j i fetch number around.
        (holds.marks b j i, asked b j i (walk_below c format (p ∷ w) b walk) fetch number around, kept.0 j i fetch number around)),
    kept_answered w p walk.0 kept.1,
  )

pub walk_answered : {v : View} {p : Plain} → Tied v p → WalkAnswered v p
walk_answered at_unused = tt
walk_answered (at_loaded c format sound) = tt
walk_answered (at_examined c f format sound holds) = tt
walk_answered (at_walking c f s w r format sound holds along) = record {
  stand = refl;
  figures = record { cycles = f.figure; greatest = f.greatest };
  answered = refl;
  covered = within_figure c s w r along f (holds.marks, holds.covered, holds.figure);
  kept = kept_answered c f s r format holds w r.block along.walk (holds.kept w r.block s along.walk along.slots);
}

pub stage_same : {v : View} {p : Plain} → Tied v p → stage_of v ≡ plain_stage p
stage_same at_unused = refl
stage_same (at_loaded c format sound) = refl
stage_same (at_examined c f format sound holds) = refl
stage_same (at_walking c f s w r format sound holds along) = refl

pub task_same : {v : View} {p : Plain} → Tied v p → task_of v ≡ plain_task p
task_same at_unused = refl
task_same (at_loaded c format sound) = refl
task_same (at_examined c f format sound holds) = refl
task_same (at_walking c f s w r format sound holds along) = refl
