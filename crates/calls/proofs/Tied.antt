-- How a bench and the plain run hang together, and what a call makes of both.
use Rattle.std.proofs.Common.{◌≡◌, ℕ, ◌<◌, ◌⊎◌, List, ◌∷◌, length, Ok, Err, Result, sym, refl, subst, inl, inr}
use Rattle.records.specs.declared.parts.Geometry.{Geometry}
use Rattle.records.specs.Contents.{Contents}
use Rattle.records.specs.Layout.{InFormat}
use Rattle.task.specs.Graph.{loop_at, Within}
use Rattle.task.specs.Rules.{Sound}
use Rattle.walks.specs.Walk.{all_loops}
use Rattle.facts.specs.Kind.{Kind}
use Rattle.cache_state.specs.Cache.{Cache}
use Rattle.run.specs.Run.{Run}
use Rattle.longest.specs.Charge.{Greatest}
use Rattle.categories.specs.Category.{fetches_of, Marks}
use Rattle.categories.specs.Costs.{cycle_costs, cycle_tally}
use Rattle.categories.specs.Meaning.{KeptAlways, CoveredAlways}
use Rattle.marks.specs.Table.{level_of}
use Rattle.marks.specs.Marked.{task_marks}
use Rattle.examine.specs.Findings.{Findings, findings, category_at}
use Rattle.examine.specs.Examined.{Warranted}
use Rattle.examine.proofs.Categories.{category_found}
use Rattle.calls.specs.declared.fault.BenchFault.{BenchFault}
use Rattle.calls.specs.declared.fault.BenchFault.TheVariants.{WrongStage}
use Rattle.calls.specs.declared.refusal.Refusal.{Refusal}
use Rattle.calls.specs.declared.refusal.Refusal.TheVariants.{Bench}
use Rattle.calls.specs.Refusal.{no_memory}
use Rattle.calls.specs.View.{View, unused, loaded, examined, walking}
use Rattle.calls.specs.Held.{Along}
use Rattle.calls.specs.Plain.{Plain}
use Rattle.calls.specs.Plain as plainly
use Rattle.calls.specs.History.{Fed}

-- Findings that hold of the task: their categories are those of marks that every walk keeps, and their figure is the greatest charge by these.
pub record Found (c : Contents) (f : Findings) : Type 0 where
  pub marks : Marks
  pub kept : KeptAlways c marks
  pub covered : CoveredAlways c marks
  pub figure : Greatest cycle_tally (cycle_costs c marks) c f.figure
  pub shown : (b j i : ℕ) → b < length c.blocks → j < fetches_of c b → i < length (all_loops c) → Within (loop_at (all_loops c) i) b
      → category_at f b j (level_of c b i) ≡ marks b j i

pub found : {K : Type 0} (kind : Geometry → Kind K) (fetched : Geometry → ℕ → K → K) (c : Contents) → Warranted kind fetched c → Found c (findings kind fetched c)
found kind fetched c holds = record {
  marks = task_marks kind fetched c;
  kept = holds.kept;
  covered = holds.covered;
  figure = holds.figure;
  shown = λ b j i block fetch number around. category_found c b j block fetch kind fetched i number around;
}

-- The bench is at the stage of the plain run, with its task and its open walk, and with findings that hold.
pub data Tied : View → Plain → Type 0 where
  at_unused : Tied unused plainly.unused
  at_loaded : (c : Contents) → InFormat c → Sound c → Tied (loaded c) (plainly.loaded c)
  at_examined : (c : Contents) (f : Findings) → InFormat c → Sound c → Found c f → Tied (examined c f) (plainly.examined c)
  at_walking : (c : Contents) (f : Findings) (s : Cache) (w : List ℕ) (r : Run) → InFormat c → Sound c → Found c f → Along c s w r
      → Tied (walking c f r) (plainly.walking c s (r.block ∷ w) r)

-- The plain run comes to one end, to which the bench is tied.
pub record Led (w : View) (Next : Plain → Type 0) : Type 0 where
  pub plain : Plain
  pub fed : Next plain
  pub only : (q : Plain) → Next q → q ≡ plain
  pub tied : Tied w plain

-- the bench has come to be the one that is tied to p
pub retied : (v w : View) (p : Plain) → w ≡ v → Tied v p → Tied w p
retied v w p same tied = subst (λ x. Tied x p) (sym same) tied

-- nothing has changed
pub stays : (v w : View) (p : Plain) → w ≡ v → Tied v p → Led w (λ q. q ≡ p)
stays v w p same tied = record { plain = p; fed = refl; only = λ q e. e; tied = retied v w p same tied }

-- a call of the stage
module _ (accepted : Type 0) (p p' : Plain) where
  abbrev pub Moved : Plain → Type 0
  Moved q = (accepted × (q ≡ p')) ⊎ ((accepted → ⊥) × (q ≡ p))

  pub goes : (v w : View) → accepted → w ≡ v → Tied v p' → Led w Moved
  goes v w may same tied = record {
    plain = p';
    fed = inl (may, refl);
    only = λ q m. elim m [ inl x ↦ x.1 | inr x ↦ absurd (x.0 may) ];
    tied = retied v w p' same tied;
  }

  pub declines : (v w : View) → (accepted → ⊥) → w ≡ v → Tied v p → Led w Moved
  declines v w never same tied = record {
    plain = p;
    fed = inr (never, refl);
    only = λ q m. elim m [ inl x ↦ absurd (never x.0) | inr x ↦ x.1 ];
    tied = retied v w p same tied;
  }

-- a call counts unless it was refused for want of memory
module _ {A : Type 0} (r : Result A Refusal) (next : Plain → Plain → Type 0) (w : View) (p : Plain) where
  pub accepts : (x : A) → r ≡ Ok x → Led w (next p) → Led w (Fed r next p)
  accepts x e led = subst (λ (y : Result A Refusal). Led w (Fed y next p)) (sym e) led

  pub refuses : (f : BenchFault) → r ≡ Err (Bench f) → Led w (next p) → Led w (Fed r next p)
  refuses f e led = subst (λ (y : Result A Refusal). Led w (Fed y next p)) (sym e) led

  pub lacks : (v : View) → r ≡ Err no_memory → w ≡ v → Tied v p → Led w (Fed r next p)
  lacks v e same tied = subst (λ (y : Result A Refusal). Led w (Fed y next p)) (sym e) (stays v w p same tied)

-- a call that is not of the stage leaves both as they are
pub wrong_stage : {A : Type 0} (r : Result A Refusal) (next : Plain → Plain → Type 0) {v w : View} {p : Plain} {n : ℕ} → Tied v p
    → r ≡ Err (Bench (WrongStage n)) → w ≡ v → next p p → ((q : Plain) → next p q → q ≡ p) → Led w (Fed r next p)
wrong_stage r next {v} {w} {p} {n} tied wrong same stay only =
    refuses r next w p (WrongStage n) wrong (record { plain = p; fed = stay; only = only; tied = retied v w p same tied })
