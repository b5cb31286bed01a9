-- Settling a task's loop in the front of a list.
use Rattle.std.proofs.Common.{◌≡◌, ℕ, ◌+◌, ◌*◌, ◌<◌, ◌≤◌, Bool, true, List, ◌++◌, length, take, drop, Some, Option, ap, ◌∙◌, arith, length-append}
use Rattle.std.proofs.lemmas.List.{take_at, length-set, length-replicate}
use Rattle.records.specs.Contents.{Contents}
use Rattle.records.specs.Layout.{InFormat}
use Rattle.task.specs.Graph.{loop_at}
use Rattle.task.specs.Rules.{Sound}
use Rattle.walks.specs.Walk.{all_loops}
use Rattle.facts.specs.Kind.{Kind}
use Rattle.facts.specs.Settling.{Region, region_of, begun, settled, entry_state, task_states}
use Rattle.facts.proofs.Passes.{length-pass, passes_kept}
use Rattle.settle.specs.Outcome.{outcome, entry_of}
use Rattle.settle.proofs.Accepts.{task_outcome, task_entry}
use Rattle.marks.specs.Steps.{Settled}

length-settled : {K : Type 0} (k : Kind K) (r : Region) (entry : K) → length (settled k r entry).0 ≡ length r.blocks
length-settled k r entry =
    passes_kept k r (λ xs. length xs ≡ length r.blocks) (λ xs e. length-pass k r xs ∙ e) (length r.blocks * k.height + 1) (begun k r entry)
    (simp (length-set, length-replicate))

-- q is the region of a task's loop
module _ {K : Type 0} (k : Kind K) (taken : Bool) (takes : taken ≡ true) (c : Contents) (format : InFormat c) (sound : Sound c) (i : ℕ) (l : i < length (all_loops c))
    (q : Region) (is : q ≡ region_of c.blocks c.edges (loop_at (all_loops c) i)) (xs : List K) (long : length c.blocks ≤ length xs) where
  -- what settling leaves
  pub settled_front : (entry : K) (o : Option ℕ) (ys : List K) → (o, ys) ≡ outcome k taken q entry xs
      → (o ≡ Some (settled k (region_of c.blocks c.edges (loop_at (all_loops c) i)) entry).1)
      × Settled c ys (settled k (region_of c.blocks c.edges (loop_at (all_loops c) i)) entry).0
  settled_front entry o ys e =
      let r : Region = region_of c.blocks c.edges (loop_at (all_loops c) i) in
      let zs : List K = (settled k r entry).0 in
      let Pair : Type 0 = Option ℕ × List K in
      let all : ◌≡◌ {A = Pair} (o, ys) (Some (settled k r entry).1, zs ++ drop (length c.blocks) xs) =
      e ∙ ap (λ r. outcome k taken r entry xs) is ∙ task_outcome k taken takes c format sound xs long i l entry in
      let made : ys ≡ zs ++ drop (length c.blocks) xs = ap (λ p. p.1) all in
      let n = length-settled k r entry in
      let m : length ys ≡ length (zs ++ drop (length c.blocks) xs) = ap length made in
      let a = length-append zs (drop (length c.blocks) xs) in (
        ap (λ p. p.0) all,
        record {
          room = omega arith;
          front = ap (take (length c.blocks)) made ∙ take_at zs (drop (length c.blocks) xs) (length c.blocks) n;
        },
      )

  -- the state in which stays in the loop begin
  pub entry_known : Settled c xs (task_states k c).0 → (o : Option K) → o ≡ entry_of k taken q xs
      → o ≡ Some (entry_state k (region_of c.blocks c.edges (loop_at (all_loops c) i)) (task_states k c).0)
  entry_known s o e =
      e ∙ ap (λ r. entry_of k taken r xs) is ∙ task_entry k taken takes c format sound xs long i l
      ∙ ap (λ v. Some (entry_state k (region_of c.blocks c.edges (loop_at (all_loops c) i)) v)) s.front
