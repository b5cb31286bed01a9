-- A walk on the worked record, step by step.
use Rattle.std.proofs.Common.{◌≡◌, ℕ, zero, suc, ◌≤◌, List, [], ◌∷◌, length, get_or, refl, inl, arith, lit<}
use Rattle.records.specs.declared.parts.Geometry.{Geometry}
use Rattle.records.specs.Layout.{record_text}
use Rattle.task.specs.Graph.{loop_at, Leads}
use Rattle.task.specs.Example.{example}
use Rattle.task.proofs.Instance.{example_sound}
use Rattle.walks.specs.Walk.{all_loops}
use Rattle.facts.specs.Kind.{Kind}
use Rattle.run.specs.Run.{Run}
use Rattle.run.specs.Open.{Spent}
use Rattle.examine.specs.Findings.{findings}
use Rattle.examine.specs.Examined.{Warranted}
use Rattle.calls.specs.Outcomes.{Reads, Free}
use Rattle.calls.specs.Held.{Along}
use Rattle.calls.specs.Example.{at_first, started, second, walked, Worked}
use Rattle.calls.proofs.Walking.{begun, stepped}

reads : Reads (record_text example) example
reads = record { format = refl; sound = example_sound; text = refl }

-- the worked record has two loops
unspent : (r : Run) (b : ℕ) → ((loop_at (all_loops example) 0).header ≡ b → (loop_at (all_loops example) 0).limit ≤ get_or r.rounds 0 0 → ⊥)
    → ((loop_at (all_loops example) 1).header ≡ b → (loop_at (all_loops example) 1).limit ≤ get_or r.rounds 1 0 → ⊥) → Spent example r b → ⊥
unspent r b whole named (zero, h, e, full) = whole e full
unspent r b whole named (suc zero, h, e, full) = named e full
unspent r b whole named (suc (suc i), h, e, full) = omega arith

on : Free example started 1
on = ((0, lit< tt, refl, refl), unspent started 1 (λ e full. omega arith) (λ e full. omega arith))

through : Free example second 2
through = ((1, lit< tt, refl, refl), unspent second 2 (λ e full. omega arith) (λ e full. omega arith))

back : Free example walked 1
back = ((2, lit< tt, refl, refl), unspent walked 1 (λ e full. omega arith) (λ e full. omega arith))

along : Along example at_first (1 ∷ 0 ∷ []) walked
along = stepped example at_first (0 ∷ []) second (stepped example at_first [] started (begun example at_first refl refl) 1 on) 2 through

no_edge : Leads example.edges 0 2 → ⊥
no_edge (zero, h, from, to) = omega arith
no_edge (suc zero, h, from, to) = omega arith
no_edge (suc (suc zero), h, from, to) = omega arith
no_edge (suc (suc (suc zero)), h, from, to) = omega arith
no_edge (suc (suc (suc (suc k))), h, from, to) = omega arith

pub worked : {K : Type 0} (kind : Geometry → Kind K) (fetched : Geometry → ℕ → K → K) (work after : List K) → 8 ≤ length work → Warranted kind fetched example
    → Worked kind fetched work after (findings kind fetched example)
worked kind fetched work after long holds = record {
  load = (example, reads, refl);
  examine = (long, refl, holds, refl);
  start = (refl, refl);
  aside = (refl, inl (refl, no_edge));
  on = (on, refl);
  through = (through, refl);
  stand = refl;
  along = along;
  back = back;
}
