-- The order of the edges.
use Rattle.std.proofs.Common.{ℕ, zero, suc, ◌-◌, ◌<◌, List, inl, inr, arith, below_more}
use Rattle.std.proofs.lemmas.Bool.{cases_eq}
use Rattle.records.specs.declared.parts.Edge.{Edge}
use Rattle.task.specs.Graph.{edge_at}
use Rattle.task.specs.Rules.{Before}

before_trans : (d e f : Edge) → Before d e → Before e f → Before d f
before_trans d e f (inl p) (inl q) = inl (omega arith)
before_trans d e f (inl p) (inr q) = inl (omega arith)
before_trans d e f (inr p) (inl q) = inl (omega arith)
before_trans d e f (inr p) (inr q) = inr (omega arith)

-- what comes after the last of some edges in order comes after each
pub after_each : (es : List Edge) (k : ℕ)
    → ((j : ℕ) → j < k → (i : ℕ) → i < j → Before (edge_at es i) (edge_at es j))
    → Before (edge_at es (k - 1)) (edge_at es k)
    → (i : ℕ) → i < k → Before (edge_at es i) (edge_at es k)
after_each es k sorted last i h =
    elim (cases_eq i (k - 1)) [
      | inl e ↦ rw e last
      | inr ne ↦ before_trans (edge_at es i) (edge_at es (k - 1)) (edge_at es k) (sorted (k - 1) (omega arith) i (omega arith)) last
    ]

-- edges are in order if each comes after the one before it
pub in_order : (es : List Edge) (n : ℕ) → ((k : ℕ) → 0 < k → k < n → Before (edge_at es (k - 1)) (edge_at es k))
    → (j : ℕ) → j < n → (i : ℕ) → i < j → Before (edge_at es i) (edge_at es j)
in_order es zero step j h = absurd (omega arith)
in_order es (suc n) step j h =
    let sorted = in_order es n (λ k pos l. step k pos (omega arith)) in
    below_more (λ m. (i : ℕ) → i < m → Before (edge_at es i) (edge_at es m)) n sorted
    (λ i l. after_each es n sorted (step n (omega arith) (omega arith)) i l)
    j (omega arith)
