-- A sound task's loops have blocks, and its edges are listed by the blocks that they leave.
use Rattle.std.proofs.Common.{ℕ, ◌<◌, ◌≤◌, length, inl, inr, arith}
use Rattle.std.proofs.lemmas.Bool.{cases_lt}
use Rattle.records.specs.Contents.{Contents}
use Rattle.task.specs.declared.fault.GraphRule.TheVariants.{LoopOrder, EdgeOrder}
use Rattle.task.specs.Graph.{loop_at, edge_at}
use Rattle.task.specs.Rules.{Sound}

-- Every loop has a block, and the edges are listed by the blocks that they leave.
pub record Listed (c : Contents) : Type 0 where
  pub filled : (i : ℕ) → i < length c.loops → (loop_at c.loops i).header ≤ (loop_at c.loops i).last
  pub ascending : (j k : ℕ) → j < k → k < length c.edges → (edge_at c.edges j).from ≤ (edge_at c.edges k).from

pub listing : (c : Contents) → Sound c → Listed c
listing c sound = record {
  filled = λ i h. elim (cases_lt (loop_at c.loops i).last (loop_at c.loops i).header) [
    | inl l ↦ absurd (sound LoopOrder i (h, inl l))
    | inr l ↦ l
  ];
  ascending = λ j k l h. elim (cases_lt (edge_at c.edges k).from (edge_at c.edges j).from) [
    | inl m ↦ absurd (sound EdgeOrder k (h, (j, l, λ b. elim b [ inl u ↦ omega arith | inr u ↦ omega arith ])))
    | inr m ↦ m
  ];
}
