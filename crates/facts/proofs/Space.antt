-- A sound task's blocks lie in the address space.
use Rattle.std.proofs.Common.{◌≡◌, ℕ, ◌+◌, ◌*◌, ◌<◌, true, length, inl, inr}
use Rattle.std.proofs.lemmas.Bool.{cases_Bool, leb-false}
use Rattle.records.specs.Contents.{Contents}
use Rattle.task.specs.Graph.{block_at}
use Rattle.task.specs.Rules.{Sound}
use Rattle.task.specs.declared.fault.GraphRule.TheVariants.{Address}
use Rattle.facts.specs.Space.{placed}

pub block_placed : (c : Contents) → Sound c → (b : ℕ) → b < length c.blocks → placed (block_at c.blocks b) ≡ true
block_placed c sound b l = elim (cases_Bool (placed (block_at c.blocks b))) [
  | inl e ↦ e
  | inr e ↦ absurd (sound Address b (l, inr (leb-false ((block_at c.blocks b).address + 4 * (block_at c.blocks b).fetches) 16777216 e)))
]
