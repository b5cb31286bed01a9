use Rattle.std.proofs.Common.{◌≡◌, ℕ, ◌<◌, length}
use Rattle.slot_kind.specs.Slots.{line_in, agreed}
use Rattle.slot_kind.proofs.common.Given as goal

abbrev pub invariant-loop-slot : goal.invariant-loop-slot
invariant-loop-slot l =
    (length l.lines ≡ 64) × ((i : ℕ) → i < l.slot → line_in l.lines i ≡ agreed (line_in l.a i) (line_in l.b i))
