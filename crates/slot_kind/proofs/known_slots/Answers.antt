use Rattle.std.proofs.Common.{◌≡◌, ℕ, ◌<◌, ◌≤◌, ◌^◌, List, not, eqb, cond, sym, ◌∙◌, arith}
use Rattle.std.specs.List.{range_with_len, sum_by}
use Rattle.std.proofs.lemmas.List.Sums.{length-filter}
use Rattle.std.proofs.lemmas.Iterator.{YieldsList-from_range, YieldsList-from_map}
use Rattle.std.proofs.lemmas.Iterator.Consumers.{sum_by_from_yields_List, fits_by_from_yields_list}
use Rattle.std.proofs.lemmas.Bool.Decides.{nat_tests}
use Rattle.cache_state.specs.Cache.{empty}
use Rattle.slot_kind.specs.Slots.{line_in, known_slots}
use Rattle.slot_kind.specs.Lines.{known_count, known_most}
use Rattle.slot_kind.proofs.known_slots.Goals as goal

-- the known slots, added up as they are counted
known_sum : (a : List ℕ) (n : ℕ) → sum_by (λ i. cond (not (eqb (line_in a i) empty)) 1 0) (range_with_len 0 n) ≡ known_slots a n
known_sum a n = sym (length-filter (λ i. not (eqb (line_in a i) empty)) (range_with_len 0 n)) ∙ known_count a n

pub sum-requires-clause-fits : goal.sum-requires-clause-fits
sum-requires-clause-fits c =
    let one : ℕ → ℕ = λ i. cond (not (eqb (line_in c.args.lines.now i) empty)) 1 0 in
    let sum = known_sum c.args.lines.now c.args.slots in
    let most = known_most c.args.lines.now c.args.slots in
    fits_by_from_yields_list one (range_with_len 0 c.args.slots) c.map.result (2 ^ 32)
    (YieldsList-from_map _ one (YieldsList-from_range 0 c.args.slots c.args.slots (cc) (omega arith)) c.map.ensures.closure (λ x r q k. grind (arith, nat_tests)))
    (omega arith)

pub returns : goal.returns
returns c =
    let one : ℕ → ℕ = λ i. cond (not (eqb (line_in c.args.lines.now i) empty)) 1 0 in
    sum_by_from_yields_List one (range_with_len 0 c.args.slots) c.map.result c.sum.result c.sum.ensures.ran
    (YieldsList-from_map _ one (YieldsList-from_range 0 c.args.slots c.args.slots (cc) (omega arith)) c.map.ensures.closure (λ x r q k. grind (arith, nat_tests)))
    ∙ known_sum c.args.lines.now c.args.slots
