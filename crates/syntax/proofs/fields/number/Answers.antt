use Rattle.std.proofs.Common.{inl, inr, ◌≡◌, ℕ, ◌<◌, List, length, get_or, arith, true-eqb, false-eqb}
use Rattle.std.proofs.lemmas.Str.Parse.{digit_at}
use Rattle.syntax.specs.Line.{Numbers, fields_text}
use Rattle.syntax.proofs.Digits.{Plain, plain_decimal, room, read_more, read_all}
use Rattle.syntax.proofs.Listed.{decimal_one, one_decimal}
use Rattle.syntax.proofs.fields.number.Goals as goal
use Rattle.syntax.proofs.fields.number.Goals.{then-is_empty-via-then-is_empty, then-is_empty-via-else-is_empty+then-s-gt-MOST_DIGITS, else-s-eq48-via-then-s-eq48+else-s-gt1, else-s-eq48-via-else-s-eq48}

-- what the text of one number looks like
plain : (s fs : List ℕ) → Numbers 1 fs → s ≡ fields_text fs → Plain s
plain s fs n e = let d = decimal_one s fs n e in plain_decimal s d.0 d.1 d.2

pub returns-then-is_empty : goal.returns-then-is_empty
returns-then-is_empty c = λ fs n e.
    let p = plain c.args.s.now fs n e in
    elim c.then-is_empty.branch [
      | then-is_empty-via-then-is_empty w ↦ omega (arith, p.some, true-eqb _ 0 w.if-is_empty.ensures)
      | then-is_empty-via-else-is_empty+then-s-gt-MOST_DIGITS w ↦ omega (arith, p.short, w.if-s-gt-MOST_DIGITS.true)
    ]

pub returns-then-s-gt1 : goal.returns-then-s-gt1
returns-then-s-gt1 c = λ fs n e.
    let p = plain c.args.s.now fs n e in
    omega (arith, p.lead c.if-s-eq48.true)

pub returns-then-not-is_ascii_digit : goal.returns-then-not-is_ascii_digit
returns-then-not-is_ascii_digit c = λ fs n e.
    let p = plain c.args.s.now fs n e in
    let d = digit_at c.args.s.now c.loop-b.b-index p.digits c.loop-b-test.true in
    elim c.if-not-is_ascii_digit.ensures.cases [
      | inl low ↦ omega (arith, d, low)
      | inr high ↦ omega (arith, d, high)
    ]

pub overflow_mul-n : goal.overflow_mul-n
overflow_mul-n c = omega (arith, room c.args.s.now c.loop-b.b-index c.loop-b.n c.loop-b-test.true c.if-s-gt-MOST_DIGITS.false c.loop-b.invariant)

pub overflow_add-n : goal.overflow_add-n
overflow_add-n c = omega (arith, room c.args.s.now c.loop-b.b-index c.loop-b.n c.loop-b-test.true c.if-s-gt-MOST_DIGITS.false c.loop-b.invariant)

pub loop-b-preserved : goal.loop-b-preserved
loop-b-preserved c = let digit = c.if-not-is_ascii_digit.ensures.cases in rw c.from.ensures (read_more c.args.s.now c.loop-b.b-index c.loop-b.n c.loop-b-test.true digit.0 digit.1 c.loop-b.invariant)

pub returns : goal.returns
returns c =
    let some : 0 < length c.args.s.now = omega (arith, false-eqb _ 0 c.if-is_empty.ensures) in
    let lead : (get_or c.args.s.now 0 0 ≡ 48 → length c.args.s.now ≡ 1) =
    λ z. elim c.else-s-eq48.branch [
      | else-s-eq48-via-then-s-eq48+else-s-gt1 w ↦ omega (arith, w.if-s-gt1.false)
      | else-s-eq48-via-else-s-eq48 w ↦ absurd (w.if-s-eq48.false z)
    ] in
    let d = read_all c.args.s.now c.loop-b.b-index c.loop-b.n c.loop-b-test.false some c.if-s-gt-MOST_DIGITS.false lead c.loop-b.invariant in
    one_decimal c.args.s.now c.loop-b.n d.0 d.1
