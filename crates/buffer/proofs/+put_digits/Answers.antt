use Rattle.std.proofs.Common.{◌≡◌, ℕ, ◌+◌, ◌/◌, ◌%◌, ◌<◌, ◌≤◌, List, [], ◌∷◌, ◌++◌, length, decimal, ap, ◌∙◌, arith}
use Rattle.std.proofs.lemmas.Fmt.{decimal_step}
use Rattle.std.proofs.lemmas.List.{length_push}
use Rattle.buffer.specs.Put.{Put}
use Rattle.buffer.proofs.Decimal.{only_digit, length-step}
use Rattle.buffer.proofs.Puts.{put_then, put_one, put_none, put_same, put_length}
use Rattle.buffer.proofs.+put_digits.Goals as goal
use Rattle.buffer.proofs.+put_digits.Goals.{Joined-n-lt10, then-n-lt10, else-n-lt10}

pub put_digits-last-requires : goal.put_digits-last-requires
put_digits-last-requires t c = omega (arith, c.requires, length-step c.args.n c.if-n-lt10.false (omega arith))

-- what stands before the last digit is put
record Begun (n at : ℕ) (old : List ℕ) (last : ℕ) (mid : List ℕ) : Type 0 where
  front : List ℕ
  whole : decimal n ≡ front ++ ((48 + n % 10) ∷ [])
  put : Put at front old last mid

begun : (t : ℕ) (c : Joined-n-lt10 t) → Begun c.args.n c.args.at c.args.out.now c.if-n-lt10.last c.if-n-lt10.out
begun t c = elim c.if-n-lt10.branch [
  | then-n-lt10 w ↦ record {
    front = [];
    whole = only_digit c.args.n w.if-n-lt10.true;
    put = rw (w.last-is, w.out-is) (put_none c.args.at c.args.out.now (omega (arith, c.requires)));
  }
  | else-n-lt10 w ↦ record {
    front = decimal (c.args.n / 10);
    whole = decimal_step c.args.n w.if-n-lt10.false (omega arith);
    put = rw (w.last-is, w.out-is) w.put_digits-last.ensures;
  }
]

-- one more digit fits
room : (n at last : ℕ) (old mid : List ℕ) → Begun n at old last mid → at + length (decimal n) ≤ length old → last < length mid
room n at last old mid b h = omega (arith, h, b.put.ends, put_length b.put, ap length b.whole ∙ length_push b.front (48 + n % 10))

pub bounds-out-last : goal.bounds-out-last
bounds-out-last t c = room c.args.n c.args.at c.if-n-lt10.last c.args.out.now c.if-n-lt10.out (begun t c) c.requires

pub returns : goal.returns
returns t c =
    let b = begun t (goal.at.returns t c).Joined-n-lt10 in
    let fits = room c.args.n c.args.at c.if-n-lt10.last c.args.out.now c.if-n-lt10.out b c.requires in
    put_same b.whole (put_then b.put (put_one c.if-n-lt10.out c.if-n-lt10.last (48 + c.args.n % 10) fits))
