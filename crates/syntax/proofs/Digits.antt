-- The decimal of a number of at most 8 digits.
use Rattle.std.proofs.Common.{◌≡◌, ℕ, ◌+◌, ◌-◌, ◌*◌, ◌^◌, ◌<◌, ◌≤◌, List, length, get_or, take, decimal, sym, ap, subst, inl, inr, arith, length-take}
use Rattle.std.specs.Str.Parse.{AllDigits, digits_value}
use Rattle.std.specs.Int.{IsInRange}
use Rattle.std.specs.Char.{digit_value}
use Rattle.std.proofs.lemmas.Bool.{cases_lt}
use Rattle.std.proofs.lemmas.Str.{digit_value_digit}
use Rattle.std.proofs.lemmas.Int.Digits.{digits_more, digits_value_more}
use Rattle.std.proofs.lemmas.List.{take_all}
use Rattle.std.proofs.lemmas.Str.Parse.{IsNumeralModel, numerals_by_value, tells_digits, digits_value_short, not_in_digits}
use Rattle.std.proofs.lemmas.Fmt.{decimal_nonempty, length-decimal-le, digits_decimal, first_decimal, decimal_digit, decimal-digits_value}
use Rattle.syntax.specs.Line.{Without}

pub own : IsNumeralModel (AllDigits 10) (digits_value 10)
own = numerals_by_value (AllDigits 10) tells_digits

-- 1 to 8 digits, with no leading zero but `0` itself
pub record Plain (s : List ℕ) : Type 0 where
  pub some : 0 < length s
  pub short : length s ≤ 8
  pub lead : get_or s 0 0 ≡ 48 → length s ≡ 1
  pub digits : AllDigits 10 s

lead_of : (v : ℕ) → v < 10 ^ 8 → get_or (decimal v) 0 0 ≡ 48 → length (decimal v) ≡ 1
lead_of v h e =
    elim (cases_lt 0 v) [
      | inl p ↦ absurd (omega (arith, first_decimal v p (omega arith)))
      | inr q ↦ (let z : v ≡ 0 = omega arith in rw z (ap length (decimal_digit 0 (omega arith))))
    ]

pub plain_decimal : (s : List ℕ) (v : ℕ) → v < 10 ^ 8 → s ≡ decimal v → Plain s
plain_decimal s v h e = subst Plain (sym e) (record {
  some = decimal_nonempty v (omega arith);
  short = length-decimal-le 8 v (omega arith) h (omega arith);
  lead = lead_of v h;
  digits = digits_decimal own v (omega arith);
})

pub decimal_plain : (s : List ℕ) → Plain s → s ≡ decimal (digits_value 10 s)
decimal_plain s p =
    sym (decimal-digits_value own s p.digits p.some p.lead (omega (arith, digits_value_short own s 8 p.digits p.short)))

-- n is what the first i digits say
abbrev pub Read : List ℕ → ℕ → ℕ → Type 0
Read s i n = AllDigits 10 (take i s) × (n ≡ digits_value 10 (take i s))

-- there is room for one more digit
pub room : (s : List ℕ) (i n : ℕ) → i < length s → length s ≤ 8 → Read s i n → n < 10 ^ 7
room s i n lt short r =
    let m : length (take i s) ≤ 7 = simp length-take (omega arith) in
    omega (arith, digits_value_short own (take i s) 7 r.0 m, r.1)

pub read_more : (s : List ℕ) (i n : ℕ) → i < length s → 48 ≤ get_or s i 0 → get_or s i 0 ≤ 57 → Read s i n → Read s (i + 1) (n * 10 + (get_or s i 0 - 48))
read_more s i n lt low high r =
    let d : digit_value (get_or s i 0) + 48 ≡ get_or s i 0 = digit_value_digit _ (low, high) in
    (digits_more 10 s i lt r.0 (omega (arith, d)), omega (arith, d, r.1, digits_value_more 10 s i lt))

pub read_all : (s : List ℕ) (i n : ℕ) → length s ≤ i → 0 < length s → length s ≤ 8 → (get_or s 0 0 ≡ 48 → length s ≡ 1) → Read s i n → (n < 10 ^ 8) × (s ≡ decimal n)
read_all s i n le some short lead r =
    let e : take i s ≡ s = take_all i s le in
    let d : AllDigits 10 s = rw e at r.0 in
    let v : n ≡ digits_value 10 s = rw e at r.1 in (
      omega (arith, digits_value_short own s 8 d short, v),
      subst (λ (k : ℕ). s ≡ decimal k) (sym v) (decimal_plain s (record { some = some; short = short; lead = lead; digits = d })),
    )

-- a byte that is no digit does not stand in a decimal
pub decimal_without : (b n : ℕ) → (IsInRange 48 57 b → ⊥) → n < 10 ^ 8 → Without b (decimal n)
decimal_without b n apart h = not_in_digits own (decimal n) b (digits_decimal own n (omega arith)) apart

pub no_comma : (n : ℕ) → n < 10 ^ 8 → Without 44 (decimal n)
no_comma n h = decimal_without 44 n (λ d. omega arith) h

pub no_end : (n : ℕ) → n < 10 ^ 8 → Without 10 (decimal n)
no_end n h = decimal_without 10 n (λ d. omega arith) h
