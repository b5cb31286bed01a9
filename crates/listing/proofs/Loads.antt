-- The load is the nearest number of thousandths.
use Rattle.std.proofs.Common.{◌≡◌, ℕ, ◌+◌, ◌-◌, ◌*◌, ◌/◌, ◌^◌, ◌<◌, sym, ap, ◌∙◌, mul_assoc, mul_comm, div-mul-le_self, arith}
use native.Mathlib.Nat.{lt-div-mul-add}
use Rattle.listing.specs.Load.{load_of, Nearest}

pub twice : (n w : ℕ) → n * (2 * w) ≡ 2 * (n * w)
twice n w = sym (mul_assoc n 2 w) ∙ ap (λ m. m * w) (mul_comm n 2) ∙ mul_assoc 2 n w

pub nearest : (figure window : ℕ) → 0 < window → load_of figure window < 2 ^ 64 - 1 → Nearest figure window (load_of figure window)
nearest figure window some small =
    let whole : ℕ = 2 * (1000 * figure) + window in
    let q : ℕ = whole / (2 * window) in
    let e : load_of figure window ≡ (2 * (1000 * figure) + window) / (2 * window) = omega arith in
    let under = div-mul-le_self whole (2 * window) in
    let over = lt-div-mul-add {a = whole} {b = 2 * window} (omega arith) in
    let t = twice q window in
    let s = ap (λ n. n * window) e in
    record { high = omega arith; low = omega arith }
