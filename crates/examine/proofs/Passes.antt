-- Settled passed blocks tell exactly which blocks every walk has passed.
use Rattle.std.proofs.Common.{◌≡◌, ℕ, ◌^◌, ◌<◌, true, cond, ltb, ◌⊎◌, ◌↔◌, length, Some, None, Option, refl, inl, inr, arith, pow_pos}
use lib.Bits.{bit_or}
use Rattle.std.proofs.lemmas.Bool.{cases_eq, eqb-true, eq-eqb, ne_eqb, lt-ltb, and_parts, and_from}
use Rattle.std.proofs.lemmas.Bool.Decides.{nat_tests}
use Rattle.records.specs.Contents.{Contents}
use Rattle.records.specs.Layout.{InFormat}
use Rattle.records.proofs.Ranges.{ranges}
use Rattle.task.specs.Laws.{Laws}
use Rattle.facts.proofs.Exact.{exact}
use Rattle.categories.specs.Category.{passed_by}
use Rattle.categories.specs.Meaning.{Passing, PassedExactly}
use Rattle.categories.proofs.Fits.{passed_exactly}
use Rattle.passed_kind.specs.Passed.{bit_of, in_set, passed_sure, passed_on, passed_kind}
use Rattle.passed_kind.specs.Bits.{bit_small, bit_past, bit_added}
use Rattle.passed_kind.specs.Laws.{passed_lawful, passed_distributing}

none_sure : (n b : ℕ) → passed_sure n (Some 0) b ≡ true → ⊥
none_sure n b e =
    let p = and_parts (ltb b n) (in_set 0 b) e in
    let q = eqb-true (bit_of 0 b) 1 p.1 in
    let z = bit_past 0 b (pow_pos b) in
    omega arith

one_sure : (n b d : ℕ) (x : Option ℕ) → d < n → (passed_sure n (passed_on n b x) d ≡ true) ↔ ((d ≡ b) ⊎ (passed_sure n x d ≡ true))
one_sure n b d None h = (λ e. inr refl, λ e. refl)
one_sure n b d (Some set) h =
    let after = cond (ltb b n) (bit_or set (2 ^ b)) set in
    let a = bit_added set n b d h in
    let s = bit_small set d in (
      λ e. (let q = eqb-true (bit_of after d) 1 (and_parts (ltb d n) (in_set after d) e).1 in
          elim (cases_eq d b) [ inl y ↦ inl y | inr ne ↦ inr (and_from (ltb d n) (in_set set d) (lt-ltb d n h) (eq-eqb (bit_of set d) 1 (let z = ne_eqb d b ne in grind (arith, nat_tests)))) ]),
      λ m. and_from (ltb d n) (in_set after d) (lt-ltb d n h) (eq-eqb (bit_of after d) 1
          (elim m [ inl y ↦ (let z = eq-eqb d b y in grind (arith, nat_tests)) | inr y ↦ (let z = eqb-true (bit_of set d) 1 (and_parts (ltb d n) (in_set set d) y).1 in grind (arith, nat_tests)) ])),
    )

pub passing : (c : Contents) → Passing (passed_kind (length c.blocks)) c
passing c = record { none = λ b h. none_sure (length c.blocks) b; one = λ b d x small h. one_sure (length c.blocks) b d x.set h }

pub passed_test : (c : Contents) → InFormat c → Laws c → PassedExactly (passed_by (passed_kind (length c.blocks)) c) c
passed_test c format laws =
    let n = length c.blocks in
    passed_exactly (passed_kind n) c format (passing c) (exact (passed_lawful n (ranges c format).few_blocks) (passed_distributing n) c format laws)
