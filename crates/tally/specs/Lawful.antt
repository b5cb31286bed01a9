-- Cycles and pairs are lawful.
use Rattle.std.specs.Prelude.{◌≡◌, ℕ, zero, suc, ◌+◌, ◌*◌, refl}
use Rattle.std.proofs.Common.{ap, ap₂, ◌∙◌, arith, suc-mul, zero-mul}
use Rattle.std.proofs.lemmas.Bool.Decides.{nat_tests}
use Rattle.tally.specs.Laws.{TallyLaws, repeated}
use Rattle.tally.specs.Kinds.{cycles, cycles_size, Pair, added_pairs, many_pairs, pairs, pair_size}

cycles_again : (n x : ℕ) → n * x ≡ repeated cycles n x
cycles_again zero x = zero-mul x
cycles_again (suc n) x = suc-mul n x ∙ ap (λ y. y + x) (cycles_again n x)

pub cycles_lawful : TallyLaws cycles cycles_size
cycles_lawful = record {
  assoc = λ x y z. omega arith;
  comm = λ x y. omega arith;
  neutral = λ x. omega arith;
  multiple = cycles_again;
  irreflexive = λ x. grind (arith, nat_tests);
  transitive = λ x y z p q. grind (arith, nat_tests);
  total = λ x y p q. grind (arith, nat_tests);
  kept = λ x y z. grind (arith, nat_tests);
  least = λ x. grind (arith, nat_tests);
  size_none = refl;
  size_plus = λ x y. refl;
}

abbrev pair : ℕ → ℕ → Pair
pair x y = (x, y)

pairs_again : (n : ℕ) (x : Pair) → many_pairs n x ≡ repeated pairs n x
pairs_again zero x = ap₂ pair (zero-mul x.0) (zero-mul x.1)
pairs_again (suc n) x = ap₂ pair (suc-mul n x.0) (suc-mul n x.1) ∙ ap (λ y. added_pairs y x) (pairs_again n x)

pub pairs_lawful : TallyLaws pairs pair_size
pairs_lawful = record {
  assoc = λ x y z. ap₂ pair (omega arith) (omega arith);
  comm = λ x y. ap₂ pair (omega arith) (omega arith);
  neutral = λ x. ap₂ pair (omega arith) (omega arith);
  multiple = pairs_again;
  irreflexive = λ x. grind (arith, nat_tests);
  transitive = λ x y z p q. grind (arith, nat_tests);
  total = λ x y p q. ap₂ pair (grind (arith, nat_tests)) (grind (arith, nat_tests));
  kept = λ x y z. grind (arith, nat_tests);
  least = λ x. grind (arith, nat_tests);
  size_none = refl;
  size_plus = λ x y. omega arith;
}
