-- What may be added up and compared.
use Rattle.std.specs.Prelude.{◌≡◌, ℕ, zero, suc, ◌+◌, Bool, true, false}

-- the operations of a tally, over unbounded numbers
pub record Ops (T : Type 0) : Type 0 where
  pub none : T
  pub plus : T → T → T
  pub times : ℕ → T → T
  pub below : T → T → Bool

abbrev pub ops_of : {T : Type 0} → T → (T → T → T) → (ℕ → T → T) → (T → T → Bool) → Ops T
ops_of n p t b = record { none = n; plus = p; times = t; below = b }

-- x added n times
abbrev pub repeated : {T : Type 0} → Ops T → ℕ → T → T
repeated m zero x = m.none
repeated m (suc n) x = m.plus (repeated m n x) x

pub record TallyLaws {T : Type 0} (m : Ops T) (size : T → ℕ) : Type 0 where
  pub assoc : (x y z : T) → m.plus (m.plus x y) z ≡ m.plus x (m.plus y z)
  pub comm : (x y : T) → m.plus x y ≡ m.plus y x
  pub neutral : (x : T) → m.plus m.none x ≡ x
  pub multiple : (n : ℕ) (x : T) → m.times n x ≡ repeated m n x
  -- a strict total order, kept by sums both ways, with nothing at its bottom
  pub irreflexive : (x : T) → m.below x x ≡ false
  pub transitive : (x y z : T) → m.below x y ≡ true → m.below y z ≡ true → m.below x z ≡ true
  pub total : (x y : T) → m.below x y ≡ false → m.below y x ≡ false → x ≡ y
  pub kept : (x y z : T) → m.below (m.plus z x) (m.plus z y) ≡ m.below x y
  pub least : (x : T) → m.below x m.none ≡ false
  pub size_none : size m.none ≡ 0
  pub size_plus : (x y : T) → size (m.plus x y) ≡ size x + size y
