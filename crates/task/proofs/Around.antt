-- The loops around a block, one loop after the other.
use Rattle.std.proofs.Common.{◌≡◌, ℕ, zero, suc, inl, inr, ◌+◌, ◌*◌, ◌<◌, ◌≤◌, min, nat_lt, Decides, Bool, true, false, List, [], ◌∷◌, map, length, drop, sym, refl, ap, ◌∙◌, mul_assoc, mul-one, le-mul_of_pos_right, arith}
use Rattle.std.specs.List.{filter, fold}
use Rattle.std.proofs.lemmas.Bool.{cond-true, cond-false, cases_lt}
use Rattle.std.proofs.lemmas.Bool.Decides.{Decides-like, Decides-ltb}
use Rattle.std.proofs.lemmas.List.{at_drop_more, at_drop_all}
use Rattle.records.specs.declared.parts.Loop.{Loop}
use Rattle.task.specs.Graph.{loop_at, within, around, product, limits}

around_in : (l : Loop) (ls : List Loop) (b : ℕ) → within l b ≡ true → around (l ∷ ls) b ≡ l ∷ around ls b
around_in l ls b e = rw (around, e)

around_out : (l : Loop) (ls : List Loop) (b : ℕ) → within l b ≡ false → around (l ∷ ls) b ≡ around ls b
around_out l ls b e = rw (around, e)

-- they are the loops that a filter keeps
pub around_filter : (ls : List Loop) (b : ℕ) → around ls b ≡ filter (λ l. within l b) ls
around_filter [] b = refl
around_filter (l ∷ ls) b = go (within l b) refl (around_filter ls b)
  where
    go : (t : Bool) → within l b ≡ t → around ls b ≡ filter (λ m. within m b) ls → around (l ∷ ls) b ≡ filter (λ m. within m b) (l ∷ ls)
    go true e rest = around_in l ls b e ∙ (ap (λ xs. l ∷ xs) rest ∙ sym (cond-true (within l b) _ _ e))
    go false e rest = around_out l ls b e ∙ (rest ∙ sym (cond-false (within l b) _ _ e))

-- of the loops from number i on, loop i is around b, or it is not
pub around_more_in : (ls : List Loop) (i b : ℕ) → i < length ls → within (loop_at ls i) b ≡ true
    → around (drop i ls) b ≡ loop_at ls i ∷ around (drop (i + 1) ls) b
around_more_in ls i b h e = at_drop_more (λ xs. around xs b) ls i _ h ∙ around_in (loop_at ls i) (drop (i + 1) ls) b e

pub around_more_out : (ls : List Loop) (i b : ℕ) → i < length ls → within (loop_at ls i) b ≡ false
    → around (drop i ls) b ≡ around (drop (i + 1) ls) b
around_more_out ls i b h e = at_drop_more (λ xs. around xs b) ls i _ h ∙ around_out (loop_at ls i) (drop (i + 1) ls) b e

pub around-all : (ls : List Loop) (i b : ℕ) → length ls ≤ i → around (drop i ls) b ≡ []
around-all ls i b h = at_drop_all (λ xs. around xs b) ls i h

-- a factor counts no less where a product stops at m
capped : (m p k : ℕ) → min (min p m * k) m ≡ min (p * k) m
capped m p zero = omega arith
capped m p (suc k) =
    elim (cases_lt m p) [
      | inl less ↦
          let stops : min p m ≡ m = omega arith in
          let more : m ≤ m * suc k = le-mul_of_pos_right m (omega arith) in
          let most : p ≤ p * suc k = le-mul_of_pos_right p (omega arith) in
          ap (λ q. min (q * suc k) m) stops ∙ omega arith
      | inr fits ↦ (let same : min p m ≡ p = omega arith in ap (λ q. min (q * suc k) m) same)
    ]

-- the limits of the loops around a block, multiplied so that the product stops at m, come to no more than m and else to their product
limits_capped : (m p : ℕ) (ls : List Loop) → fold (λ q n. min (q * n) m) (min p m) (map (λ l. l.limit) ls) ≡ min (p * product ls) m
limits_capped m p [] = ap (λ n. min n m) (sym (mul-one p))
limits_capped m p (l ∷ ls) =
    ap (λ q. fold (λ q n. min (q * n) m) q (map (λ l. l.limit) ls)) (capped m p l.limit)
    ∙ (limits_capped m (p * l.limit) ls ∙ ap (λ n. min n m) (mul_assoc p l.limit (product ls)))

-- what multiplies to more than 1,000,000, where a product stops at m
pub over_capped : (m : ℕ) (ls : List Loop) (b r : ℕ) → 1000000 < m → r ≡ fold (λ q n. min (q * n) m) 1 (map (λ l. l.limit) (filter (λ l. within l b) ls))
    → Decides (nat_lt 1000000 r) (1000000 < limits ls b)
over_capped m ls b r h e =
    let kept = filter (λ l. within l b) ls in
    let one : 1 ≡ min 1 m = omega arith in
    let capped : r ≡ min (1 * product kept) m = e ∙ (ap (λ p. fold (λ q n. min (q * n) m) p (map (λ l. l.limit) kept)) one ∙ limits_capped m 1 kept) in
    let all = ap product (around_filter ls b) in
    Decides-like (nat_lt 1000000 r) (λ over. omega arith) (λ over. omega arith) (Decides-ltb 1000000 r)
