-- Searches through finitely many numbers.
use Rattle.std.proofs.Common.{◌≡◌, ℕ, zero, suc, ◌<◌, ◌≤◌, Bool, true, false, Decides, List, length, get_or, Some, None, Option, refl, ◌∙◌, zero-add, subst, inl, inr, arith}
use Rattle.std.specs.Bool.{MatchBool}
use Rattle.std.specs.List.{AllWithin, HoldsAt, range_with_len}
use Rattle.std.proofs.lemmas.List.FromFn.{length-range_with_len, get_or-range_with_len}
use Rattle.std.specs.Option.{MatchOption}
use Rattle.std.proofs.lemmas.Bool.{cases_eq, false≢true}
use Rattle.task.specs.First.{First}

-- what holds of no number below n, and not of n, holds of none up to n
none_more : (P : ℕ → Type 0) (n : ℕ) → (P n → ⊥) → ((k : ℕ) → k < n → P k → ⊥) → (k : ℕ) → k < suc n → P k → ⊥
none_more P n here below k h p = elim (cases_eq k n) [ inl e ↦ here (subst P e p) | inr ne ↦ below k (omega arith) p ]

-- what cannot fail for every number below n holds for one of them
pub some_below : (P : ℕ → Type 0) → ((k : ℕ) → Dec (P k)) → (n : ℕ) → (((k : ℕ) → k < n → P k → ⊥) → ⊥) → (k : ℕ) × (k < n) × P k
some_below P dec zero h = absurd (h (λ k l p. absurd (omega arith)))
some_below P dec (suc n) h =
    elim (dec n) [
      | yes p ↦ (n, omega arith, p)
      | no q ↦ let found = some_below P dec n (λ none. h (none_more P n q none)) in (found.0, omega arith, found.2)
    ]

-- A search through the numbers from a up to n answers as `find` over their range does. Where it finds what P says, and P holds of a
-- number of the range alone, and only where the search stops at it or before, the answer is the first number of which P holds.
pub first_by : (P Yes No : ℕ → Type 0) (a n : ℕ) (r : Option ℕ)
    → MatchOption r ((k : ℕ) → a ≤ k → k < n → No k) (λ i. (a ≤ i) × (i < n) × Yes i × ((k : ℕ) → a ≤ k → k < i → No k))
    → ((k : ℕ) → a ≤ k → k < n → Yes k → P k)
    → ((k : ℕ) → P k → (k < n) × (((j : ℕ) → a ≤ j → j ≤ k → No j) → ⊥)) → First P r
first_by P Yes No a n None none found only = λ k p. let o = only k p in o.1 (λ j h l. none j h (omega arith))
first_by P Yes No a n (Some i) hit found only = (found i hit.0 hit.1 hit.2, λ k l p. (only k p).1 (λ j h m. hit.3 j h (omega arith)))

-- the same, where each number tells by itself
pub first_found : (P Yes No : ℕ → Type 0) (a n : ℕ) (r : Option ℕ)
    → MatchOption r ((k : ℕ) → a ≤ k → k < n → No k) (λ i. (a ≤ i) × (i < n) × Yes i × ((k : ℕ) → a ≤ k → k < i → No k))
    → ((k : ℕ) → a ≤ k → k < n → Yes k → P k) → ((k : ℕ) → P k → (a ≤ k) × (k < n) × (No k → ⊥)) → First P r
first_found P Yes No a n r hit found only =
    first_by P Yes No a n r hit found (λ k p. let o = only k p in (o.1, λ none. o.2 (none k o.0 (omega arith))))

-- So does a search through a list for what Yes says of an element.
pub any_found : {X : Type 0} (Yes No : X → Type 0) (xs : List X) (P : Type 0) (r : Bool)
    → MatchBool r ((k : ℕ) × (k < length xs) × HoldsAt Yes xs k) (AllWithin No xs 0 (length xs))
    → ((k : ℕ) → k < length xs → HoldsAt Yes xs k → P) → (P → AllWithin No xs 0 (length xs) → ⊥) → Decides r P
any_found Yes No xs P true hit found none = (λ e. found hit.0 hit.1 hit.2, λ p. refl)
any_found Yes No xs P false miss found none = (λ e. absurd (false≢true e), λ p. absurd (none p miss))

-- And `position` over a list answers with the first element of which Yes holds.
pub first_in : {X : Type 0} (P : ℕ → Type 0) (Yes : X → Type 0) (xs : List X) (d : X) (r : Option ℕ)
    → MatchOption r (AllWithin (λ x. Yes x → ⊥) xs 0 (length xs)) (λ i. (i < length xs) × HoldsAt Yes xs i × AllWithin (λ x. Yes x → ⊥) xs 0 i)
    → ((k : ℕ) → k < length xs → Yes (get_or xs k d) → P k) → ((k : ℕ) → P k → (k < length xs) × Yes (get_or xs k d)) → First P r
first_in P Yes xs d None none found only = λ k p. let o = only k p in none k d (omega arith) o.0 o.1
first_in P Yes xs d (Some i) hit found only = (found i hit.0 (hit.1 d), λ k l p. hit.2 k d (omega arith) l (only k p).1)

-- And `any` over the numbers below n decides that some number is as it looks for.
pub any_below : (Yes No : ℕ → Type 0) (n : ℕ) (P : Type 0) (r : Bool)
    → MatchBool r ((k : ℕ) × (k < length (range_with_len 0 n)) × HoldsAt Yes (range_with_len 0 n) k) (AllWithin No (range_with_len 0 n) 0 (length (range_with_len 0 n)))
    → ((k : ℕ) → k < n → Yes k → P) → (P → ((k : ℕ) → k < n → No k) → ⊥) → Decides r P
any_below Yes No n P r hit found none =
    let long = length-range_with_len 0 n in
    let at : (k : ℕ) → k < n → get_or (range_with_len 0 n) k 0 ≡ k = λ k h. get_or-range_with_len 0 n k 0 h ∙ zero-add k in
    any_found Yes No (range_with_len 0 n) P r hit
    (λ k h y. let l : k < n = omega arith in found k l (subst Yes (at k l) (y 0)))
    (λ p all. none p (λ k l. subst No (at k l) (all k 0 (omega arith) (omega arith))))
