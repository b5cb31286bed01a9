-- Lists of known lines, place by place.
use Rattle.std.specs.Prelude.{◌≡◌, ℕ, zero, suc, ◌+◌, ◌<◌, ◌≤◌, cond, not, ◌&&◌, ◌⊎◌, List, [], ◌∷◌, length, ◌==◌, ◌≢◌, slice_index, slice_index_or, slice_set, refl}
use Rattle.std.proofs.Common.{sym, ap, ap₂, subst, ◌∙◌, inl, inr, not-suc-le-zero, add-one, arith}
use Rattle.std.proofs.lemmas.List.Edits.{fill_by_more}
use Rattle.std.proofs.lemmas.List.{ext_get_or, get_or_default}
use Rattle.std.proofs.lemmas.Bool.{cases_eq}
use Rattle.std.proofs.lemmas.Bool.Decides.{nat_tests}
use Rattle.std.specs.List.{range_with_len, filter}
use Rattle.facts.proofs.Count.{counted_more}
use Rattle.cache_state.specs.Cache.{empty}
use Rattle.slot_kind.specs.Slots.{line_in, agreed, common_lines, stored_line, counted, known_slots}

pub agreed_comm : (t u : ℕ) → agreed t u ≡ agreed u t
agreed_comm t u = grind (arith, nat_tests)

pub agreed_idem : (t : ℕ) → agreed t t ≡ t
agreed_idem t = grind (arith, nat_tests)

pub agreed_assoc : (t u v : ℕ) → agreed (agreed t u) v ≡ agreed t (agreed u v)
agreed_assoc t u v = grind (arith, nat_tests)

pub agreed_cases : (t u : ℕ) → (agreed t u ≡ t) ⊎ (agreed t u ≡ empty)
agreed_cases t u = elim (cases_eq t u) [ inl e ↦ inl (grind (arith, nat_tests)) | inr e ↦ inr (grind (arith, nat_tests)) ]

-- known by both, and not the mark
pub agreed_sure : (t u v : ℕ) → (agreed t u == v && not (v == empty)) ≡ ((t == v && not (v == empty)) && (u == v && not (v == empty)))
agreed_sure t u v = grind (arith, nat_tests)

-- a line stored in one slot, over two lines and what they agree on
pub agreed_stored : (i s v t u : ℕ) → cond (i == s) v (agreed t u) ≡ agreed (cond (i == s) v t) (cond (i == s) v u)
agreed_stored i s v t u = grind (arith, nat_tests)

pub common_at : (a b : List ℕ) (i : ℕ) → line_in (common_lines a b) i ≡ agreed (line_in a i) (line_in b i)
common_at [] b i = grind (arith, nat_tests)
common_at (t ∷ a) [] i = grind (arith, nat_tests)
common_at (t ∷ a) (u ∷ b) zero = refl
common_at (t ∷ a) (u ∷ b) (suc i) = common_at a b i

eqb_suc : (i s : ℕ) → (i == s) ≡ (suc i == suc s)
eqb_suc i s = grind (arith, nat_tests)

pub stored_at : (a : List ℕ) (s t i : ℕ) → line_in (stored_line a s t) i ≡ cond (i == s) t (line_in a i)
stored_at [] zero t zero = refl
stored_at [] zero t (suc i) = grind (arith, nat_tests)
stored_at [] (suc s) t zero = grind (arith, nat_tests)
stored_at [] (suc s) t (suc i) = stored_at [] s t i ∙ ap (λ e. cond e t empty) (eqb_suc i s)
stored_at (u ∷ a) zero t zero = refl
stored_at (u ∷ a) zero t (suc i) = grind (arith, nat_tests)
stored_at (u ∷ a) (suc s) t zero = grind (arith, nat_tests)
stored_at (u ∷ a) (suc s) t (suc i) = stored_at a s t i ∙ ap (λ e. cond e t (line_in a i)) (eqb_suc i s)

pub stored-set : (a : List ℕ) (s t : ℕ) → s < length a → slice_set a s t ≡ stored_line a s t
stored-set [] s t h = absurd (not-suc-le-zero h)
stored-set (u ∷ a) zero t h = refl
stored-set (u ∷ a) (suc s) t h = ap (λ l. u ∷ l) (stored-set a s t (omega arith))

pub length-common : (a b : List ℕ) → length a ≡ length b → length (common_lines a b) ≡ length a
length-common [] b e = refl
length-common (t ∷ a) [] e = sym e
length-common (t ∷ a) (u ∷ b) e = ap suc (length-common a b (omega arith))

-- what is read of two lists at a place that they have
pub agreed_read : (a b : List ℕ) (i v : ℕ) → i < length a → i < length b
    → ((slice_index a i ≡ slice_index b i) × (v ≡ slice_index a i)) ⊎ ((slice_index a i ≢ slice_index b i) × (v ≡ empty)) → v ≡ agreed (line_in a i) (line_in b i)
agreed_read a b i v l m w =
    let e : slice_index_or a i 0 ≡ line_in a i = get_or_default a i 0 empty l in
    let f : slice_index_or b i 0 ≡ line_in b i = get_or_default b i 0 empty m in
    elim w [ inl u ↦ grind (arith, nat_tests) | inr u ↦ grind (arith, nat_tests) ]

-- a loop that writes what both know into each slot
pub common_more : (a b lines : List ℕ) (i v : ℕ) → i < length lines → v ≡ agreed (line_in a i) (line_in b i)
    → ((k : ℕ) → k < i → line_in lines k ≡ agreed (line_in a k) (line_in b k))
    → (k : ℕ) → k < i + 1 → line_in (slice_set lines i v) k ≡ agreed (line_in a k) (line_in b k)
common_more a b lines i v l e h k m =
    ap (λ u. line_in (slice_set lines i u) k) e ∙ fill_by_more (λ j. agreed (line_in a j) (line_in b j)) lines i empty l h k m

pub common-all : (a b lines : List ℕ) → length a ≡ 64 → length b ≡ 64 → length lines ≡ 64
    → ((k : ℕ) → k < 64 → line_in lines k ≡ agreed (line_in a k) (line_in b k)) → lines ≡ common_lines a b
common-all a b lines p q r h =
    let e = length-common a b (p ∙ sym q) in
    ext_get_or empty lines (common_lines a b) (omega arith) (λ k l. h k (omega arith) ∙ sym (common_at a b k))

-- the line of a slot is known or not
abbrev pub Counted : ℕ → Type 0
Counted t = ((t ≡ empty) × (counted t ≡ 0)) ⊎ ((t ≢ empty) × (counted t ≡ 1))

pub counts : (t : ℕ) → Counted t
counts t = elim (cases_eq t empty) [ inl e ↦ inl (e, grind (arith, nat_tests)) | inr e ↦ inr (e, grind (arith, nat_tests)) ]

pub known_most : (a : List ℕ) (n : ℕ) → known_slots a n ≤ n
known_most a zero = omega arith
known_most a (suc n) = let r = known_most a n in elim (counts (line_in a n)) [ inl e ↦ omega arith | inr e ↦ omega arith ]

-- one slot more
pub known_more : (a : List ℕ) (i k r : ℕ) → k ≡ known_slots a i → ((line_in a i ≢ empty) × (r ≡ k + 1)) ⊎ ((line_in a i ≡ empty) × (r ≡ k))
    → r ≡ known_slots a (i + 1)
known_more a i k r e (inl w) = rw add-one (elim (counts (line_in a i)) [ inl u ↦ absurd (w.0 u.0) | inr u ↦ omega arith ])
known_more a i k r e (inr w) = rw add-one (elim (counts (line_in a i)) [ inl u ↦ omega arith | inr u ↦ absurd (u.0 w.0) ])

counts_one : (t : ℕ) → cond (not (t == empty)) 1 0 ≡ counted t
counts_one t = grind (arith, nat_tests)

-- the known slots, counted one by one
pub known_count : (a : List ℕ) (n : ℕ) → length (filter (λ i. not (line_in a i == empty)) (range_with_len 0 n)) ≡ known_slots a n
known_count a zero = refl
known_count a (suc n) =
    let m = counted_more (λ i. not (line_in a i == empty)) n in let r = known_count a n in let k = counts_one (line_in a n) in omega arith

pub known_same : (a b : List ℕ) (n : ℕ) → ((i : ℕ) → i < n → line_in a i ≡ line_in b i) → known_slots a n ≡ known_slots b n
known_same a b zero h = refl
known_same a b (suc n) h = ap₂ (λ t k. counted t + k) (h n (omega arith)) (known_same a b n (λ i l. h i (omega arith)))

below_suc : (P : ℕ → Type 0) (n : ℕ) → ((i : ℕ) → i < n → P i) → P n → (i : ℕ) → i < suc n → P i
below_suc P n h q i l = elim (cases_eq i n) [ inl e ↦ subst P (sym e) q | inr e ↦ h i (omega arith) ]

-- b knows the lines of a
abbrev Kept : List ℕ → List ℕ → ℕ → Type 0
Kept a b n = (i : ℕ) → i < n → line_in b i ≡ line_in a i

-- where lines are only forgotten, either none is or fewer are known
pub known_falls : (a b : List ℕ) (n : ℕ) → ((i : ℕ) → i < n → (line_in b i ≡ line_in a i) ⊎ (line_in b i ≡ empty))
    → ((i : ℕ) → i < n → line_in b i ≡ line_in a i) ⊎ (known_slots b n < known_slots a n)
known_falls a b zero h = inl (λ i l. absurd (not-suc-le-zero l))
known_falls a b (suc n) h = go (h n (omega arith)) (known_falls a b n (λ i l. h i (omega arith))) (counts (line_in a n)) (counts (line_in b n))
  where
    go : (line_in b n ≡ line_in a n) ⊎ (line_in b n ≡ empty) → Kept a b n ⊎ (known_slots b n < known_slots a n)
        → Counted (line_in a n) → Counted (line_in b n) → Kept a b (suc n) ⊎ (counted (line_in b n) + known_slots b n < counted (line_in a n) + known_slots a n)
    go (inl e) (inl r) u v = inl (below_suc (λ i. line_in b i ≡ line_in a i) n r e)
    go (inl e) (inr r) u v = let o = ap counted e in inr (omega arith)
    go (inr e) (inl r) (inl u) v = inl (below_suc (λ i. line_in b i ≡ line_in a i) n r (e ∙ sym u.0))
    go (inr e) (inl r) (inr u) v = let o = ap counted e in let k = known_same b a n r in inr (omega arith)
    go (inr e) (inr r) (inl u) v = let o = ap counted e in inr (omega arith)
    go (inr e) (inr r) (inr u) v = let o = ap counted e in inr (omega arith)
