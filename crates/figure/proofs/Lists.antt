-- Lists that grow at their end.
use Rattle.std.proofs.Common.{◌≡◌, ℕ, zero, suc, ◌+◌, ◌<◌, ◌≤◌, Bool, true, false, eqb, List, [], ◌∷◌, ◌++◌, map, length, get_or, cond, sym, refl, ap, ◌∙◌, subst, ap₂, inl, inr, zero-add, arith}
use Rattle.std.specs.List.{range_with_len, zip, All, count_by, IsAnyAnswer}
use Rattle.std.proofs.lemmas.List.Sums.{sum_by-cons}
use Rattle.std.proofs.lemmas.List.FromFn.{map-range_with_len_more, fill_by_all}
use Rattle.std.proofs.lemmas.List.{length-map, get_or-map, map-id, append-nil, map-append}
use Rattle.std.proofs.lemmas.List.Elements.{contains_decides, All-from_get_or}
use Rattle.std.proofs.lemmas.Bool.{cases_Bool}
use Rattle.std.proofs.lemmas.Bool.Decides.{same_from_decides, Decides-by_or, Decides-like, Decides-eqb}
use Rattle.categories.specs.Costs.{passing, one_of_these, added, distinct}
use Rattle.categories.proofs.Lists.{passing_yes, passing_no}

pub counting_more : (a n : ℕ) → range_with_len a (n + 1) ≡ range_with_len a n ++ ((a + n) ∷ [])
counting_more a n =
    sym (map-id (range_with_len a (n + 1))) ∙ map-range_with_len_more (λ x. x) a n (a + n) refl ∙ ap (λ xs. xs ++ ((a + n) ∷ [])) (map-id (range_with_len a n))

passing-append : (test : ℕ → Bool) (xs ys : List ℕ) → passing test (xs ++ ys) ≡ passing test xs ++ passing test ys
passing-append test [] ys = refl
passing-append test (x ∷ xs) ys =
    let r = passing-append test xs ys in
    elim (cases_Bool (test x)) [
      | inl e ↦ passing_yes test x (xs ++ ys) e ∙ ap (λ zs. x ∷ zs) r ∙ sym (ap (λ zs. zs ++ passing test ys) (passing_yes test x xs e))
      | inr e ↦ passing_no test x (xs ++ ys) e ∙ r ∙ sym (ap (λ zs. zs ++ passing test ys) (passing_no test x xs e))
    ]

module _ (test : ℕ → Bool) (n : ℕ) where
  passing_more : passing test (range_with_len 0 (n + 1)) ≡ passing test (range_with_len 0 n) ++ passing test (n ∷ [])
  passing_more =
      ap (passing test) (counting_more 0 n ∙ ap (λ k. range_with_len 0 n ++ (k ∷ [])) (zero-add n)) ∙ passing-append test (range_with_len 0 n) (n ∷ [])

  pub passing_more_yes : test n ≡ true → passing test (range_with_len 0 (n + 1)) ≡ passing test (range_with_len 0 n) ++ (n ∷ [])
  passing_more_yes e = passing_more ∙ ap (λ xs. passing test (range_with_len 0 n) ++ xs) (passing_yes test n [] e)

  pub passing_more_no : test n ≡ false → passing test (range_with_len 0 (n + 1)) ≡ passing test (range_with_len 0 n)
  passing_more_no e = passing_more ∙ ap (λ xs. passing test (range_with_len 0 n) ++ xs) (passing_no test n [] e) ∙ append-nil (passing test (range_with_len 0 n))

-- the numbers from a on: it is enough that the tests agree on these
pub passing_same : (t u : ℕ → Bool) (a n : ℕ) → ((k : ℕ) → a ≤ k → k < a + n → t k ≡ u k) → passing t (range_with_len a n) ≡ passing u (range_with_len a n)
passing_same t u a zero h = refl
passing_same t u a (suc n) h =
    let r = passing_same t u (a + 1) n (λ k p q. h k (omega arith) (omega arith)) in
    let s = h a (omega arith) (omega arith) in
    elim (cases_Bool (t a)) [
      | inl e ↦ passing_yes t a (range_with_len (a + 1) n) e ∙ ap (λ zs. a ∷ zs) r ∙ sym (passing_yes u a (range_with_len (a + 1) n) (sym s ∙ e))
      | inr e ↦ passing_no t a (range_with_len (a + 1) n) e ∙ r ∙ sym (passing_no u a (range_with_len (a + 1) n) (sym s ∙ e))
    ]

pub distinct_append : (seen ts us : List ℕ) → distinct seen (ts ++ us) ≡ distinct (distinct seen ts) us
distinct_append seen [] us = refl
distinct_append seen (t ∷ ts) us = distinct_append (added seen t) ts us

-- one more number, whose value is one more line to add
module _ (f : ℕ → ℕ) (test : ℕ → Bool) (seen : List ℕ) (n : ℕ) where
  pub lines_more_yes : test n ≡ true
      → distinct seen (map f (passing test (range_with_len 0 (n + 1)))) ≡ added (distinct seen (map f (passing test (range_with_len 0 n)))) (f n)
  lines_more_yes e =
      ap (λ xs. distinct seen (map f xs)) (passing_more_yes test n e) ∙ ap (distinct seen) (map-append f (passing test (range_with_len 0 n)) (n ∷ []))
      ∙ distinct_append seen (map f (passing test (range_with_len 0 n))) (f n ∷ [])

  pub lines_more_no : test n ≡ false → distinct seen (map f (passing test (range_with_len 0 (n + 1)))) ≡ distinct seen (map f (passing test (range_with_len 0 n)))
  lines_more_no e = ap (λ xs. distinct seen (map f xs)) (passing_more_no test n e)

-- a list of a function's values agrees with another function's, where these agree
pub map_same : {X : Type 0} (f g : ℕ → X) (a n : ℕ) → ((k : ℕ) → a ≤ k → k < a + n → f k ≡ g k) → map f (range_with_len a n) ≡ map g (range_with_len a n)
map_same f g a zero h = refl
map_same f g a (suc n) h =
    ap (λ y. y ∷ map f (range_with_len (a + 1) n)) (h a (omega arith) (omega arith))
    ∙ ap (λ ys. g a ∷ ys) (map_same f g (a + 1) n (λ k p q. h k (omega arith) (omega arith)))

-- the values at what is read, and by the places
pub map_places : {X Y : Type 0} (f : X → Y) (d : X) (xs : List X) → map f xs ≡ map (λ i. f (get_or xs i d)) (range_with_len 0 (length xs))
map_places f d xs = fill_by_all (λ i. f (get_or xs i d)) (map f xs) (length xs) (f d) (length-map xs f)
    (λ k h. get_or-map f xs k d (f d) h)

-- two lists of one length, side by side
module _ {X Y : Type 0} (d : X) (e : Y) where
  zip_long : (xs : List X) (ys : List Y) → length ys ≡ length xs → length (zip xs ys) ≡ length xs
  zip_long [] ys h = refl
  zip_long (x ∷ xs) [] h = omega arith
  zip_long (x ∷ xs) (y ∷ ys) h = ap suc (zip_long xs ys (omega arith))

  zip_at : (xs : List X) (ys : List Y) → length ys ≡ length xs → (i : ℕ) → i < length xs → get_or (zip xs ys) i (d, e) ≡ (get_or xs i d, get_or ys i e)
  zip_at [] ys h i l = absurd (omega arith)
  zip_at (x ∷ xs) [] h i l = absurd (omega arith)
  zip_at (x ∷ xs) (y ∷ ys) h zero l = refl
  zip_at (x ∷ xs) (y ∷ ys) h (suc i) l = zip_at xs ys (omega arith) i (omega arith)

  pub zip_places : {Z : Type 0} (f : X × Y → Z) (xs : List X) (ys : List Y) → length ys ≡ length xs
      → map f (zip xs ys) ≡ map (λ i. f (get_or xs i d, get_or ys i e)) (range_with_len 0 (length xs))
  zip_places f xs ys h =
      map_places f (d, e) (zip xs ys) ∙ ap (λ n. map (λ i. f (get_or (zip xs ys) i (d, e))) (range_with_len 0 n)) (zip_long xs ys h)
      ∙ map_same _ _ 0 (length xs) (λ k _ l. ap f (zip_at xs ys h k (omega arith)))

  pub zip_each : (P : X × Y → Type 0) (xs : List X) (ys : List Y) → length ys ≡ length xs
      → ((i : ℕ) → i < length xs → P (get_or xs i d, get_or ys i e)) → All P (zip xs ys)
  zip_each P xs ys h each = All-from_get_or P (zip xs ys) (d, e) (λ i l.
      let less : i < length xs = omega (arith, zip_long xs ys h) in
      subst P (sym (zip_at xs ys h i less)) (each i less))

-- a count by what is read, and by the places
count_places : {X : Type 0} (p : X → Bool) (d : X) (xs : List X) (t : ℕ → Bool) (a : ℕ) → ((i : ℕ) → i < length xs → t (a + i) ≡ p (get_or xs i d))
    → count_by p xs ≡ length (passing t (range_with_len a (length xs)))
count_places p d [] t a h = refl
count_places p d (x ∷ xs) t a h =
    let next : (i : ℕ) → (a + 1) + i ≡ a + suc i = λ i. omega arith in
    let first : a ≡ a + 0 = omega arith in
    let r = count_places p d xs t (a + 1) (λ i l. ap t (next i) ∙ h (suc i) (omega arith)) in
    let here : t a ≡ p x = ap t first ∙ h 0 (omega arith) in
    let rest = range_with_len (a + 1) (length xs) in
    elim (cases_Bool (p x)) [
      | inl e ↦ (
          let one : count_by p (x ∷ xs) ≡ 1 + count_by p xs = sum_by-cons (λ y. cond (p y) 1 0) x xs ∙ ap (λ u. cond u 1 0 + count_by p xs) e in
          let more : 1 + count_by p xs ≡ suc (length (passing t rest)) = omega (arith, r) in
          one ∙ more ∙ sym (ap length (passing_yes t a rest (here ∙ e))))
      | inr e ↦ (
          let none : count_by p (x ∷ xs) ≡ 0 + count_by p xs = sum_by-cons (λ y. cond (p y) 1 0) x xs ∙ ap (λ u. cond u 1 0 + count_by p xs) e in
          none ∙ zero-add (count_by p xs) ∙ r ∙ sym (ap length (passing_no t a rest (here ∙ e))))
    ]

pub count_passing : {X : Type 0} (p : X → Bool) (d : X) (xs : List X) → count_by p xs ≡ length (passing (λ j. p (get_or xs j d)) (range_with_len 0 (length xs)))
count_passing p d xs = count_places p d xs (λ j. p (get_or xs j d)) 0 (λ i l. ap (λ k. p (get_or xs k d)) (zero-add i))

-- what `contains` answers
contains_one : (xs : List ℕ) (x : ℕ) (r : Bool) → IsAnyAnswer (λ y t. eqb y x ≡ t) xs r → r ≡ one_of_these x xs
contains_one xs x r h =
    same_from_decides r (one_of_these x xs) (contains_decides eqb Decides-eqb xs x r h)
    (Decides-by_or (λ y. eqb x y) (λ y. y ≡ x) (one_of_these x) (λ y. Decides-like (eqb x y) sym sym (Decides-eqb x y)) refl (λ _ _. refl) xs)

-- a line is added if it is not one of those seen
module _ (seen : List ℕ) (line : ℕ) (r : Bool) (h : IsAnyAnswer (λ y t. eqb y line ≡ t) seen r) where
  pub added_new : r ≡ false → added seen line ≡ seen ++ (line ∷ [])
  added_new e = ap (λ t. elim t [ true ↦ seen | false ↦ seen ++ (line ∷ []) ]) (sym (contains_one seen line r h) ∙ e)

  pub added_again : r ≡ true → added seen line ≡ seen
  added_again e = ap (λ t. elim t [ true ↦ seen | false ↦ seen ++ (line ∷ []) ]) (sym (contains_one seen line r h) ∙ e)

-- a list of a function's values, one value longer, and at its end
pub values_more : {X : Type 0} (f : ℕ → X) (n : ℕ) (xs ys : List X) (y : X) → xs ≡ map f (range_with_len 0 n) → y ≡ f n → ys ≡ xs ++ (y ∷ []) → ys ≡ map f (range_with_len 0 (n + 1))
values_more f n xs ys y xs-are y-is e = e ∙ ap₂ (λ zs z. zs ++ (z ∷ [])) xs-are y-is ∙ sym (map-range_with_len_more f 0 n n (zero-add n))

pub values_all : {X : Type 0} (f : ℕ → X) (n m : ℕ) (xs : List X) → xs ≡ map f (range_with_len 0 n) → n ≡ m → xs ≡ map f (range_with_len 0 m)
values_all f n m xs xs-are e = xs-are ∙ ap (λ k. map f (range_with_len 0 k)) e
