-- Texts one after the other, one more at a time.
use Rattle.std.proofs.Common.{◌≡◌, ℕ, zero, suc, ◌+◌, ◌-◌, ◌*◌, ◌<◌, ◌≤◌, List, [], ◌∷◌, ◌++◌, map, length, sym, refl, ap, ◌∙◌, suc-mul, arith, length-append}
use Rattle.std.specs.List.{range_with_len, flat_map}
use Rattle.std.proofs.lemmas.List.FromFn.{map-range_with_len_more}
use Rattle.std.proofs.lemmas.List.{map-id, flat_map_more}
use Rattle.categories.specs.declared.category.Category.{Category}
use Rattle.categories.specs.Letters.{letters_of}
use Rattle.listing.specs.Text.{categories_text}

counting_more : (a n j : ℕ) → a + n ≡ j → range_with_len a (n + 1) ≡ range_with_len a n ++ (j ∷ [])
counting_more a n j e =
    sym (map-id (range_with_len a (n + 1))) ∙ map-range_with_len_more (λ x. x) a n j e ∙ ap (λ xs. xs ++ (j ∷ [])) (map-id (range_with_len a n))

-- one text more
pub joined_count : (text : ℕ → List ℕ) (a n j : ℕ) → a + n ≡ j → flat_map text (range_with_len a (n + 1)) ≡ flat_map text (range_with_len a n) ++ text j
joined_count text a n j e = ap (flat_map text) (counting_more a n j e) ∙ sym (flat_map_more text [] (range_with_len a n) j)

pub joined-map : {X Y : Type 0} (text : Y → List ℕ) (f : X → Y) (xs : List X) → flat_map text (map f xs) ≡ flat_map (λ x. text (f x)) xs
joined-map text f [] = refl
joined-map text f (x ∷ xs) = ap (λ t. text (f x) ++ t) (joined-map text f xs)

-- the categories at the places from 0 on
pub categories_counted : (f : ℕ → Category) (n m : ℕ) → 0 < n → m ≡ n → categories_text (map f (range_with_len 0 n)) ≡ letters_of (f 0) ++ flat_map (λ k. 47 ∷ letters_of (f k)) (range_with_len 1 (m - 1))
categories_counted f zero m some e = absurd (omega arith)
categories_counted f (suc n) m some e =
    let less : n ≡ m - 1 = omega arith in
    ap (λ t. letters_of (f 0) ++ t) (joined-map (λ y. 47 ∷ letters_of y) f (range_with_len 1 n) ∙ ap (λ k. flat_map (λ x. 47 ∷ letters_of (f x)) (range_with_len 1 k)) less)

-- texts of at most k bytes each
pub joined_length : {X : Type 0} (text : X → List ℕ) (k : ℕ) → ((x : X) → length (text x) ≤ k) → (xs : List X) → length (flat_map text xs) ≤ length xs * k
joined_length text k h [] = omega arith
joined_length text k h (x ∷ xs) =
    omega (arith, length-append (text x) (flat_map text xs), h x, joined_length text k h xs, suc-mul (length xs) k)

pub count-length : (text : ℕ → List ℕ) (k a n : ℕ) → ((j : ℕ) → j < a + n → length (text j) ≤ k) → length (flat_map text (range_with_len a n)) ≤ n * k
count-length text k a zero h = omega arith
count-length text k a (suc n) h =
    omega (
      arith,
      length-append (text a) (flat_map text (range_with_len (a + 1) n)),
      h a (omega arith),
      count-length text k (a + 1) n (λ j l. h j (omega arith)),
      suc-mul n k,
    )
