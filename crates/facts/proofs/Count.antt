-- How many of the first numbers pass a test.
use Rattle.std.proofs.Common.{◌≡◌, ℕ, suc, ◌+◌, Bool, true, false, cond, List, [], ◌∷◌, map, length, sym, refl, ap, ap₂, ◌∙◌, arith, add-one, length-append}
use Rattle.std.specs.List.{range_with_len, filter}
use Rattle.std.proofs.lemmas.List.{map-id}
use Rattle.std.proofs.lemmas.List.FromFn.{filter_of_map_range_with_len_more}

one_or_none : (t : Bool) (n : ℕ) → length (cond t (n ∷ []) []) ≡ cond t 1 0
one_or_none true n = refl
one_or_none false n = refl

-- one number more
pub counted_more : (p : ℕ → Bool) (n : ℕ) → length (filter p (range_with_len 0 (suc n))) ≡ length (filter p (range_with_len 0 n)) + cond (p n) 1 0
counted_more p n =
    let less : List ℕ = range_with_len 0 n in
    ap (λ m. length (filter p (range_with_len 0 m))) (sym (add-one n)) ∙ ap (λ xs. length (filter p xs)) (sym (map-id (range_with_len 0 (n + 1))))
    ∙ ap length (filter_of_map_range_with_len_more p (λ (x : ℕ). x) 0 n n (omega arith))
    ∙ length-append (filter p (map (λ x. x) less)) (cond (p n) (n ∷ []) [])
    ∙ ap₂ ◌+◌ (ap (λ xs. length (filter p xs)) (map-id less)) (one_or_none (p n) n)
