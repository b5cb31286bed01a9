-- Fetches one after the other.
use Rattle.std.proofs.Common.{◌≡◌, ℕ, zero, suc, ◌+◌, ◌*◌, ◌<◌, min, true, List, [], ◌∷◌, ◌++◌, map, take, sym, refl, ap, ◌∙◌, subst, ap₂, inl, inr, div-le_self, arith}
use native.Mathlib.Nat.{min-eq_left}
use Rattle.std.specs.List.{range_with_len, fold}
use Rattle.std.proofs.lemmas.List.FromFn.{map-range_with_len_more, take-map-range_with_len, length-map-range_with_len}
use Rattle.std.proofs.lemmas.List.{take_all}
use Rattle.std.proofs.lemmas.Bool.{cases_lt, leb-true}
use Rattle.records.specs.declared.parts.Geometry.{Geometry}
use Rattle.records.specs.declared.parts.Block.{Block}
use Rattle.facts.specs.Kind.{Kind}
use Rattle.facts.specs.Laws.{Alike, Respects, Distributes, Distributing, Through}
use Rattle.facts.specs.Space.{placed}
use Rattle.facts.proofs.Order.{through_none, through_then}
use Rattle.cache_state.specs.Cache.{empty, fetch_line, fetch_lines, fetch_all}

pub fetch_all-append : {A : Type 0} (f : ℕ → A → A) (ts us : List ℕ) (x : A) → fetch_all f (ts ++ us) x ≡ fetch_all f us (fetch_all f ts x)
fetch_all-append f [] us x = refl
fetch_all-append f (t ∷ ts) us x = fetch_all-append f ts us (f t x)

-- one fetch more: of line t, which makes z of y
pub fetch_more : {A : Type 0} (f : ℕ → A → A) (lines : ℕ → ℕ) (n t : ℕ) (x y z : A) → z ≡ f t y → t ≡ lines n
    → y ≡ fetch_all f (map lines (range_with_len 0 n)) x → z ≡ fetch_all f (map lines (range_with_len 0 (n + 1))) x
fetch_more f lines n t x y z fetched line before =
    fetched ∙ ap₂ f line before
    ∙ sym (ap (λ ts. fetch_all f ts x) (map-range_with_len_more lines 0 n n (omega arith)) ∙ fetch_all-append f (map lines (range_with_len 0 n)) (lines n ∷ []) x)

-- in the address space every line fits
pub line_fits : (g : Geometry) (b : Block) (j line : ℕ) → line ≡ min (fetch_line g b j) empty → placed b ≡ true → j < b.fetches → line ≡ fetch_line g b j
line_fits g b j line e p h =
    e ∙ min-eq_left (let f = leb-true (b.address + 4 * b.fetches) 16777216 p in
    let d = div-le_self (b.address + 4 * j) g.line in omega arith)

-- two lists made from the same numbers
map_same : (f h : ℕ → ℕ) (a n : ℕ) → ((j : ℕ) → j < a + n → f j ≡ h j) → map f (range_with_len a n) ≡ map h (range_with_len a n)
map_same f h a zero e = refl
map_same f h a (suc n) e = ap₂ (λ x xs. x ∷ xs) (e a (omega arith)) (map_same f h (a + 1) n (λ j l. e j (omega arith)))

-- the first lines of a block, of which each fits
pub first_lines : (g : Geometry) (b : Block) (count n : ℕ) → placed b ≡ true → n ≡ min count b.fetches
    → map (λ j. min (fetch_line g b j) empty) (range_with_len 0 n) ≡ take count (fetch_lines g b)
first_lines g b count n p e =
    map_same (λ j. min (fetch_line g b j) empty) (fetch_line g b) 0 n (λ j l. line_fits g b j (min (fetch_line g b j) empty) refl p (omega arith))
    ∙ elim (cases_lt count b.fetches) [
      | inl l ↦ (let same : n ≡ count = omega arith in
          ap (λ m. map (fetch_line g b) (range_with_len 0 m)) same ∙ sym (take-map-range_with_len (fetch_line g b) 0 b.fetches count (omega arith)))
      | inr l ↦ (let same : n ≡ b.fetches = omega arith in
          let long = length-map-range_with_len (fetch_line g b) 0 b.fetches in
          ap (λ m. map (fetch_line g b) (range_with_len 0 m)) same ∙ sym (take_all count (fetch_lines g b) (omega arith)))
    ]

pub all_lines : (g : Geometry) (b : Block) → take b.fetches (fetch_lines g b) ≡ fetch_lines g b
all_lines g b = take_all b.fetches (fetch_lines g b) (let e = length-map-range_with_len (fetch_line g b) 0 b.fetches in omega arith)

-- fetches one after the other are a fold
pub fold-fetched : {A : Type 0} (f : ℕ → A → A) (ts : List ℕ) (x : A) → fold (λ y t. f t y) x ts ≡ fetch_all f ts x
fold-fetched f [] x = refl
fold-fetched f (t ∷ ts) x = fold-fetched f ts (f t x)

-- fetches one after the other go through joins if each fetch does
pub fetches_through : {K : Type 0} {k : Kind K} (fetched : ℕ → K → K) → ((t : ℕ) → Through k (fetched t)) → (ts : List ℕ) → Through k (fetch_all fetched ts)
fetches_through fetched each [] = through_none
fetches_through fetched each (t ∷ ts) = through_then (each t) (fetches_through fetched each ts)

-- so passing a block does, where that is its fetches in order
pub passing_distributes : {K : Type 0} (g : Geometry) (k : Kind K) (fetched : ℕ → K → K) → ((t : ℕ) → Respects k (fetched t)) → ((t : ℕ) → Distributes k (fetched t))
    → ((b : ℕ) (c : Block) (x : K) → k.passed b c x ≡ fetch_all fetched (fetch_lines g c) x) → Distributing k
passing_distributes g k fetched alike each passing b c =
    let d = (fetches_through fetched (λ t. record { respects = alike t; distributes = each t }) (fetch_lines g c)).distributes in
    record {
      spreads = λ x y. subst (λ z. Alike k z (k.joined (k.passed b c x) (k.passed b c y))) (sym (passing b c (k.joined x y)))
          (subst (λ z. Alike k (fetch_all fetched (fetch_lines g c) (k.joined x y)) (k.joined z (k.passed b c y))) (sym (passing b c x))
          (subst (λ z. Alike k (fetch_all fetched (fetch_lines g c) (k.joined x y)) (k.joined (fetch_all fetched (fetch_lines g c) x) z)) (sym (passing b c y)) (d.spreads x y)));
      keeps = subst (λ z. Alike k z k.nothing_yet) (sym (passing b c k.nothing_yet)) d.keeps;
    }
