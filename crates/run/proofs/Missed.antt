-- Misses, one fetch after the other.
use Rattle.std.proofs.Common.{◌≡◌, ℕ, ◌+◌, ◌≤◌, eqb, List, [], ◌∷◌, ◌++◌, map, length, get_or, sym, ap, ◌∙◌, ap₂, add-zero, add_assoc, zero-add, arith}
use Rattle.std.specs.List.{range_with_len}
use Rattle.std.proofs.lemmas.List.FromFn.{map-range_with_len_more}
use Rattle.std.proofs.lemmas.Bool.{cond_both}
use Rattle.records.specs.declared.parts.Geometry.{Geometry}
use Rattle.cache_state.specs.Cache.{Cache, empty, slot_of, fetch_cache, fetch_all}
use Rattle.run.specs.Run.{missed, misses_of}

module _ (g : Geometry) where
  pub missed_once : (t : ℕ) (c : Cache) → missed g t c ≤ 1
  missed_once t c = cond_both (eqb (get_or c (slot_of g t) empty) t) 0 1 (λ n. n ≤ 1) (λ _. omega arith) (λ _. omega arith)

  pub misses_few : (ts : List ℕ) (c : Cache) → misses_of g ts c ≤ length ts
  misses_few [] c = omega arith
  misses_few (t ∷ ts) c = let one = missed_once t c in let more = misses_few ts (fetch_cache g t c) in omega arith

  misses-append : (ts us : List ℕ) (c : Cache) → misses_of g (ts ++ us) c ≡ misses_of g ts c + misses_of g us (fetch_all (fetch_cache g) ts c)
  misses-append [] us c = sym (zero-add (misses_of g us c))
  misses-append (t ∷ ts) us c =
      ap (λ n. missed g t c + n) (misses-append ts us (fetch_cache g t c))
      ∙ sym (add_assoc (missed g t c) (misses_of g ts (fetch_cache g t c)) (misses_of g us (fetch_all (fetch_cache g) ts (fetch_cache g t c))))

  -- one fetch more, of line t from cache d
  pub misses_more : (lines : ℕ → ℕ) (n t : ℕ) (c d : Cache) → t ≡ lines n → d ≡ fetch_all (fetch_cache g) (map lines (range_with_len 0 n)) c
      → misses_of g (map lines (range_with_len 0 (n + 1))) c ≡ misses_of g (map lines (range_with_len 0 n)) c + missed g t d
  misses_more lines n t c d line before =
      ap (λ ts. misses_of g ts c) (map-range_with_len_more lines 0 n n (omega arith))
      ∙ misses-append (map lines (range_with_len 0 n)) (lines n ∷ []) c
      ∙ ap (λ m. misses_of g (map lines (range_with_len 0 n)) c + m) (add-zero (missed g (lines n) (fetch_all (fetch_cache g) (map lines (range_with_len 0 n)) c)) ∙ ap₂ (missed g) (sym line) (sym before))
