-- Which lines fetches bring into the cache, keep there and miss.
use Rattle.std.proofs.Common.{◌≡◌, ℕ, zero, suc, ◌<◌, eqb, ◌⊎◌, List, [], ◌∷◌, length, get_or, take, sym, refl, ◌∙◌, subst, inl, inr, mod-lt, length-set, get_or-set_other, get_or-set_same}
use Rattle.std.proofs.lemmas.Bool.{cases_eq, eq-eqb, ne_eqb, cond-true, cond-false}
use Rattle.records.specs.declared.parts.Geometry.{Geometry}
use Rattle.walks.specs.Walk.{Among}
use Rattle.cache_state.specs.Cache.{Cache, empty, Resident, slot_of, fetch_cache, fetch_all}
use Rattle.run.specs.Run.{missed}

pub take_among : (j : ℕ) (ts : List ℕ) (u : ℕ) → Among u (take j ts) → Among u ts
take_among zero ts u m = absurd m
take_among (suc j) [] u m = absurd m
take_among (suc j) (t ∷ ts) u (inl e) = inl e
take_among (suc j) (t ∷ ts) u (inr m) = inr (take_among j ts u m)

-- a fetch hits or misses
pub missed_cases : (g : Geometry) (t : ℕ) (cache : Cache)
    → (Resident g cache t × (missed g t cache ≡ 0)) ⊎ ((Resident g cache t → ⊥) × (missed g t cache ≡ 1))
missed_cases g t cache =
    let x = get_or cache (slot_of g t) empty in
    elim (cases_eq x t) [ inl e ↦ inl (e, cond-true (eqb x t) 0 1 (eq-eqb x t e)) | inr e ↦ inr (e, cond-false (eqb x t) 0 1 (ne_eqb x t e)) ]

pub missed_not : (g : Geometry) (t : ℕ) (cache : Cache) → Resident g cache t → missed g t cache ≡ 0
missed_not g t cache r = cond-true (eqb (get_or cache (slot_of g t) empty) t) 0 1 (eq-eqb (get_or cache (slot_of g t) empty) t r)

module _ (g : Geometry) (some : 0 < g.slots) where
  pub slot_below : (t : ℕ) (cache : Cache) → length cache ≡ g.slots → slot_of g t < length cache
  slot_below t cache len = subst (λ n. slot_of g t < n) (sym len) (mod-lt t some)

  pub fetch_length : (t : ℕ) (cache : Cache) → length cache ≡ g.slots → length (fetch_cache g t cache) ≡ g.slots
  fetch_length t cache len = length-set cache (slot_of g t) t ∙ len

  pub fetch_resident : (t : ℕ) (cache : Cache) → length cache ≡ g.slots → Resident g (fetch_cache g t cache) t
  fetch_resident t cache len = get_or-set_same cache (slot_of g t) t empty (slot_below t cache len)

  -- a fetch of u keeps line t, unless u is another line of its slot
  pub fetch_keeps : (u t : ℕ) (cache : Cache) → length cache ≡ g.slots → (slot_of g u ≡ slot_of g t → u ≡ t) → Resident g cache t → Resident g (fetch_cache g u cache) t
  fetch_keeps u t cache len h r = elim (cases_eq (slot_of g u) (slot_of g t)) [
    | inl e ↦ subst (λ v. Resident g (fetch_cache g v cache) t) (sym (h e)) (fetch_resident t cache len)
    | inr ne ↦ get_or-set_other cache (slot_of g u) (slot_of g t) u empty (λ e. ne (sym e)) ∙ r
  ]

  pub fetches_keep : (t : ℕ) (us : List ℕ) (cache : Cache) → length cache ≡ g.slots → ((u : ℕ) → Among u us → slot_of g u ≡ slot_of g t → u ≡ t)
      → Resident g cache t → Resident g (fetch_all (fetch_cache g) us cache) t
  fetches_keep t [] cache len h r = r
  fetches_keep t (u ∷ us) cache len h r =
      fetches_keep t us (fetch_cache g u cache) (fetch_length u cache len) (λ v m. h v (inr m)) (fetch_keeps u t cache len (h u (inl refl)) r)

  pub fetches_bring : (t : ℕ) (us : List ℕ) (cache : Cache) → length cache ≡ g.slots → ((u : ℕ) → Among u us → slot_of g u ≡ slot_of g t → u ≡ t)
      → Among t us → Resident g (fetch_all (fetch_cache g) us cache) t
  fetches_bring t [] cache len h m = absurd m
  fetches_bring t (u ∷ us) cache len h (inl e) =
      fetches_keep t us (fetch_cache g u cache) (fetch_length u cache len) (λ v m. h v (inr m))
      (subst (λ v. Resident g (fetch_cache g v cache) t) e (fetch_resident t cache len))
  fetches_bring t (u ∷ us) cache len h (inr m) =
      fetches_bring t us (fetch_cache g u cache) (fetch_length u cache len) (λ v k. h v (inr k)) m
