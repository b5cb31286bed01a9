-- What the categories rest on: a settled task, and the laws of its kind of cache state.
use Rattle.std.proofs.Common.{◌≡◌, ℕ, Bool, true, [], ◌∷◌}
use Rattle.std.proofs.lemmas.Bool.{and_from}
use Rattle.records.specs.declared.parts.Geometry.{Geometry}
use Rattle.records.specs.Contents.{Contents}
use Rattle.records.specs.Layout.{InFormat, one_of}
use Rattle.records.proofs.Ranges.{ranges}
use Rattle.facts.specs.Kind.{Kind}
use Rattle.facts.specs.Laws.{Lawful, Distributes}
use Rattle.cache_state.specs.Cache.{in_range}
use Rattle.cache_state.specs.Fetching.{Fetching}
use Rattle.categories.specs.Meaning.{Settled}

pub record Grounds {K : Type 0} (k : Kind K) (fetched : ℕ → K → K) (passed : ℕ → ℕ → Bool) (c : Contents) : Type 0 where
  pub settled : Settled k passed c
  pub lawful : Lawful k
  pub fetching : Fetching c.header.geometry k fetched
  pub distributes : (t : ℕ) → Distributes k (fetched t)

pub geometry_in_range : (c : Contents) → InFormat c → in_range c.header.geometry ≡ true
geometry_in_range c format =
    let h = (ranges c format).header in
    and_from (one_of (4 ∷ 8 ∷ 16 ∷ 32 ∷ 64 ∷ []) c.header.geometry.line) (one_of (1 ∷ 2 ∷ 4 ∷ 8 ∷ 16 ∷ 32 ∷ 64 ∷ []) c.header.geometry.slots) h.line h.slots

-- a kind that keeps the laws at each geometry that it takes gives the grounds for every settled task
pub grounds_of : {K : Type 0} (takes : Geometry → Bool) (kind : Geometry → Kind K) (fetched : Geometry → ℕ → K → K)
    → ((g : Geometry) → in_range g ≡ true → takes g ≡ true)
    → ((g : Geometry) → takes g ≡ true → Lawful (kind g))
    → ((g : Geometry) → takes g ≡ true → Fetching g (kind g) (fetched g))
    → ((g : Geometry) (t : ℕ) → takes g ≡ true → Distributes (kind g) (fetched g t))
    → (c : Contents) (passed : ℕ → ℕ → Bool) → Settled (kind c.header.geometry) passed c
    → Grounds (kind c.header.geometry) (fetched c.header.geometry) passed c
grounds_of takes kind fetched everywhere lawful fetching distributes c passed settled =
    let taken = everywhere c.header.geometry (geometry_in_range c settled.format) in
    record {
      settled = settled;
      lawful = lawful c.header.geometry taken;
      fetching = fetching c.header.geometry taken;
      distributes = λ t. distributes c.header.geometry t taken;
    }
