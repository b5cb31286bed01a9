-- Every walk keeps the categories.
use Rattle.std.proofs.Common.{◌≡◌, ℕ, ◌<◌, Bool, true, List, [], ◌∷◌, length, take, ◌∙◌, subst, inl, inr, arith}
use Rattle.std.proofs.lemmas.Bool.Decides.{nat_tests}
use Rattle.records.specs.declared.parts.Loop.{Loop}
use Rattle.records.specs.Contents.{Contents}
use Rattle.records.specs.Layout.{InFormat, one_of}
use Rattle.records.proofs.Ranges.{ranges}
use Rattle.task.specs.Graph.{loop_at, Within}
use Rattle.walks.specs.Walk.{Walk, all_loops, Among}
use Rattle.facts.specs.Kind.{Kind}
use Rattle.cache_state.specs.Cache.{Hits, Cache, Resident, fetch_cache, fetch_all, walk_cache}
use Rattle.run.specs.Run.{lines_of}
use Rattle.categories.specs.declared.category.Category.{Category}
use Rattle.categories.specs.declared.category.Category.TheVariants.{AlwaysHit, FirstMiss, FirstHit, AlwaysMiss}
use Rattle.categories.specs.Category.{fetches_of, line_of, marks_of}
use Rattle.categories.specs.Meaning.{Again, Fitting, Keeps, Kept, KeptAlways}
use Rattle.categories.proofs.Grounds.{Grounds}
use Rattle.categories.proofs.Lists.{among_lines}
use Rattle.categories.proofs.Stays.{first_in_first_round}
use Rattle.categories.proofs.Residence.{take_among, fetches_keep, fetches_bring}
use Rattle.categories.proofs.States.{length-walk-cache, sure_hits}
use Rattle.categories.proofs.Fits.{Alone, alone_lines, category_first}

some_slots : (n : ℕ) → one_of (1 ∷ 2 ∷ 4 ∷ 8 ∷ 16 ∷ 32 ∷ 64 ∷ []) n ≡ true → 0 < n
some_slots n e = grind (arith, nat_tests)

pub slots_some : (c : Contents) → InFormat c → 0 < c.header.geometry.slots
slots_some c format = some_slots c.header.geometry.slots (ranges c format).header.slots

-- a line alone in its slot stays resident from its first fetch in a stay to the end of the stay
module _ (c : Contents) (some : 0 < c.header.geometry.slots) (cache : Cache) (len : length cache ≡ c.header.geometry.slots)
    (l : Loop) (t : ℕ) (alone : Alone c l t) where
  abbrev cache_after : List ℕ → Cache
  cache_after w = walk_cache c.header.geometry c.blocks w cache

  full : (w : List ℕ) → length (cache_after w) ≡ c.header.geometry.slots
  full w = length-walk-cache c.header.geometry c.blocks w cache ∙ len

  stay_resident : (d : ℕ) → Among t (lines_of c d) → (w : List ℕ) → Again l d w → Resident c.header.geometry (cache_after w) t
  stay_resident d m [] s = absurd s
  stay_resident d m (p ∷ w) s = elim s.1 [
    | inl e ↦
        fetches_bring c.header.geometry some t (lines_of c p) (cache_after w) (full w) (λ u q. alone_lines c l t alone p u s.0 q)
        (subst (λ x. Among t (lines_of c x)) e m)
    | inr r ↦
        fetches_keep c.header.geometry some t (lines_of c p) (cache_after w) (full w) (λ u q. alone_lines c l t alone p u s.0 q) (stay_resident d m w r)
  ]

  pub resident_again : (d j : ℕ) → Within l d → Among t (lines_of c d) → (w : List ℕ) → Again l d w
      → Resident c.header.geometry (fetch_all (fetch_cache c.header.geometry) (take j (lines_of c d)) (cache_after w)) t
  resident_again d j h m w s =
      fetches_keep c.header.geometry some t (take j (lines_of c d)) (cache_after w) (full w)
      (λ u q. alone_lines c l t alone d u h (take_among j (lines_of c d) u q)) (stay_resident d m w s)

module _ {K : Type 0} (k : Kind K) (fetched : ℕ → K → K) (passed : ℕ → ℕ → Bool) (c : Contents) (grounds : Grounds k fetched passed c)
    (cache : Cache) (len : length cache ≡ c.header.geometry.slots) where
  -- a category that fits is kept
  fits_keeps : (w : List ℕ) (b j i : ℕ) → Walk c.edges 0 w b → j < fetches_of c b → i < length (all_loops c) → Within (loop_at (all_loops c) i) b
      → (x : Category) → Fitting k fetched c b j (loop_at (all_loops c) i) x → Keeps x (Again (loop_at (all_loops c) i) b w) (Hits c cache w b j)
  fits_keeps w b j i walk few known h AlwaysHit f = sure_hits c grounds.fetching grounds.lawful cache len w b j (f w walk)
  fits_keeps w b j i walk few known h FirstMiss f =
      resident_again c (slots_some c grounds.settled.format) cache len (loop_at (all_loops c) i) (line_of c b j) f b j h (among_lines c b j few) w
  fits_keeps w b j i walk few known h FirstHit f =
      λ fresh. sure_hits c grounds.fetching grounds.lawful cache len w b j
      (f.1 w walk (first_in_first_round c grounds.settled.format grounds.settled.laws i known b h f.0 w walk fresh))
  fits_keeps w b j i walk few known h AlwaysMiss f = tt

  pub kept : (w : List ℕ) (b : ℕ) → Walk c.edges 0 w b → Kept c (marks_of k fetched c passed) cache (b ∷ w)
  kept [] b walk =
      (λ j i few known h. fits_keeps [] b j i walk few known h (marks_of k fetched c passed b j i) (category_first k fetched passed c grounds i b known h j).fits, tt)
  kept (p ∷ w) b walk = (
    λ j i few known h. fits_keeps (p ∷ w) b j i walk few known h (marks_of k fetched c passed b j i) (category_first k fetched passed c grounds i b known h j).fits,
    kept w p walk.0,
  )

pub kept_always : {K : Type 0} (k : Kind K) (fetched : ℕ → K → K) (passed : ℕ → ℕ → Bool) (c : Contents) → Grounds k fetched passed c
    → KeptAlways c (marks_of k fetched c passed)
kept_always k fetched passed c grounds w b cache walk len = kept k fetched passed c grounds cache len w b walk
