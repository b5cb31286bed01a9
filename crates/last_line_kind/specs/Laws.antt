-- The last-line kind keeps the laws of a kind of cache state.
use Rattle.std.specs.Prelude.{◌≡◌, ℕ, suc, ◌<◌, ◌≤◌, true, ◌&&◌, ◌⊎◌, length, ◌==◌, ◌≢◌, refl}
use Rattle.std.proofs.Common.{sym, ap, subst, ◌∙◌, inl, inr, mod-lt, arith}
use Rattle.std.proofs.lemmas.List.{get_or-set_same}
use Rattle.std.proofs.lemmas.Bool.{cases_eq, eqb-true, eq-eqb, ne_eqb, cond-true, cond-false, true≢false}
use Rattle.std.proofs.lemmas.Bool.Decides.{nat_tests}
use Rattle.records.specs.declared.parts.Geometry.{Geometry}
use Rattle.records.specs.declared.parts.Block.{Block}
use Rattle.facts.specs.Laws.{Alike, Lawful, Through}
use Rattle.facts.proofs.Order.{alike_self}
use Rattle.cache_state.specs.Cache.{Cache, Resident, empty, slot_of, fetch_cache, fetch_lines, in_range}
use Rattle.cache_state.specs.Fetching.{Fetching}
use Rattle.cache_state.proofs.Fetches.{fetches_through}
use Rattle.last_line_kind.specs.declared.LastLine.{LastLine}
use Rattle.last_line_kind.specs.declared.LastLine.TheVariants.{Nothing, Line, Unknown}
use Rattle.last_line_kind.specs.LastLine.{last_allows, last_sure, last_joined, last_ranked, last_fetched, last_taken, last_kind}

-- two lines joined, by cases
two_lines : (P : LastLine → Type 0) (t u : ℕ) → (t ≡ u → P (Line t)) → ((t ≢ u) → P Unknown) → P (last_joined (Line t) (Line u))
two_lines P t u f g = elim (cases_eq t u) [
  | inl e ↦ subst P (sym (cond-true (t == u) (Line t) Unknown (eq-eqb t u e))) (f e)
  | inr e ↦ subst P (sym (cond-false (t == u) (Line t) Unknown (ne_eqb t u e))) (g e)
]

join_comm : (x y : LastLine) → last_joined x y ≡ last_joined y x
join_comm Nothing Nothing = refl
join_comm Nothing (Line u) = refl
join_comm Nothing Unknown = refl
join_comm (Line t) Nothing = refl
join_comm (Line t) (Line u) = two_lines (λ z. z ≡ last_joined (Line u) (Line t)) t u
    (λ e. two_lines (λ z. Line t ≡ z) u t (λ _. ap Line e) (λ n. absurd (n (sym e))))
    (λ n. two_lines (λ z. Unknown ≡ z) u t (λ e. absurd (n (sym e))) (λ _. refl))
join_comm (Line t) Unknown = refl
join_comm Unknown Nothing = refl
join_comm Unknown (Line u) = refl
join_comm Unknown Unknown = refl

join_assoc : (x y z : LastLine) → last_joined (last_joined x y) z ≡ last_joined x (last_joined y z)
join_assoc Nothing y z = refl
join_assoc (Line t) Nothing z = refl
join_assoc (Line t) (Line u) Nothing = two_lines (λ x. last_joined x Nothing ≡ x) t u (λ _. refl) (λ _. refl)
join_assoc (Line t) (Line u) (Line v) = grind (arith, nat_tests)
join_assoc (Line t) (Line u) Unknown = two_lines (λ x. last_joined x Unknown ≡ Unknown) t u (λ _. refl) (λ _. refl)
join_assoc (Line t) Unknown z = refl
join_assoc Unknown y z = refl

join_idem : (x : LastLine) → last_joined x x ≡ x
join_idem Nothing = refl
join_idem (Line t) = two_lines (λ z. z ≡ Line t) t t (λ _. refl) (λ n. absurd (n refl))
join_idem Unknown = refl

join_neutral : (x : LastLine) → last_joined x Nothing ≡ x
join_neutral Nothing = refl
join_neutral (Line t) = refl
join_neutral Unknown = refl

join_sure : (x y : LastLine) (t : ℕ) → last_sure (last_joined x y) t ≡ (last_sure x t && last_sure y t)
join_sure Nothing y t = refl
join_sure (Line u) Nothing t = grind (arith, nat_tests)
join_sure (Line u) (Line v) t = two_lines (λ z. last_sure z t ≡ (u == t && v == t)) u v (λ e. grind (arith, nat_tests)) (λ n. grind (arith, nat_tests))
join_sure (Line u) Unknown t = grind (arith, nat_tests)
join_sure Unknown y t = refl

fetch_joined : (t : ℕ) (x y : LastLine) → last_fetched t (last_joined x y) ≡ last_joined (last_fetched t x) (last_fetched t y)
fetch_joined t Nothing y = refl
fetch_joined t (Line u) Nothing = refl
fetch_joined t (Line u) (Line v) =
    two_lines (λ z. last_fetched t z ≡ last_joined (Line t) (Line t)) u v (λ _. sym (join_idem (Line t))) (λ _. sym (join_idem (Line t)))
fetch_joined t (Line u) Unknown = sym (join_idem (Line t))
fetch_joined t Unknown Nothing = refl
fetch_joined t Unknown (Line v) = sym (join_idem (Line t))
fetch_joined t Unknown Unknown = sym (join_idem (Line t))

rank_most : (x : LastLine) → last_ranked x ≤ 2
rank_most Nothing = omega arith
rank_most (Line t) = omega arith
rank_most Unknown = omega arith

rank_falls : (x y : LastLine) → (last_joined x y ≡ x) ⊎ (last_ranked (last_joined x y) < last_ranked x)
rank_falls Nothing Nothing = inl refl
rank_falls Nothing (Line u) = inr (omega arith)
rank_falls Nothing Unknown = inr (omega arith)
rank_falls (Line t) Nothing = inl refl
rank_falls (Line t) (Line u) = two_lines (λ z. (z ≡ Line t) ⊎ (last_ranked z < 1)) t u (λ _. inl refl) (λ _. inr (omega arith))
rank_falls (Line t) Unknown = inr (omega arith)
rank_falls Unknown y = inl refl

module _ (g : Geometry) where
  same_alike : {x y : LastLine} → x ≡ y → Alike (last_kind g) x y
  same_alike {x} e = subst (λ z. Alike (last_kind g) x z) e (alike_self x)

  -- they are sure of the same only if they are the same
  alike_same : (x y : LastLine) → Alike (last_kind g) x y → x ≡ y
  alike_same Nothing Nothing e = refl
  alike_same Nothing (Line u) e = absurd (true≢false (e.same (suc u) ∙ ne_eqb u (suc u) (omega arith)))
  alike_same Nothing Unknown e = absurd (true≢false (e.same 0))
  alike_same (Line t) Nothing e = absurd (true≢false (sym (e.same (suc t)) ∙ ne_eqb t (suc t) (omega arith)))
  alike_same (Line t) (Line u) e = ap Line (sym (eqb-true u t (sym (e.same t) ∙ eq-eqb t t refl)))
  alike_same (Line t) Unknown e = absurd (true≢false (sym (eq-eqb t t refl) ∙ e.same t))
  alike_same Unknown Nothing e = absurd (true≢false (sym (e.same 0)))
  alike_same Unknown (Line u) e = absurd (true≢false (sym (eq-eqb u u refl) ∙ sym (e.same u)))
  alike_same Unknown Unknown e = refl

  join_wider : (x y : LastLine) (c : Cache) → last_allows g x c → last_allows g (last_joined x y) c
  join_wider Nothing y c h = absurd h
  join_wider (Line t) Nothing c h = h
  join_wider (Line t) (Line u) c h = two_lines (λ z. last_allows g z c) t u (λ _. h) (λ _. tt)
  join_wider (Line t) Unknown c h = tt
  join_wider Unknown y c h = tt

  sound : (x : LastLine) (t : ℕ) (c : Cache) → last_sure x t ≡ true → last_allows g x c → Resident g c t
  sound Nothing t c s h = absurd h
  sound (Line u) t c s h = subst (Resident g c) (eqb-true u t s) h
  sound Unknown t c s h = absurd (true≢false (sym s))

  pub fetch_through : (t : ℕ) → Through (last_kind g) (last_fetched t)
  fetch_through t = record {
    respects = λ x y e. same_alike (ap (last_fetched t) (alike_same x y e));
    distributes = record { spreads = λ x y. same_alike (fetch_joined t x y); keeps = alike_self Nothing };
  }

  pub pass_through : (b : ℕ) (block : Block) → Through (last_kind g) ((last_kind g).passed b block)
  pass_through b block = fetches_through last_fetched fetch_through (fetch_lines g block)

  pub last_lawful : Lawful (last_kind g)
  last_lawful = record {
    none = λ c h. h;
    every = λ c. tt;
    wider = join_wider;
    sound = sound;
    vacuous = λ t. refl;
    both = join_sure;
    level = λ x y e. ap last_ranked (alike_same x y e);
    joins = λ x x' y y' e f. same_alike (ap (λ z. last_joined z y) (alike_same x x' e) ∙ ap (last_joined x') (alike_same y y' f));
    passes = λ b block. (pass_through b block).respects;
    assoc = λ x y z. same_alike (join_assoc x y z);
    comm = λ x y. same_alike (join_comm x y);
    idem = λ x. same_alike (join_idem x);
    neutral = λ x. same_alike (join_neutral x);
    bounded = rank_most;
    low = omega arith;
    falls = λ x y. elim (rank_falls x y) [ inl e ↦ inl (same_alike e) | inr l ↦ inr l ];
  }

  module _ (pos : 0 < g.slots) where
    fetched_held : (t : ℕ) (c : Cache) → length c ≡ g.slots → Resident g (fetch_cache g t c) t
    fetched_held t c len = get_or-set_same c (slot_of g t) t empty (let b = mod-lt t pos in omega arith)

    follows : (t : ℕ) (x : LastLine) (c : Cache) → length c ≡ g.slots → last_allows g x c → last_allows g (last_fetched t x) (fetch_cache g t c)
    follows t Nothing c len h = h
    follows t (Line u) c len h = fetched_held t c len
    follows t Unknown c len h = fetched_held t c len

    pub last_fetching : Fetching g (last_kind g) last_fetched
    last_fetching = record {
      held = λ c t. (λ h. h, λ h. h);
      follows = follows;
      fetches = λ t. (fetch_through t).respects;
      passing = λ b block x. refl;
    }

-- every geometry of a record is taken
pub last_everywhere : (g : Geometry) → in_range g ≡ true → last_taken g ≡ true
last_everywhere g e = grind (arith, nat_tests)
