-- The slot kind keeps the laws of a kind of cache state.
use Rattle.std.specs.Prelude.{◌≡◌, ℕ, suc, ◌+◌, ◌<◌, ◌≤◌, true, cond, not, ◌&&◌, ◌⊎◌, List, Some, None, Option, map, length, ◌==◌, ◌≢◌, nat_le, slice_index_or, refl}
use Rattle.std.proofs.Common.{sym, ap, ap₂, subst, ◌∙◌, inl, inr, mod-lt, arith}
use Rattle.std.specs.List.{range_with_len}
use Rattle.std.proofs.lemmas.List.FromFn.{get_or-map-range_with_len}
use Rattle.std.proofs.lemmas.List.{get_or-set_same, get_or-set_other, get_or-replicate}
use Rattle.std.proofs.lemmas.Bool.{cases_eq, eqb-true, eqb-false, eq-eqb, ne_eqb, and_parts, not-true, cond-true, cond-false, leb-true}
use Rattle.std.proofs.lemmas.Bool.Decides.{nat_tests}
use Rattle.records.specs.declared.parts.Geometry.{Geometry}
use Rattle.records.specs.declared.parts.Block.{Block}
use Rattle.facts.specs.Laws.{Alike, Lawful, Distributing, Through}
use Rattle.facts.proofs.Order.{alike_self}
use Rattle.cache_state.specs.Cache.{Cache, Resident, empty, slot_of, fetch_cache, fetch_lines, in_range}
use Rattle.cache_state.specs.Fetching.{Fetching}
use Rattle.cache_state.proofs.Fetches.{fetches_through}
use Rattle.slot_kind.specs.Slots.{line_in, agreed, common_lines, stored_line, slots_allow, slots_sure, slots_joined, slots_ranked, lines_fetched, holding, slots_fetched, slots_taken, slot_kind}
use Rattle.slot_kind.specs.Lines.{agreed_comm, agreed_idem, agreed_assoc, agreed_cases, agreed_sure, agreed_stored, common_at, stored_at, known_most, known_same, known_falls}

-- the states know the same lines
abbrev pub Same : Geometry → Option (List ℕ) → Option (List ℕ) → Type 0
Same g None None = Unit {0}
Same g None (Some b) = ⊥
Same g (Some a) None = ⊥
Same g (Some a) (Some b) = (i : ℕ) → i < g.slots → line_in a i ≡ line_in b i

pub same_self : (g : Geometry) (x : Option (List ℕ)) → Same g x x
same_self g None = tt
same_self g (Some a) = λ i l. refl

-- a cache that the second state allows, and the first does not if it knows more of slot i
abbrev against : Geometry → List ℕ → List ℕ → ℕ → ℕ → ℕ
against g a b i j = cond (line_in b j == empty) (suc (line_in a i)) (line_in b j)

knows_less : (g : Geometry) (a b : List ℕ) → ((c : Cache) → slots_allow g (Some b) c → slots_allow g (Some a) c)
    → (i : ℕ) → i < g.slots → (line_in a i ≢ empty) → line_in b i ≡ line_in a i
knows_less g a b h i l ne =
    let c : Cache = map (against g a b i) (range_with_len 0 g.slots) in
    let at : (j : ℕ) → j < g.slots → slice_index_or c j empty ≡ against g a b i j =
    λ j m. get_or-map-range_with_len (against g a b i) 0 g.slots j j empty m (omega arith) in
    let r : against g a b i i ≡ line_in a i =
    sym (at i l) ∙ h c (λ j m nj. at j m ∙ cond-false (line_in b j == empty) (suc (line_in a i)) (line_in b j) (ne_eqb (line_in b j) empty nj)) i l ne in
    grind (arith, nat_tests)

pub alike_same : (g : Geometry) (x y : Option (List ℕ)) → Alike (slot_kind g) (holding x) (holding y) → Same g x y
alike_same g None None e = tt
alike_same g None (Some b) e = e.fro b (λ i l ne. refl)
alike_same g (Some a) None e = e.to a (λ i l ne. refl)
alike_same g (Some a) (Some b) e = λ i l. elim (cases_eq (line_in a i) empty) [
  | inr ne ↦ sym (knows_less g a b e.fro i l ne)
  | inl z ↦ elim (cases_eq (line_in b i) empty) [ inl w ↦ z ∙ sym w | inr ne ↦ knows_less g b a e.to i l ne ]
]

module _ (g : Geometry) (pos : 0 < g.slots) where
  slot_below : (t : ℕ) → slot_of g t < g.slots
  slot_below t = mod-lt t pos

  pub same_alike : (x y : Option (List ℕ)) → Same g x y → Alike (slot_kind g) (holding x) (holding y)
  same_alike None None e = alike_self (holding None)
  same_alike None (Some b) e = absurd e
  same_alike (Some a) None e = absurd e
  same_alike (Some a) (Some b) e = record {
    to = λ c h i l ne. h i l (λ z. ne (sym (e i l) ∙ z)) ∙ e i l;
    fro = λ c h i l ne. h i l (λ z. ne (e i l ∙ z)) ∙ sym (e i l);
    same = λ t. ap (λ u. (u == t) && not (t == empty)) (e (slot_of g t) (slot_below t));
  }

  sound : (x : Option (List ℕ)) (t : ℕ) (c : Cache) → slots_sure g x t ≡ true → slots_allow g x c → Resident g c t
  sound None t c s h = absurd h
  sound (Some a) t c s h =
      let p = and_parts (line_in a (slot_of g t) == t) (not (t == empty)) s in
      let e : line_in a (slot_of g t) ≡ t = eqb-true (line_in a (slot_of g t)) t p.0 in
      h (slot_of g t) (slot_below t) (λ z. eqb-false t empty (not-true (t == empty) p.1) (sym e ∙ z)) ∙ e

  -- after a fetch the state allows the cache as the fetch leaves it
  pub follows : (t : ℕ) (x : Option (List ℕ)) (c : Cache) → length c ≡ g.slots → slots_allow g x c → slots_allow g (lines_fetched g t x) (fetch_cache g t c)
  follows t None c len h = h
  follows t (Some a) c len h = λ i l ne. elim (cases_eq i (slot_of g t)) [
    | inl e ↦ subst (λ s. slice_index_or (fetch_cache g t c) s empty ≡ t) (sym e)
        (get_or-set_same c (slot_of g t) t empty (let b = slot_below t in omega arith))
        ∙ sym (stored_at a (slot_of g t) t i ∙ cond-true (i == slot_of g t) t (line_in a i) (eq-eqb i (slot_of g t) e))
    | inr e ↦ (let f = stored_at a (slot_of g t) t i ∙ cond-false (i == slot_of g t) t (line_in a i) (ne_eqb i (slot_of g t) e) in
        get_or-set_other c (slot_of g t) i t empty e ∙ h i l (λ z. ne (f ∙ z)) ∙ sym f)
  ]

join_sure : (g : Geometry) (x y : Option (List ℕ)) (t : ℕ) → slots_sure g (slots_joined x y) t ≡ (slots_sure g x t && slots_sure g y t)
join_sure g None y t = refl
join_sure g (Some a) None t = grind (arith, nat_tests)
join_sure g (Some a) (Some b) t =
    ap (λ u. (u == t) && not (t == empty)) (common_at a b (slot_of g t)) ∙ agreed_sure (line_in a (slot_of g t)) (line_in b (slot_of g t)) t

join_wider : (g : Geometry) (x y : Option (List ℕ)) (c : Cache) → slots_allow g x c → slots_allow g (slots_joined x y) c
join_wider g None y c h = absurd h
join_wider g (Some a) None c h = h
join_wider g (Some a) (Some b) c h = λ i l ne. elim (agreed_cases (line_in a i) (line_in b i)) [
  | inl e ↦ h i l (λ z. ne (common_at a b i ∙ e ∙ z)) ∙ sym (common_at a b i ∙ e)
  | inr e ↦ absurd (ne (common_at a b i ∙ e))
]

join_comm : (g : Geometry) (x y : Option (List ℕ)) → Same g (slots_joined x y) (slots_joined y x)
join_comm g None None = tt
join_comm g None (Some b) = λ i l. refl
join_comm g (Some a) None = λ i l. refl
join_comm g (Some a) (Some b) = λ i l. common_at a b i ∙ agreed_comm (line_in a i) (line_in b i) ∙ sym (common_at b a i)

join_assoc : (g : Geometry) (x y z : Option (List ℕ)) → Same g (slots_joined (slots_joined x y) z) (slots_joined x (slots_joined y z))
join_assoc g None y z = same_self g (slots_joined y z)
join_assoc g (Some a) None z = same_self g (slots_joined (Some a) z)
join_assoc g (Some a) (Some b) None = λ i l. refl
join_assoc g (Some a) (Some b) (Some d) = λ i l.
    common_at (common_lines a b) d i ∙ ap (λ u. agreed u (line_in d i)) (common_at a b i) ∙ agreed_assoc (line_in a i) (line_in b i) (line_in d i)
    ∙ sym (common_at a (common_lines b d) i ∙ ap (agreed (line_in a i)) (common_at b d i))

join_idem : (g : Geometry) (x : Option (List ℕ)) → Same g (slots_joined x x) x
join_idem g None = tt
join_idem g (Some a) = λ i l. common_at a a i ∙ agreed_idem (line_in a i)

join_neutral : (g : Geometry) (x : Option (List ℕ)) → Same g (slots_joined x None) x
join_neutral g None = tt
join_neutral g (Some a) = λ i l. refl

join_same : (g : Geometry) (x x' y y' : Option (List ℕ)) → Same g x x' → Same g y y' → Same g (slots_joined x y) (slots_joined x' y')
join_same g None None y y' e f = f
join_same g None (Some a) y y' e f = absurd e
join_same g (Some a) None y y' e f = absurd e
join_same g (Some a) (Some a') None None e f = e
join_same g (Some a) (Some a') None (Some b) e f = absurd f
join_same g (Some a) (Some a') (Some b) None e f = absurd f
join_same g (Some a) (Some a') (Some b) (Some b') e f = λ i l.
    common_at a b i ∙ ap₂ agreed (e i l) (f i l) ∙ sym (common_at a' b' i)

fetch_same : (g : Geometry) (t : ℕ) (x y : Option (List ℕ)) → Same g x y → Same g (lines_fetched g t x) (lines_fetched g t y)
fetch_same g t None None e = tt
fetch_same g t None (Some b) e = absurd e
fetch_same g t (Some a) None e = absurd e
fetch_same g t (Some a) (Some b) e = λ i l.
    stored_at a (slot_of g t) t i ∙ ap (cond (i == slot_of g t) t) (e i l) ∙ sym (stored_at b (slot_of g t) t i)

fetch_joined : (g : Geometry) (t : ℕ) (x y : Option (List ℕ)) → Same g (lines_fetched g t (slots_joined x y)) (slots_joined (lines_fetched g t x) (lines_fetched g t y))
fetch_joined g t None y = same_self g (lines_fetched g t y)
fetch_joined g t (Some a) None = λ i l. refl
fetch_joined g t (Some a) (Some b) = λ i l.
    stored_at (common_lines a b) (slot_of g t) t i ∙ ap (cond (i == slot_of g t) t) (common_at a b i)
    ∙ agreed_stored i (slot_of g t) t (line_in a i) (line_in b i)
    ∙ sym (common_at (stored_line a (slot_of g t) t) (stored_line b (slot_of g t) t) i
    ∙ ap₂ agreed (stored_at a (slot_of g t) t i) (stored_at b (slot_of g t) t i))

rank_same : (g : Geometry) (x y : Option (List ℕ)) → Same g x y → slots_ranked g x ≡ slots_ranked g y
rank_same g None None e = refl
rank_same g None (Some b) e = absurd e
rank_same g (Some a) None e = absurd e
rank_same g (Some a) (Some b) e = known_same a b g.slots e

rank_most : (g : Geometry) (x : Option (List ℕ)) → slots_ranked g x ≤ g.slots + 1
rank_most g None = omega arith
rank_most g (Some a) = let r = known_most a g.slots in omega arith

rank_falls : (g : Geometry) (x y : Option (List ℕ)) → Same g (slots_joined x y) x ⊎ (slots_ranked g (slots_joined x y) < slots_ranked g x)
rank_falls g None None = inl tt
rank_falls g None (Some b) = let r = known_most b g.slots in inr (omega arith)
rank_falls g (Some a) None = inl (λ i l. refl)
rank_falls g (Some a) (Some b) = known_falls a (common_lines a b) g.slots (λ i l. elim (agreed_cases (line_in a i) (line_in b i))
    [ inl e ↦ inl (common_at a b i ∙ e) | inr e ↦ inr (common_at a b i ∙ e) ])

module _ (g : Geometry) (pos : 0 < g.slots) where
  pub fetch_through : (t : ℕ) → Through (slot_kind g) (slots_fetched g t)
  fetch_through t = record {
    respects = λ x y e. same_alike g pos (lines_fetched g t x.lines) (lines_fetched g t y.lines) (fetch_same g t x.lines y.lines (alike_same g x.lines y.lines e));
    distributes = record {
      spreads = λ x y. same_alike g pos (lines_fetched g t (slots_joined x.lines y.lines)) (slots_joined (lines_fetched g t x.lines) (lines_fetched g t y.lines))
          (fetch_joined g t x.lines y.lines);
      keeps = alike_self (holding None);
    };
  }

  pub pass_through : (b : ℕ) (block : Block) → Through (slot_kind g) ((slot_kind g).passed b block)
  pass_through b block = fetches_through (slots_fetched g) fetch_through (fetch_lines g block)

  pub slots_lawful : g.slots ≤ 64 → Lawful (slot_kind g)
  slots_lawful few = record {
    none = λ c h. h;
    every = λ c i l ne. absurd (ne (get_or-replicate 64 i empty empty (omega arith)));
    wider = λ x y. join_wider g x.lines y.lines;
    sound = λ x. sound g pos x.lines;
    vacuous = λ t. refl;
    both = λ x y. join_sure g x.lines y.lines;
    level = λ x y e. rank_same g x.lines y.lines (alike_same g x.lines y.lines e);
    joins = λ x x' y y' e f. same_alike g pos (slots_joined x.lines y.lines) (slots_joined x'.lines y'.lines)
        (join_same g x.lines x'.lines y.lines y'.lines (alike_same g x.lines x'.lines e) (alike_same g y.lines y'.lines f));
    passes = λ b block. (pass_through b block).respects;
    assoc = λ x y z. same_alike g pos (slots_joined (slots_joined x.lines y.lines) z.lines) (slots_joined x.lines (slots_joined y.lines z.lines)) (join_assoc g x.lines y.lines z.lines);
    comm = λ x y. same_alike g pos (slots_joined x.lines y.lines) (slots_joined y.lines x.lines) (join_comm g x.lines y.lines);
    idem = λ x. same_alike g pos (slots_joined x.lines x.lines) x.lines (join_idem g x.lines);
    neutral = λ x. same_alike g pos (slots_joined x.lines None) x.lines (join_neutral g x.lines);
    bounded = λ x. rank_most g x.lines;
    low = omega arith;
    falls = λ x y. elim (rank_falls g x.lines y.lines) [ inl e ↦ inl (same_alike g pos (slots_joined x.lines y.lines) x.lines e) | inr l ↦ inr l ];
  }

  pub slots_distributing : Distributing (slot_kind g)
  slots_distributing = λ b block. (pass_through b block).distributes

  pub slots_fetching : Fetching g (slot_kind g) (slots_fetched g)
  slots_fetching = record {
    held = λ c t. (λ h. h, λ h. h);
    follows = λ t x. follows g pos t x.lines;
    fetches = λ t. (fetch_through t).respects;
    passing = λ b block x. refl;
  }

pub slots_few : (g : Geometry) → slots_taken g ≡ true → (0 < g.slots) × (g.slots ≤ 64)
slots_few g e =
    let p = and_parts (nat_le 1 g.slots) (nat_le g.slots 64) e in
    (leb-true 1 g.slots p.0, leb-true g.slots 64 p.1)

-- every geometry of a record is taken
pub slots_everywhere : (g : Geometry) → in_range g ≡ true → slots_taken g ≡ true
slots_everywhere g e = grind (arith, nat_tests)
