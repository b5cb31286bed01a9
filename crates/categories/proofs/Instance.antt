-- The premises of the theorems can be met: by a worked record, with a kind of cache state that knows nothing.
use Rattle.std.proofs.Common.{◌≡◌, ℕ, zero, suc, ◌<◌, ◌≤◌, Bool, true, false, cond, ◌&&◌, ltb, ◌⊎◌, List, [], ◌∷◌, sym, refl, ap, ◌∙◌, subst, ap₂, inl, inr, arith, lit<, lit≤}
use Rattle.std.proofs.lemmas.Bool.{false≢true, cases_eq, ltb-true, lt-ltb}
use Rattle.records.specs.declared.parts.Geometry.{Geometry}
use Rattle.records.specs.declared.parts.Block.{Block}
use Rattle.records.specs.declared.parts.Loop.{Loop}
use Rattle.records.specs.Contents.{Contents}
use Rattle.task.specs.Graph.{block_at, loop_at, Within, Leads}
use Rattle.task.specs.Rules.{HeadsAround}
use Rattle.task.specs.Laws.{Laws, Climbs, here, on}
use Rattle.walks.specs.Walk.{Walk, all_loops, Among}
use Rattle.facts.specs.Kind.{Situation, Kind}
use Rattle.facts.specs.Laws.{Alike, Lawful, Distributes}
use Rattle.facts.specs.Settling.{state_at, task_states, first_states}
use Rattle.facts.specs.Meaning.{walk_state, Standing, StandingFirst, Least}
use Rattle.cache_state.specs.Cache.{Resident, fetch_lines, fetch_cache, fetch_all}
use Rattle.cache_state.specs.Fetching.{Fetching}
use Rattle.categories.specs.Category.{marks_of}
use Rattle.categories.specs.Meaning.{PassedExactly, Settled, KeptAlways, CoveredAlways}
use Rattle.categories.proofs.Grounds.{Grounds}
use Rattle.categories.proofs.Kept.{kept_always}
use Rattle.categories.proofs.Cover.{covered_always}
use Rattle.categories.proofs.Worked.{record_b}

-- The states: nothing_yet is true, and open is false.
abbrev ignorant_allows : Bool → Situation → Type 0
ignorant_allows true s = ⊥
ignorant_allows false s = Unit {0}

abbrev unmoved : ℕ → Bool → Bool
unmoved t x = x

abbrev ignorant : Geometry → Kind Bool
ignorant g = record {
  allows = ignorant_allows;
  has = Resident g;
  sure = λ x t. x;
  joined = λ x y. x && y;
  ranked = λ x. cond x 1 0;
  height = 1;
  nothing_yet = true;
  open_state = false;
  passed = λ _ block x. fetch_all unmoved (fetch_lines g block) x;
}

unmoved-all : (ts : List ℕ) (x : Bool) → fetch_all unmoved ts x ≡ x
unmoved-all [] x = refl
unmoved-all (t ∷ ts) x = unmoved-all ts x

module _ (g : Geometry) where
  alike_same : {x y : Bool} → x ≡ y → Alike (ignorant g) x y
  alike_same e = record {
    to = λ s a. subst (λ z. ignorant_allows z s) e a;
    fro = λ s a. subst (λ z. ignorant_allows z s) (sym e) a;
    same = λ t. e;
  }

  same_alike : {x y : Bool} → Alike (ignorant g) x y → x ≡ y
  same_alike a = a.same 0

  assoc : (x y z : Bool) → ((x && y) && z) ≡ (x && (y && z))
  assoc true y z = refl
  assoc false y z = refl

  comm : (x y : Bool) → (x && y) ≡ (y && x)
  comm true true = refl
  comm true false = refl
  comm false true = refl
  comm false false = refl

  idem : (x : Bool) → (x && x) ≡ x
  idem true = refl
  idem false = refl

  neutral : (x : Bool) → (x && true) ≡ x
  neutral true = refl
  neutral false = refl

  wider : (x y : Bool) (s : Situation) → ignorant_allows x s → ignorant_allows (x && y) s
  wider true y s a = absurd a
  wider false y s a = a

  sound : (x : Bool) (t : ℕ) (s : Situation) → x ≡ true → ignorant_allows x s → Resident g s t
  sound true t s e a = absurd a
  sound false t s e a = absurd (false≢true e)

  bounded : (x : Bool) → cond x 1 0 ≤ 1
  bounded true = lit≤ tt
  bounded false = lit≤ tt

  falls : (x y : Bool) → Alike (ignorant g) (x && y) x ⊎ (cond (x && y) 1 0 < cond x 1 0)
  falls true true = inl (alike_same refl)
  falls true false = inr (lit< tt)
  falls false y = inl (alike_same refl)

  lawful : Lawful (ignorant g)
  lawful = record {
    none = λ s a. a;
    every = λ s. tt;
    wider = wider;
    sound = sound;
    vacuous = λ t. refl;
    both = λ x y t. refl;
    level = λ x y a. ap (λ z. cond z 1 0) (same_alike a);
    joins = λ x x' y y' a b. alike_same (ap₂ (λ u v. u && v) (same_alike a) (same_alike b));
    passes = λ b block x y a. alike_same (unmoved-all (fetch_lines g block) x ∙ same_alike a ∙ sym (unmoved-all (fetch_lines g block) y));
    assoc = λ x y z. alike_same (assoc x y z);
    comm = λ x y. alike_same (comm x y);
    idem = λ x. alike_same (idem x);
    neutral = λ x. alike_same (neutral x);
    bounded = bounded;
    low = lit≤ tt;
    falls = falls;
  }

  follows : (x : Bool) (s s' : Situation) → ignorant_allows x s → ignorant_allows x s'
  follows true s s' a = a
  follows false s s' a = a

  fetching : Fetching g (ignorant g) unmoved
  fetching = record { held = λ cache t. (λ h. h, λ h. h); follows = λ t x cache len a. follows x cache (fetch_cache g t cache) a; fetches = λ t x y a. a; passing = λ b block x. refl }

  unmoved_distributes : (t : ℕ) → Distributes (ignorant g) (unmoved t)
  unmoved_distributes t = record { spreads = λ x y. alike_same refl; keeps = alike_same refl }

  walk_open : (bs : List Block) (w : List ℕ) → walk_state (ignorant g) bs w ≡ false
  walk_open bs [] = refl
  walk_open bs (p ∷ w) = unmoved-all (fetch_lines g (block_at bs p)) (walk_state (ignorant g) bs w) ∙ walk_open bs w

  least_open : (W : Bool → Type 0) → ((y : Bool) → W y → y ≡ false) → W false → Least (ignorant g) W false
  least_open W only w = record {
    above = λ y m. alike_same refl;
    least = λ z f. f false w;
    sure = λ h through t. (λ s y m. subst (λ z. h z ≡ true) (sym (only y m)) s, λ f. f false w);
  }

abbrev c : Contents
c = record_b

abbrev k : Kind Bool
k = ignorant c.header.geometry

four : (P : ℕ → Type 0) → P 0 → P 1 → P 2 → P 3 → (n : ℕ) → n < 4 → P n
four P w x y z zero h = w
four P w x y z (suc zero) h = x
four P w x y z (suc (suc zero)) h = y
four P w x y z (suc (suc (suc zero))) h = z
four P w x y z (suc (suc (suc (suc n)))) h = absurd (omega arith)

by_edges : (P : ℕ → ℕ → Type 0) → P 0 1 → P 1 2 → P 2 1 → P 2 3 → (p b : ℕ) → Leads c.edges p b → P p b
by_edges P w x y z p b (zero, h, e, f) = subst (λ q. P q b) e (subst (P 0) f w)
by_edges P w x y z p b (suc zero, h, e, f) = subst (λ q. P q b) e (subst (P 1) f x)
by_edges P w x y z p b (suc (suc zero), h, e, f) = subst (λ q. P q b) e (subst (P 2) f y)
by_edges P w x y z p b (suc (suc (suc zero)), h, e, f) = subst (λ q. P q b) e (subst (P 2) f z)
by_edges P w x y z p b (suc (suc (suc (suc n))), h, e, f) = absurd (omega arith)

edge01 : Leads c.edges 0 1
edge01 = (0, lit< tt, refl, refl)

edge12 : Leads c.edges 1 2
edge12 = (1, lit< tt, refl, refl)

edge21 : Leads c.edges 2 1
edge21 = (2, lit< tt, refl, refl)

edge23 : Leads c.edges 2 3
edge23 = (3, lit< tt, refl, refl)

entered_B : (i p b : ℕ) → i < 1 → Leads c.edges p b → Within (loop_at c.loops i) b → (Within (loop_at c.loops i) p → ⊥)
    → (b ≡ (loop_at c.loops i).header) × (p < b)
entered_B zero p b h = by_edges (λ q d. Within (loop_at c.loops 0) d → (Within (loop_at c.loops 0) q → ⊥) → (d ≡ 1) × (q < d))
    (λ m n. (refl, lit< tt)) (λ m n. absurd (n (lit≤ tt, lit≤ tt))) (λ m n. absurd (n (lit≤ tt, lit≤ tt))) (λ m n. absurd (n (lit≤ tt, lit≤ tt))) p b
entered_B (suc i) p b h = absurd (omega arith)

climb_in : (i b : ℕ) → i < 1 → Within (loop_at c.loops i) b → Climbs c.edges (Within (loop_at c.loops i)) (loop_at c.loops i).header b
climb_in zero zero h m = absurd (omega (arith, m.0))
climb_in zero (suc zero) h m = here (lit≤ tt, lit≤ tt)
climb_in zero (suc (suc zero)) h m = on (here (lit≤ tt, lit≤ tt)) (lit< tt) edge12 (lit≤ tt, lit≤ tt)
climb_in zero (suc (suc (suc b))) h m = absurd (omega (arith, m.1))
climb_in (suc i) b h m = absurd (omega arith)

repeats_B : (i : ℕ) → i < 1 → (p : ℕ) × Leads c.edges p (loop_at c.loops i).header × Within (loop_at c.loops i) p
repeats_B zero h = (2, edge21, (lit≤ tt, lit≤ tt))
repeats_B (suc i) h = absurd (omega arith)

pub laws_B : Laws c
laws_B = record {
  entered = entered_B;
  back = by_edges (λ p b. b ≤ p → HeadsAround c.loops b p) (λ h. absurd (omega arith)) (λ h. absurd (omega arith))
      (λ h. (0, lit< tt, refl, (lit≤ tt, lit≤ tt))) (λ h. absurd (omega arith));
  nested = λ i j h l. absurd (omega arith);
  reached = four (Climbs c.edges (λ _. Unit {0}) 0) (here tt) (on (here tt) (lit< tt) edge01 tt)
      (on (on (here tt) (lit< tt) edge01 tt) (lit< tt) edge12 tt)
      (on (on (on (here tt) (lit< tt) edge01 tt) (lit< tt) edge12 tt) (lit< tt) edge23 tt);
  climbed = climb_in;
  repeats = λ i h many. repeats_B i h;
  shallow = four _ (lit≤ tt, lit≤ tt) (lit≤ tt, lit≤ tt) (lit≤ tt, lit≤ tt) (lit≤ tt, lit≤ tt);
}

walk1 : Walk c.edges 0 (0 ∷ []) 1
walk1 = (refl, edge01)

walk2 : Walk c.edges 0 (1 ∷ 0 ∷ []) 2
walk2 = (walk1, edge12)

walk3 : Walk c.edges 0 (2 ∷ 1 ∷ 0 ∷ []) 3
walk3 = (walk2, edge23)

-- every walk to block x has passed just the blocks below x
below_passed : (w : List ℕ) (x b : ℕ) → Walk c.edges 0 w x → b < x → Among b w
below_passed [] x b e h = absurd (omega arith)
below_passed (p ∷ w) x b m h = elim (cases_eq b p) [
  | inl e ↦ inl e
  | inr ne ↦ inr (below_passed w p b m.0
      (by_edges (λ q d. b < d → (b ≡ q → ⊥) → b < q) (λ l n. absurd (n (omega arith))) (λ l n. omega arith) (λ l n. omega arith) (λ l n. omega arith) p x m.1 h ne))
]

passed_below : (b : ℕ) → (x : ℕ) → x < 4 → ((w : List ℕ) → Walk c.edges 0 w x → Among b w) → b < x
passed_below b = four (λ x. ((w : List ℕ) → Walk c.edges 0 w x → Among b w) → b < x)
    (λ f. absurd (f [] refl))
    (λ f. elim (f (0 ∷ []) walk1) [ inl e ↦ omega arith | inr z ↦ absurd z ])
    (λ f. elim (f (1 ∷ 0 ∷ []) walk2) [ inl e ↦ omega arith | inr (inl e) ↦ omega arith | inr (inr z) ↦ absurd z ])
    (λ f. elim (f (2 ∷ 1 ∷ 0 ∷ []) walk3) [ inl e ↦ omega arith | inr (inl e) ↦ omega arith | inr (inr (inl e)) ↦ omega arith | inr (inr (inr z)) ↦ absurd z ])

abbrev passed : ℕ → ℕ → Bool
passed x b = ltb b x

gates_B : PassedExactly passed c
gates_B x b small h = (λ e w m. below_passed w x b m (ltb-true b x e), λ f. lt-ltb b x (passed_below b x small f))

only_open : (b : ℕ) (y : Bool) → Standing k c b y → y ≡ false
only_open b y m = m.2 ∙ walk_open c.header.geometry c.blocks m.0

only_first : (l : Loop) (b : ℕ) (y : Bool) → StandingFirst k c l b y → y ≡ false
only_first l b y m = m.3 ∙ walk_open c.header.geometry c.blocks m.0

exact_whole : (b : ℕ) → b < 4 → Least k (Standing k c b) (state_at k (task_states k c).0 b)
exact_whole = four (λ b. Least k (Standing k c b) (state_at k (task_states k c).0 b))
    (least_open c.header.geometry (Standing k c 0) (only_open 0) ([], refl, refl))
    (least_open c.header.geometry (Standing k c 1) (only_open 1) (0 ∷ [], walk1, refl))
    (least_open c.header.geometry (Standing k c 2) (only_open 2) (1 ∷ 0 ∷ [], walk2, refl))
    (least_open c.header.geometry (Standing k c 3) (only_open 3) (2 ∷ 1 ∷ 0 ∷ [], walk3, refl))

abbrev FirstExact : ℕ → ℕ → Type 0
FirstExact i b = Least k (StandingFirst k c (loop_at (all_loops c) i) b) (state_at k (first_states k c (loop_at (all_loops c) i)).0 b)

exact_first : (i b : ℕ) → i < 2 → Within (loop_at (all_loops c) i) b → FirstExact i b
exact_first zero b h m = four (FirstExact 0)
    (least_open c.header.geometry (StandingFirst k c (loop_at (all_loops c) 0) 0) (only_first (loop_at (all_loops c) 0) 0) ([], refl, refl, refl))
    (least_open c.header.geometry (StandingFirst k c (loop_at (all_loops c) 0) 1) (only_first (loop_at (all_loops c) 0) 1) (0 ∷ [], walk1, refl, refl))
    (least_open c.header.geometry (StandingFirst k c (loop_at (all_loops c) 0) 2) (only_first (loop_at (all_loops c) 0) 2) (1 ∷ 0 ∷ [], walk2, refl, refl))
    (least_open c.header.geometry (StandingFirst k c (loop_at (all_loops c) 0) 3) (only_first (loop_at (all_loops c) 0) 3) (2 ∷ 1 ∷ 0 ∷ [], walk3, refl, refl))
    b (omega (arith, m.1))
exact_first (suc zero) zero h m = absurd (omega (arith, m.0))
exact_first (suc zero) (suc zero) h m =
    least_open c.header.geometry (StandingFirst k c (loop_at (all_loops c) 1) 1) (only_first (loop_at (all_loops c) 1) 1) (0 ∷ [], walk1, refl, refl)
exact_first (suc zero) (suc (suc zero)) h m =
    least_open c.header.geometry (StandingFirst k c (loop_at (all_loops c) 1) 2) (only_first (loop_at (all_loops c) 1) 2) (1 ∷ 0 ∷ [], walk2, refl, refl)
exact_first (suc zero) (suc (suc (suc b))) h m = absurd (omega (arith, m.1))
exact_first (suc (suc i)) b h m = absurd (omega arith)

pub settled_B : Settled k passed c
settled_B = record { format = refl; laws = laws_B; exact = record { whole = exact_whole; first = exact_first }; gates = gates_B }

grounds_B : Grounds k unmoved passed c
grounds_B = record {
  settled = settled_B;
  lawful = lawful c.header.geometry;
  fetching = fetching c.header.geometry;
  distributes = unmoved_distributes c.header.geometry;
}

-- the theorems at the worked record
pub kept_B : KeptAlways c (marks_of k unmoved c passed)
kept_B = kept_always k unmoved passed c grounds_B

pub covered_B : CoveredAlways c (marks_of k unmoved c passed)
covered_B = covered_always k unmoved passed c grounds_B
