-- Numbers among those of a list.
use Rattle.std.proofs.Common.{◌≡◌, ℕ, zero, suc, ◌+◌, ◌-◌, ◌<◌, ◌≤◌, Bool, true, false, ◌⊎◌, List, [], ◌∷◌, ◌++◌, map, length, sym, refl, ap, ◌∙◌, subst, inl, inr, arith}
use Rattle.std.specs.List.{range_with_len, list_all}
use Rattle.std.proofs.lemmas.Bool.{cases_Bool, cases_eq, and_parts, and_from}
use Rattle.records.specs.declared.parts.Loop.{Loop}
use Rattle.records.specs.declared.parts.Edge.{Edge}
use Rattle.records.specs.Contents.{Contents}
use Rattle.task.specs.Graph.{block_at, edge_at, Within}
use Rattle.walks.specs.Walk.{Among}
use Rattle.facts.specs.Settling.{starts, blocks_of}
use Rattle.cache_state.specs.Cache.{fetch_line}
use Rattle.run.specs.Run.{lines_of}
use Rattle.categories.specs.Category.{fetches_of, line_of}
use Rattle.categories.specs.Costs.{passing}

pub all-at : (test : ℕ → Bool) (xs : List ℕ) (x : ℕ) → list_all test xs ≡ true → Among x xs → test x ≡ true
all-at test [] x e m = absurd m
all-at test (y ∷ xs) x e (inl q) = ap test q ∙ (and_parts (test y) (list_all test xs) e).0
all-at test (y ∷ xs) x e (inr m) = all-at test xs x (and_parts (test y) (list_all test xs) e).1 m

pub all_from : (test : ℕ → Bool) (xs : List ℕ) → ((x : ℕ) → Among x xs → test x ≡ true) → list_all test xs ≡ true
all_from test [] h = refl
all_from test (y ∷ xs) h = and_from (test y) (list_all test xs) (h y (inl refl)) (all_from test xs (λ x m. h x (inr m)))

pub among_left : (x : ℕ) (xs ys : List ℕ) → Among x xs → Among x (xs ++ ys)
among_left x [] ys m = absurd m
among_left x (y ∷ xs) ys (inl e) = inl e
among_left x (y ∷ xs) ys (inr m) = inr (among_left x xs ys m)

pub among_right : (x : ℕ) (xs ys : List ℕ) → Among x ys → Among x (xs ++ ys)
among_right x [] ys m = m
among_right x (y ∷ xs) ys m = inr (among_right x xs ys m)

pub among_append : (x : ℕ) (xs ys : List ℕ) → Among x (xs ++ ys) → Among x xs ⊎ Among x ys
among_append x [] ys m = inr m
among_append x (y ∷ xs) ys (inl e) = inl (inl e)
among_append x (y ∷ xs) ys (inr m) = elim (among_append x xs ys m) [ inl q ↦ inl (inr q) | inr q ↦ inr q ]

pub among_map : (f : ℕ → ℕ) (xs : List ℕ) (x : ℕ) → Among x xs → Among (f x) (map f xs)
among_map f [] x m = absurd m
among_map f (y ∷ xs) x (inl e) = inl (ap f e)
among_map f (y ∷ xs) x (inr m) = inr (among_map f xs x m)

pub map_among : (f : ℕ → ℕ) (xs : List ℕ) (y : ℕ) → Among y (map f xs) → (x : ℕ) × Among x xs × (y ≡ f x)
map_among f [] y m = absurd m
map_among f (x ∷ xs) y (inl e) = (x, inl refl, e)
map_among f (x ∷ xs) y (inr m) = let r = map_among f xs y m in (r.0, inr r.1, r.2)

pub among_counting : (a n x : ℕ) → a ≤ x → x < a + n → Among x (range_with_len a n)
among_counting a zero x h l = absurd (omega arith)
among_counting a (suc n) x h l = elim (cases_eq x a) [ inl e ↦ inl e | inr e ↦ inr (among_counting (a + 1) n x (omega arith) (omega arith)) ]

pub counting_among : (a n x : ℕ) → Among x (range_with_len a n) → (a ≤ x) × (x < a + n)
counting_among a zero x m = absurd m
counting_among a (suc n) x (inl e) = (omega arith, omega arith)
counting_among a (suc n) x (inr m) = let r = counting_among (a + 1) n x m in (omega arith, omega arith)

-- the blocks of a loop
pub among_blocks : (l : Loop) (b : ℕ) → Within l b → Among b (blocks_of l)
among_blocks l b h = among_counting l.header (suc l.last - l.header) b h.0 (omega arith)

pub blocks_among : (l : Loop) (b : ℕ) → Among b (blocks_of l) → Within l b
blocks_among l b m = let r = counting_among l.header (suc l.last - l.header) b m in (r.0, omega arith)

-- the lines of a block
pub among_lines : (c : Contents) (b j : ℕ) → j < fetches_of c b → Among (line_of c b j) (lines_of c b)
among_lines c b j h =
    among_map (fetch_line c.header.geometry (block_at c.blocks b)) (range_with_len 0 (fetches_of c b)) j
    (among_counting 0 (fetches_of c b) j (omega arith) (omega arith))

pub lines_among : (c : Contents) (b t : ℕ) → Among t (lines_of c b) → (j : ℕ) × (j < fetches_of c b) × (t ≡ line_of c b j)
lines_among c b t m =
    let r = map_among (fetch_line c.header.geometry (block_at c.blocks b)) (range_with_len 0 (fetches_of c b)) t m in
    let q = counting_among 0 (fetches_of c b) r.0 r.1 in
    (r.0, omega arith, r.2)

-- where the edges start that pass a test
module _ (test : Edge → Bool) (e : Edge) (es : List Edge) where
  pub starts_yes : test e ≡ true → starts test (e ∷ es) ≡ e.from ∷ starts test es
  starts_yes q = rw (q, starts)

  pub starts_no : test e ≡ false → starts test (e ∷ es) ≡ starts test es
  starts_no q = rw (q, starts)

pub among_starts : (test : Edge → Bool) (es : List Edge) (k : ℕ) → k < length es → test (edge_at es k) ≡ true → Among (edge_at es k).from (starts test es)
among_starts test [] k h q = absurd (omega arith)
among_starts test (e ∷ es) zero h q = subst (Among e.from) (sym (starts_yes test e es q)) (inl refl)
among_starts test (e ∷ es) (suc k) h q =
    let r = among_starts test es k (omega arith) q in
    elim (cases_Bool (test e)) [
      | inl t ↦ subst (Among (edge_at es k).from) (sym (starts_yes test e es t)) (inr r)
      | inr t ↦ subst (Among (edge_at es k).from) (sym (starts_no test e es t)) r
    ]

pub starts_among : (test : Edge → Bool) (es : List Edge) (x : ℕ) → Among x (starts test es)
    → (k : ℕ) × (k < length es) × (test (edge_at es k) ≡ true) × ((edge_at es k).from ≡ x)
starts_among test [] x m = absurd m
starts_among test (e ∷ es) x m = elim (cases_Bool (test e)) [
  | inl t ↦ elim (subst (Among x) (starts_yes test e es t) m) [
    | inl q ↦ (0, omega arith, t, sym q)
    | inr r ↦ (let z = starts_among test es x r in (suc z.0, omega (arith, z.1), z.2, z.3))
  ]
  | inr t ↦ (let z = starts_among test es x (subst (Among x) (starts_no test e es t) m) in (suc z.0, omega (arith, z.1), z.2, z.3))
]

-- the numbers that pass a test
module _ (test : ℕ → Bool) (x : ℕ) (xs : List ℕ) where
  pub passing_yes : test x ≡ true → passing test (x ∷ xs) ≡ x ∷ passing test xs
  passing_yes q = rw (q, passing)

  pub passing_no : test x ≡ false → passing test (x ∷ xs) ≡ passing test xs
  passing_no q = rw (q, passing)

pub among_passing : (test : ℕ → Bool) (xs : List ℕ) (x : ℕ) → Among x xs → test x ≡ true → Among x (passing test xs)
among_passing test [] x m e = absurd m
among_passing test (y ∷ xs) x (inl q) e = subst (Among x) (sym (passing_yes test y xs (ap test (sym q) ∙ e))) (inl q)
among_passing test (y ∷ xs) x (inr m) e =
    let r = among_passing test xs x m e in
    elim (cases_Bool (test y)) [
      | inl t ↦ subst (Among x) (sym (passing_yes test y xs t)) (inr r)
      | inr t ↦ subst (Among x) (sym (passing_no test y xs t)) r
    ]

pub passing_among : (test : ℕ → Bool) (xs : List ℕ) (x : ℕ) → Among x (passing test xs) → Among x xs × (test x ≡ true)
passing_among test [] x m = absurd m
passing_among test (y ∷ xs) x m = elim (cases_Bool (test y)) [
  | inl t ↦ elim (subst (Among x) (passing_yes test y xs t) m) [
    | inl e ↦ (inl e, ap test e ∙ t)
    | inr q ↦ (let r = passing_among test xs x q in (inr r.0, r.1))
  ]
  | inr t ↦ (let r = passing_among test xs x (subst (Among x) (passing_no test y xs t) m) in (inr r.0, r.1))
]
