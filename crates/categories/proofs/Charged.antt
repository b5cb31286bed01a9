-- The lines charged at a loop are listed, each once.
use Rattle.std.proofs.Common.{◌≡◌, ℕ, zero, suc, ◌<◌, ◌≤◌, true, false, not, ◌&&◌, eqb, ◌⊎◌, ◌↔◌, List, [], ◌∷◌, ◌++◌, map, length, get_or, sym, refl, ap, ◌∙◌, subst, inl, inr, arith}
use Rattle.std.specs.List.{range_with_len}
use Rattle.std.proofs.lemmas.List.{length_push, get_or_append_left, get_or_push}
use Rattle.std.proofs.lemmas.Bool.{cases_Bool, cases_lt, both_ways, eqb-true, eq-eqb, and_parts, and_from, or_cases, or_left, or_right, or_parts, or_from, and_left, and_right, not-true, not_from_false, false≢true}
use Rattle.records.specs.Contents.{Contents}
use Rattle.task.specs.Graph.{loop_at, within, Within}
use Rattle.walks.specs.Walk.{all_loops, Among}
use Rattle.facts.specs.Settling.{blocks_of}
use Rattle.categories.specs.declared.category.Category.{Category}
use Rattle.categories.specs.declared.category.Category.TheVariants.{AlwaysHit, FirstMiss, FirstHit, AlwaysMiss}
use Rattle.categories.specs.Category.{fetches_of, line_of, Marks}
use Rattle.categories.specs.Costs.{is_first_miss, passing, one_of_these, added, distinct, first_miss_before, charged_fetch, charged_lines, charged_at}
use Rattle.categories.specs.Meaning.{Charged, ChargedOnce}
use Rattle.categories.proofs.Lists.{among_left, among_right, among_append, among_map, map_among, among_counting, counting_among, among_blocks, blocks_among, among_passing, passing_among}
use Rattle.categories.proofs.Loops.{within_true, true_within}

one_among : (t : ℕ) (us : List ℕ) → one_of_these t us ≡ true → Among t us
one_among t [] e = absurd (false≢true e)
one_among t (u ∷ us) e = elim (or_cases (eqb t u) (one_of_these t us) e) [ inl q ↦ inl (eqb-true t u q) | inr q ↦ inr (one_among t us q) ]

among_one : (t : ℕ) (us : List ℕ) → Among t us → one_of_these t us ≡ true
among_one t [] m = absurd m
among_one t (u ∷ us) (inl e) = or_left (eqb t u) (one_of_these t us) (eq-eqb t u e)
among_one t (u ∷ us) (inr m) = or_right (eqb t u) (one_of_these t us) (among_one t us m)

module _ (seen : List ℕ) (t : ℕ) where
  pub added_yes : one_of_these t seen ≡ true → added seen t ≡ seen
  added_yes q = rw (q, added)

  pub added_no : one_of_these t seen ≡ false → added seen t ≡ seen ++ (t ∷ [])
  added_no q = rw (q, added)

  among_added : (u : ℕ) → Among u (added seen t) ↔ (Among u seen ⊎ (u ≡ t))
  among_added u = elim (cases_Bool (one_of_these t seen)) [
    | inl q ↦ (
      λ m. inl (subst (Among u) (added_yes q) m),
      λ m. subst (Among u) (sym (added_yes q)) (elim m [ inl s ↦ s | inr e ↦ subst (λ x. Among x seen) (sym e) (one_among t seen q) ]),
    )
    | inr q ↦ (
      λ m. elim (among_append u seen (t ∷ []) (subst (Among u) (added_no q) m)) [ inl s ↦ inl s | inr (inl e) ↦ inr e | inr (inr x) ↦ absurd x ],
      λ m. subst (Among u) (sym (added_no q)) (elim m [ inl s ↦ among_left u seen (t ∷ []) s | inr e ↦ among_right u seen (t ∷ []) (inl e) ]),
    )
  ]

among_distinct : (seen ts : List ℕ) (u : ℕ) → Among u (distinct seen ts) ↔ (Among u seen ⊎ Among u ts)
among_distinct seen [] u = (λ m. inl m, λ m. elim m [ inl s ↦ s | inr x ↦ absurd x ])
among_distinct seen (t ∷ ts) u =
    let r = among_distinct (added seen t) ts u in
    let a = among_added seen t u in (
      λ m. elim (r.0 m) [ inl s ↦ elim (a.0 s) [ inl x ↦ inl x | inr e ↦ inr (inl e) ] | inr x ↦ inr (inr x) ],
      λ m. r.1 (elim m [ inl s ↦ inl (a.1 (inl s)) | inr (inl e) ↦ inl (a.1 (inr e)) | inr (inr x) ↦ inr x ]),
    )

-- no number stands at two places
abbrev Once : List ℕ → Type 0
Once xs = (p q : ℕ) → p < q → q < length xs → get_or xs p 0 ≡ get_or xs q 0 → ⊥

get_d_among : (xs : List ℕ) (p : ℕ) → p < length xs → Among (get_or xs p 0) xs
get_d_among [] p h = absurd (omega arith)
get_d_among (x ∷ xs) zero h = inl refl
get_d_among (x ∷ xs) (suc p) h = inr (get_d_among xs p (omega arith))

once_push : (seen : List ℕ) (t : ℕ) → Once seen → (Among t seen → ⊥) → Once (seen ++ (t ∷ []))
once_push seen t once new p q less here e =
    let long = length_push seen t in
    let left = get_or_append_left seen (t ∷ []) 0 p (omega arith) in
    elim (cases_lt q (length seen)) [
      | inl inside ↦ once p q less inside (sym left ∙ e ∙ get_or_append_left seen (t ∷ []) 0 q inside)
      | inr end ↦
          new (subst (λ u. Among u seen) (sym left ∙ e ∙ get_or_push seen t 0 q (omega arith)) (get_d_among seen p (omega arith)))
    ]

once_added : (seen : List ℕ) (t : ℕ) → Once seen → Once (added seen t)
once_added seen t once = elim (cases_Bool (one_of_these t seen)) [
  | inl q ↦ subst Once (sym (added_yes seen t q)) once
  | inr q ↦ subst Once (sym (added_no seen t q)) (once_push seen t once (λ m. both_ways (one_of_these t seen) q (among_one t seen m)))
]

once_distinct : (seen ts : List ℕ) → Once seen → Once (distinct seen ts)
once_distinct seen [] once = once
once_distinct seen (t ∷ ts) once = once_distinct (added seen t) ts (once_added seen t once)

first_miss_is : (x : Category) → is_first_miss x ≡ true → x ≡ FirstMiss
first_miss_is AlwaysHit e = absurd (false≢true e)
first_miss_is FirstMiss e = refl
first_miss_is FirstHit e = absurd (false≢true e)
first_miss_is AlwaysMiss e = absurd (false≢true e)

module _ (c : Contents) (marks : Marks) where
  module _ (b j : ℕ) where
    -- further out, a first miss at none of the loops, or charged at one
    none_before : (n : ℕ) → first_miss_before c marks b j n ≡ false → (o : ℕ) → o < n → Within (loop_at (all_loops c) o) b → marks b j o ≡ FirstMiss → ⊥
    none_before zero e o less h m = omega arith
    none_before (suc n) e o less h m =
        let here = within (loop_at (all_loops c) n) b && is_first_miss (marks b j n) in
        let p = or_parts here (first_miss_before c marks b j n) e in
        elim (cases_lt o n) [
          | inl before ↦ none_before n p.1 o before h m
          | inr last ↦
              (let same : o ≡ n = omega arith in
              both_ways here p.0
              (subst (λ i. (within (loop_at (all_loops c) i) b && is_first_miss (marks b j i)) ≡ true) same
              (and_from (within (loop_at (all_loops c) o) b) (is_first_miss (marks b j o)) (true_within (loop_at (all_loops c) o) b h) (ap is_first_miss m))))
        ]

    before_none : (n : ℕ) → ((o : ℕ) → o < n → Within (loop_at (all_loops c) o) b → marks b j o ≡ FirstMiss → ⊥) → first_miss_before c marks b j n ≡ false
    before_none zero h = refl
    before_none (suc n) h =
        or_from (within (loop_at (all_loops c) n) b && is_first_miss (marks b j n)) (first_miss_before c marks b j n)
        (elim (cases_Bool (within (loop_at (all_loops c) n) b)) [
          | inr out ↦ and_left (within (loop_at (all_loops c) n) b) (is_first_miss (marks b j n)) out
          | inl e ↦ elim (cases_Bool (is_first_miss (marks b j n))) [
            | inr other ↦ and_right (within (loop_at (all_loops c) n) b) (is_first_miss (marks b j n)) other
            | inl miss ↦ absurd (h n (omega arith) (within_true (loop_at (all_loops c) n) b e) (first_miss_is (marks b j n) miss))
          ]
        ])
        (before_none n (λ o less. h o (omega arith)))

    charged_before : (n : ℕ) → first_miss_before c marks b j n ≡ true
        → (o : ℕ) × (o < n) × Within (loop_at (all_loops c) o) b × (charged_fetch c marks o b j ≡ true)
    charged_before zero e = absurd (false≢true e)
    charged_before (suc n) e = elim (cases_Bool (first_miss_before c marks b j n)) [
      | inl q ↦ (let r = charged_before n q in (r.0, omega (arith, r.1), r.2, r.3))
      | inr q ↦ elim (or_cases (within (loop_at (all_loops c) n) b && is_first_miss (marks b j n)) (first_miss_before c marks b j n) e) [
        | inr y ↦ absurd (both_ways (first_miss_before c marks b j n) q y)
        | inl y ↦
            (let p = and_parts (within (loop_at (all_loops c) n) b) (is_first_miss (marks b j n)) y in (
              n,
              omega arith,
              within_true (loop_at (all_loops c) n) b p.0,
              and_from (is_first_miss (marks b j n)) (not (first_miss_before c marks b j n)) p.1 (not_from_false (first_miss_before c marks b j n) q),
            ))
      ]
    ]

    -- a first miss at loop i is charged there or further out
    charged_somewhere : (i : ℕ) → Within (loop_at (all_loops c) i) b → marks b j i ≡ FirstMiss
        → (o : ℕ) × (o ≤ i) × Within (loop_at (all_loops c) o) b × (charged_fetch c marks o b j ≡ true)
    charged_somewhere i h m = elim (cases_Bool (first_miss_before c marks b j i)) [
      | inl q ↦ (let r = charged_before i q in (r.0, omega (arith, r.1), r.2, r.3))
      | inr q ↦ (
        i,
        omega arith,
        h,
        and_from (is_first_miss (marks b j i)) (not (first_miss_before c marks b j i)) (ap is_first_miss m) (not_from_false (first_miss_before c marks b j i) q),
      )
    ]

  module _ (i : ℕ) where
    among_charged : (bs : List ℕ) (b j : ℕ) → Among b bs → j < fetches_of c b → charged_fetch c marks i b j ≡ true
        → Among (line_of c b j) (charged_lines c marks i bs)
    among_charged [] b j m few e = absurd m
    among_charged (d ∷ bs) b j (inl q) few e =
        subst (λ x. Among (line_of c b j) (map (line_of c x) (passing (charged_fetch c marks i x) (range_with_len 0 (fetches_of c x))) ++ charged_lines c marks i bs)) q
        (among_left (line_of c b j) (map (line_of c b) (passing (charged_fetch c marks i b) (range_with_len 0 (fetches_of c b)))) (charged_lines c marks i bs)
        (among_map (line_of c b) (passing (charged_fetch c marks i b) (range_with_len 0 (fetches_of c b))) j
        (among_passing (charged_fetch c marks i b) (range_with_len 0 (fetches_of c b)) j (among_counting 0 (fetches_of c b) j (omega arith) (omega arith)) e)))
    among_charged (d ∷ bs) b j (inr m) few e =
        among_right (line_of c b j) (map (line_of c d) (passing (charged_fetch c marks i d) (range_with_len 0 (fetches_of c d)))) (charged_lines c marks i bs)
        (among_charged bs b j m few e)

    charged_among : (bs : List ℕ) (t : ℕ) → Among t (charged_lines c marks i bs)
        → (b j : ℕ) × Among b bs × (j < fetches_of c b) × (charged_fetch c marks i b j ≡ true) × (t ≡ line_of c b j)
    charged_among [] t m = absurd m
    charged_among (d ∷ bs) t m =
        elim (among_append t (map (line_of c d) (passing (charged_fetch c marks i d) (range_with_len 0 (fetches_of c d)))) (charged_lines c marks i bs) m) [
          | inl q ↦
              (let r = map_among (line_of c d) (passing (charged_fetch c marks i d) (range_with_len 0 (fetches_of c d))) t q in
              let p = passing_among (charged_fetch c marks i d) (range_with_len 0 (fetches_of c d)) r.0 r.1 in
              let z = counting_among 0 (fetches_of c d) r.0 p.0 in
              (d, r.0, inl refl, omega arith, p.1, r.2))
          | inr q ↦ (let r = charged_among bs t q in (r.0, r.1, inr r.2, r.3, r.4, r.5))
        ]

    -- a line charged at the loop stands in its list
    charged_at_lem : (b j : ℕ) → Within (loop_at (all_loops c) i) b → j < fetches_of c b → charged_fetch c marks i b j ≡ true → Among (line_of c b j) (charged_at c marks i)
    charged_at_lem b j h few e =
        (among_distinct [] (charged_lines c marks i (blocks_of (loop_at (all_loops c) i))) (line_of c b j)).1
        (inr (among_charged (blocks_of (loop_at (all_loops c) i)) b j (among_blocks (loop_at (all_loops c) i) b h) few e))

    list_charged : (t : ℕ) → Among t (charged_at c marks i) → Charged c marks i t
    list_charged t m =
        let in_list : Among t (charged_lines c marks i (blocks_of (loop_at (all_loops c) i))) =
        elim ((among_distinct [] (charged_lines c marks i (blocks_of (loop_at (all_loops c) i))) t).0 m) [ inl x ↦ absurd x | inr x ↦ x ] in
        let r = charged_among (blocks_of (loop_at (all_loops c) i)) t in_list in
        let p = and_parts (is_first_miss (marks r.0 r.1 i)) (not (first_miss_before c marks r.0 r.1 i)) r.4 in (
          r.0,
          r.1,
          blocks_among (loop_at (all_loops c) i) r.0 r.2,
          r.3,
          sym r.5,
          first_miss_is (marks r.0 r.1 i) p.0,
          none_before r.0 r.1 i (not-true (first_miss_before c marks r.0 r.1 i) p.1),
        )

    charged_list : (t : ℕ) → Charged c marks i t → Among t (charged_at c marks i)
    charged_list t q =
        subst (λ u. Among u (charged_at c marks i)) q.4
        (charged_at_lem q.0 q.1 q.2 q.3
        (and_from (is_first_miss (marks q.0 q.1 i)) (not (first_miss_before c marks q.0 q.1 i)) (ap is_first_miss q.5)
        (not_from_false (first_miss_before c marks q.0 q.1 i) (before_none q.0 q.1 i q.6))))

    pub charged_once : ChargedOnce c marks i
    charged_once = record {
      listed = λ t. (list_charged t, charged_list t);
      once = once_distinct [] (charged_lines c marks i (blocks_of (loop_at (all_loops c) i))) (λ p q less here e. omega arith);
    }

  -- the line of a first miss is charged at some loop around its block, no further in
  pub first_miss_charged : (b j i : ℕ) → Within (loop_at (all_loops c) i) b → j < fetches_of c b → marks b j i ≡ FirstMiss
      → (o : ℕ) × (o ≤ i) × Within (loop_at (all_loops c) o) b × Among (line_of c b j) (charged_at c marks o)
  first_miss_charged b j i h few m =
      let r = charged_somewhere b j i h m in
      (r.0, r.1, r.2, charged_at_lem r.0 b j r.2 few r.3)
