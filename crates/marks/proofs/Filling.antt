-- Writing into the table.
use Rattle.std.proofs.Common.{◌≡◌, ℕ, ◌+◌, ◌<◌, ◌≢◌, ◌⊎◌, List, [], length, get_or, set, sym, refl, ap, ◌∙◌, subst, inl, inr, arith}
use Rattle.std.proofs.lemmas.List.{get_or-set_same, get_or-set_other}
use Rattle.std.proofs.lemmas.Bool.{cases_eq, cases_lt}
use Rattle.categories.specs.declared.category.Category.{Category}
use Rattle.categories.specs.declared.category.Category.TheVariants.{AlwaysMiss}
use Rattle.marks.specs.Steps.{place_at, stored, Filled}

module _ (t : List (List Category)) (r p : ℕ) (x : Category) (h : r < length t) where
  row_stored : get_or (stored t r p x) r [] ≡ set (get_or t r []) p x
  row_stored = get_or-set_same t r (set (get_or t r []) p x) [] h

  stored_here : p < length (get_or t r []) → place_at (stored t r p x) r p ≡ x
  stored_here l = ap (λ row. get_or row p AlwaysMiss) row_stored ∙ get_or-set_same (get_or t r []) p x AlwaysMiss l

  stored_other : (s q : ℕ) → (s ≢ r) ⊎ (q ≢ p) → place_at (stored t r p x) s q ≡ place_at t s q
  stored_other s q way = elim (cases_eq s r) [
    | inl e ↦ elim way [
      | inl ne ↦ absurd (ne e)
      | inr ne ↦ subst (λ v. place_at (stored t r p x) v q ≡ place_at t v q) (sym e)
          (ap (λ row. get_or row q AlwaysMiss) row_stored ∙ get_or-set_other (get_or t r []) p q x AlwaysMiss ne)
    ]
    | inr ne ↦ ap (λ row. get_or row q AlwaysMiss) (get_or-set_other t r s (set (get_or t r []) p x) [] ne)
  ]

module _ {before : List (List Category)} {row place : ℕ} {category : ℕ → Category} where
  pub filled_none : Filled before before row 0 place category
  filled_none = record { here = λ j l. absurd (omega arith); elsewhere = λ r p w. refl }

  -- one row more
  pub filled_more : (after next : List (List Category)) (n : ℕ) (x : Category) → Filled before after row n place category → next ≡ stored after (row + n) place x
      → x ≡ category n → row + n < length after → length (get_or after (row + n) []) ≡ 8 → place < 8 → Filled before next row (n + 1) place category
  filled_more after next n x f e is h eight low = subst (λ t. Filled before t row (n + 1) place category) (sym e) (record {
    here = λ j l. elim (cases_lt j n) [
      | inl less ↦ stored_other after (row + n) place x h (row + j) place (inl (omega arith)) ∙ f.here j less
      | inr more ↦ (let q : j ≡ n = omega arith in
          subst (λ i. place_at (stored after (row + n) place x) (row + i) place ≡ category i) (sym q) (stored_here after (row + n) place x h (omega arith) ∙ is))
    ];
    elsewhere = λ r p w. stored_other after (row + n) place x h r p (elim w [
      | inl a ↦ inl (omega arith)
      | inr v ↦ elim v [ inl a ↦ inl (omega arith) | inr a ↦ inr a ]
    ]) ∙ f.elsewhere r p (elim w [
      | inl a ↦ inl a
      | inr v ↦ elim v [ inl a ↦ inr (inl (omega arith)) | inr a ↦ inr (inr a) ]
    ]);
  })

  pub filled_all : (after : List (List Category)) (n m : ℕ) → n ≡ m → Filled before after row n place category → Filled before after row m place category
  filled_all after n m e f = subst (λ i. Filled before after row i place category) e f
