-- The rounds of each loop's stay, one loop after the other.
use Rattle.std.proofs.Common.{◌≡◌, ℕ, zero, suc, ◌+◌, ◌<◌, ◌≤◌, List, [], ◌∷◌, length, get_or, set, sym, refl, ap, ◌∙◌, subst, ap₂, inl, inr, le_of_suc-le-suc, not-suc-le-zero, lt_of_not-le, arith}
use Rattle.std.proofs.lemmas.List.{ext_get_or, get_or-set_same, get_or-set_other}
use Rattle.std.proofs.lemmas.Bool.{cases_lt}
use Rattle.records.specs.declared.parts.Loop.{Loop}
use Rattle.task.specs.Graph.{loop_at}
use Rattle.run.specs.Run.{next_rounds, entered_rounds}
use Rattle.run.specs.Open.{SpentOf}

module _ (b : ℕ) where
  length-entered : (ls : List Loop) (rs : List ℕ) → length rs ≡ length ls → length (entered_rounds ls b rs) ≡ length rs
  length-entered [] [] e = refl
  length-entered [] (r ∷ rs) e = absurd (omega arith)
  length-entered (l ∷ ls) [] e = refl
  length-entered (l ∷ ls) (r ∷ rs) e = ap suc (length-entered ls rs (omega arith))

  entered_at : (ls : List Loop) (rs : List ℕ) → length rs ≡ length ls → (k : ℕ) → k < length rs
      → get_or (entered_rounds ls b rs) k 0 ≡ next_rounds (loop_at ls k) b (get_or rs k 0)
  entered_at ls [] e k h = absurd (not-suc-le-zero h)
  entered_at [] (r ∷ rs) e k h = absurd (omega arith)
  entered_at (l ∷ ls) (r ∷ rs) e zero h = refl
  entered_at (l ∷ ls) (r ∷ rs) e (suc k) h = entered_at ls rs (omega arith) k (le_of_suc-le-suc h)

  module _ (ls : List Loop) (before : List ℕ) where
    -- the rounds of the first n loops are counted
    pub record CountedTo (n : ℕ) (after : List ℕ) : Type 0 where
      pub here : (k : ℕ) → k < n → get_or after k 0 ≡ next_rounds (loop_at ls k) b (get_or before k 0)
      pub rest : (k : ℕ) → n ≤ k → get_or after k 0 ≡ get_or before k 0

    counted_more : (n x : ℕ) (after : List ℕ) → CountedTo n after → n < length after → x ≡ next_rounds (loop_at ls n) b (get_or before n 0)
        → CountedTo (n + 1) (set after n x)
    counted_more n x after t h e = record {
      here = λ k l. elim (cases_lt k n) [
        | inl less ↦ get_or-set_other after n k x 0 (omega arith) ∙ t.here k less
        | inr more ↦ (let q : n ≡ k = omega arith in subst (λ m. get_or (set after n x) m 0 ≡ next_rounds (loop_at ls m) b (get_or before m 0)) q (get_or-set_same after n x 0 h ∙ e))
      ];
      rest = λ k l. get_or-set_other after n k x 0 (omega arith) ∙ t.rest k (omega arith);
    }

    pub counted-all : (n : ℕ) (after : List ℕ) → length before ≡ length ls → length after ≡ length before → length ls ≤ n → CountedTo n after
        → after ≡ entered_rounds ls b before
    counted-all n after long same all t =
        let s = length-entered ls before long in
        ext_get_or 0 after (entered_rounds ls b before) (omega arith)
        (λ k h. t.here k (omega arith) ∙ sym (entered_at ls before long k (omega arith)))

    -- the next loop's rounds, as the code counts them, where no stay is spent
    pub counted_next : (n x r : ℕ) (after : List ℕ) (l : Loop) → CountedTo n after → n < length after → n < length ls → (SpentOf ls before b → ⊥)
        → l ≡ loop_at ls n → r ≡ get_or after n 0 → ((l.header ≡ b → r < l.limit) → x ≡ next_rounds l b r) → CountedTo (n + 1) (set after n x)
    counted_next n x r after l t h few free is read next =
        let was = read ∙ t.rest n (omega arith) in
        let header = ap (λ (m : Loop). m.header) is in
        let limit = ap (λ (m : Loop). m.limit) is in
        counted_more n x after t h
        (next (λ e. lt_of_not-le (λ spent. free (n, few, omega arith, omega arith))) ∙ ap₂ (λ (m : Loop) (k : ℕ). next_rounds m b k) is was)
