-- Good lines, one part after the other.
use Rattle.std.proofs.Common.{◌≡◌, ℕ, ◌+◌, true, ◌&&◌, List, [], ◌∷◌, ◌++◌, sym, refl, ap, ◌∙◌, subst, subst₂, inr}
use Rattle.std.proofs.lemmas.Bool.{and_from}
use Rattle.syntax.specs.declared.fault.TextRule.{TextRule}
use Rattle.syntax.specs.Line.{line_text, in_ranges, short}
use Rattle.syntax.specs.Format.{Format, follows, text_of, Faulty}
use Rattle.syntax.specs.Format.Format.{end, line}
use Rattle.reader.specs.Parts.{Passes}

-- nothing is passed
pub stay : (F G : Format) (at n : ℕ) (t rest : List ℕ) → F ≡ G → at ≡ n → t ≡ rest → Passes F at t [] G n rest
stay F G at n t rest p q r = (p, q, r)

-- a fault behind good lines is a fault of the whole
pub fault_later : (rows : List (List ℕ)) (F G : Format) (at n : ℕ) (t rest : List ℕ) (rule : TextRule) (m : ℕ) → Passes F at t rows G n rest → Faulty G n rest rule m → Faulty F at t rule m
fault_later [] F G at n t rest rule m p b =
    subst (λ (H : Format). Faulty H at t rule m) (sym p.0)
    (subst₂ (λ (k : ℕ) (x : List ℕ). Faulty G k x rule m) (sym p.1) (sym p.2) b)
fault_later (fs ∷ rows) end G at n t rest rule m p b = absurd p
fault_later (fs ∷ rows) (line f next) G at n t rest rule m p b =
    inr (fs, p.0, p.1, p.2, fault_later rows (next fs) G (at + 1) n p.0 rest rule m p.3 b)

-- good lines behind good lines
pub pass_on : (rows more : List (List ℕ)) (F G H : Format) (at n m : ℕ) (t u rest : List ℕ) → Passes F at t rows G n u → Passes G n u more H m rest → Passes F at t (rows ++ more) H m rest
pass_on [] more F G H at n m t u rest p q =
    subst (λ (K : Format). Passes K at t more H m rest) (sym p.0)
    (subst₂ (λ (k : ℕ) (x : List ℕ). Passes G k x more H m rest) (sym p.1) (sym p.2) q)
pass_on (fs ∷ rows) more end G H at n m t u rest p q = absurd p
pass_on (fs ∷ rows) more (line f next) G H at n m t u rest p q =
    (p.0, p.1, p.2, pass_on rows more (next fs) G H (at + 1) n m p.0 u rest p.3 q)

-- good lines to the end are a text of the format
pub pass_all : (rows : List (List ℕ)) (F : Format) (at n : ℕ) (t : List ℕ) → Passes F at t rows end n [] → (follows F rows ≡ true) × (t ≡ text_of F rows)
pass_all [] F at n t p = subst (λ (G : Format). (follows G [] ≡ true) × (t ≡ text_of G [])) (sym p.0) (refl, p.2)
pass_all (fs ∷ rows) end at n t p = absurd p
pass_all (fs ∷ rows) (line f next) at n t p =
    let q = pass_all rows (next fs) (at + 1) n p.0 p.3 in (
      and_from (short fs && in_ranges f.ranges fs) (follows (next fs) rows) (and_from (short fs) (in_ranges f.ranges fs) p.1.numbers.digits p.1.ranges) q.0,
      p.2 ∙ ap (line_text f.key fs) q.1,
    )
