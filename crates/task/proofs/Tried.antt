-- The rules, tried one after the other.
use Rattle.std.proofs.Common.{◌≡◌, ℕ, ◌+◌, ◌-◌, ◌<◌, ◌≤◌, [], ◌∷◌, get_or, Some, None, Option, Ok, Err, Result, MatchResult, OnOk, sym, refl, ap, ◌∙◌, subst, inl, inr, arith, lit<, lit≤}
use Rattle.std.specs.Prelude.{⊤, IsErrAnd}
use Rattle.std.specs.Result.{result_err}
use Rattle.std.proofs.lemmas.Bool.{cases_eq, cases_order}
use Rattle.std.proofs.lemmas.Result.{err_from_is_err_and}
use Rattle.records.specs.Contents.{Contents}
use Rattle.task.specs.declared.fault.GraphRule.{GraphRule}
use Rattle.task.specs.declared.fault.GraphRule.TheVariants.{LoopOrder, Depth, LimitProduct, EdgeOrder, BackEdge, LoopEntry, Unreached, NoBackEdge, TooManyFetches, Address}
use Rattle.task.specs.Fault.{GraphFault, number}
use Rattle.task.specs.First.{First}
use Rattle.task.specs.Laws.{Laws}
use Rattle.task.specs.Rules.{Breaks, Sound, Precedes, FirstBroken}
use Rattle.task.specs.Vetted.{FirstFault, OnlyFault}

abbrev rule_of : ℕ → GraphRule
rule_of n =
    get_or (LoopOrder ∷ Depth ∷ LimitProduct ∷ EdgeOrder ∷ BackEdge ∷ LoopEntry ∷ Unreached ∷ NoBackEdge ∷ TooManyFetches ∷ Address ∷ []) (n - 5) LoopOrder

-- a rule is known by its number
of_number : (g : GraphRule) → (5 ≤ number g) × (number g < 15) × (g ≡ rule_of (number g))
of_number LoopOrder = (lit≤ tt, lit< tt, refl)
of_number Depth = (lit≤ tt, lit< tt, refl)
of_number LimitProduct = (lit≤ tt, lit< tt, refl)
of_number EdgeOrder = (lit≤ tt, lit< tt, refl)
of_number BackEdge = (lit≤ tt, lit< tt, refl)
of_number LoopEntry = (lit≤ tt, lit< tt, refl)
of_number Unreached = (lit≤ tt, lit< tt, refl)
of_number NoBackEdge = (lit≤ tt, lit< tt, refl)
of_number TooManyFetches = (lit≤ tt, lit< tt, refl)
of_number Address = (lit≤ tt, lit< tt, refl)

pub same_rule : (g h : GraphRule) → number g ≡ number h → g ≡ h
same_rule g h e = (of_number g).2 ∙ (ap rule_of e ∙ sym (of_number h).2)

-- of the rules below number n none is broken
pub record Tried (c : Contents) (n : ℕ) : Type 0 where
  pub clear : (g : GraphRule) (p : ℕ) → number g < n → Breaks c g p → ⊥

pub tried_none : {c : Contents} → Tried c 5
tried_none = record { clear = λ g p l. absurd (omega (arith, (of_number g).0)) }

-- rule r is not broken either
tried_more : {c : Contents} (r : GraphRule) → Tried c (number r) → First (Breaks c r) None → Tried c (number r + 1)
tried_more {c} r tried kept = record { clear = clear }
  where
    clear : (g : GraphRule) (p : ℕ) → number g < number r + 1 → Breaks c g p → ⊥
    clear g p l b =
        elim (cases_eq (number g) (number r)) [
          | inl e ↦ kept p (subst (λ (x : GraphRule). Breaks c x p) (same_rule g r e) b)
          | inr ne ↦ tried.clear g p (omega arith) b
        ]

-- or it is, at the place of f, which comes first
tried_broken : {c : Contents} (f : GraphFault) → Tried c (number f.rule) → First (Breaks c f.rule) (Some f.place) → FirstBroken c f
tried_broken {c} f tried found = record { breaks = found.0; lowest = low }
  where
    low : (g : GraphFault) → Precedes g f → Breaks c g.rule g.place → ⊥
    low g (inl l) b = tried.clear g.rule g.place l b
    low g (inr l) b =
        found.1 g.place l.1 (subst (λ (x : GraphRule). Breaks c x g.place) (same_rule g.rule f.rule l.0) b)

-- what is known once the rules below number n are tried: none is broken, or this fault comes first
abbrev pub Trial : Contents → ℕ → Result ⊤ GraphFault → Type 0
Trial c n (Ok done) = Tried c n
Trial c n (Err f) = FirstBroken c f

-- the rule r is tried after all before it
pub tried : {c : Contents} (r : GraphRule) (o : Option ℕ) (t : Result ⊤ GraphFault) → Tried c (number r) → First (Breaks c r) o
    → MatchResult t (λ done. o ≡ None) (λ f. (f.rule ≡ r) × (o ≡ Some f.place)) → Trial c (number r + 1) t
tried {c} r o (Ok done) before found none = tried_more r before (subst (First (Breaks c r)) none found)
tried {c} r o (Err f) before found fault =
    let same = sym fault.0 in
    tried_broken f (subst (λ (x : GraphRule). Tried c (number x)) same before)
    (subst (λ (x : GraphRule). First (Breaks c x) (Some f.place)) same (subst (First (Breaks c r)) fault.1 found))

pub kept : {c : Contents} {n : ℕ} {t : Result ⊤ GraphFault} {done : ⊤} → t ≡ Ok done → Trial c n t → Tried c n
kept {c} {n} is trial = subst (Trial c n) is trial

-- all ten were tried
pub tried_all : {c : Contents} → Tried c 15 → Sound c
tried_all tried g p = tried.clear g p (of_number g).1

same_fault : (f g : GraphFault) → f.rule ≡ g.rule → f.place ≡ g.place → f ≡ g
same_fault f g p q = λ t. record { rule = p t; place = q t }

-- a record is refused in one way only
pub first_once : (c : Contents) (f g : GraphFault) → FirstBroken c f → FirstBroken c g → f ≡ g
first_once c f g one two =
    elim (cases_order (number f.rule) (number g.rule)) [
      | inr (inl less) ↦ absurd (two.lowest f (inl less) one.breaks)
      | inr (inr more) ↦ absurd (one.lowest g (inl more) two.breaks)
      | inl same ↦
          elim (cases_order f.place g.place) [
            | inl e ↦ same_fault f g (same_rule f.rule g.rule same) e
            | inr (inl less) ↦ absurd (two.lowest f (inr (same, less)) one.breaks)
            | inr (inr more) ↦ absurd (one.lowest g (inr (sym same, more)) two.breaks)
          ]
    ]

-- and only if it is not sound
pub first_unsound : (c : Contents) (f : GraphFault) → FirstBroken c f → Sound c → ⊥
first_unsound c f broken sound = sound f.rule f.place broken.breaks

pub only_fault : (c : Contents) (o : Option GraphFault) → FirstFault c o → OnlyFault c o
only_fault c None sound None other = refl
only_fault c None sound (Some g) other = absurd (first_unsound c g other sound)
only_fault c (Some f) broken None other = absurd (first_unsound c f broken other)
only_fault c (Some f) broken (Some g) other = ap Some (first_once c g f other broken)

-- r hands on the fault of the trial t
pub refused : {c : Contents} (n : ℕ) {t : Result ⊤ GraphFault} {f : GraphFault} (r : Result ⊤ GraphFault) → t ≡ Err f → Trial c n t → IsErrAnd r (λ g. g ≡ f)
    → record { first : FirstFault c (result_err r); only : OnlyFault c (result_err r); laws : OnOk r (Laws c) }
refused {c} n {t} {f} r is trial gives =
    let p = err_from_is_err_and r gives in
    let first : FirstBroken c f = subst (Trial c n) is trial in
    rw (p.1, p.2) (record { first = first; only = only_fault c (Some f) first; laws = tt })
