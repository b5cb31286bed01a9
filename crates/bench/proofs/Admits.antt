-- A call that is not of the stage, and one that is.
use Rattle.std.proofs.Common.{◌≡◌, ℕ, Bool, true, false, IfErr, Ok, Err, Result, sym, refl, ap, ◌∙◌, subst}
use Rattle.calls.specs.declared.call.Call.{Call}
use Rattle.calls.specs.declared.fault.BenchFault.TheVariants.{WrongStage}
use Rattle.calls.specs.declared.refusal.Refusal.{Refusal}
use Rattle.calls.specs.declared.refusal.Refusal.TheVariants.{Bench}
use Rattle.calls.specs.Answers.{admitted}
use Rattle.calls.specs.Fault.{stage_number}
use Rattle.calls.specs.Outcomes.{Admitted}
use Rattle.calls.specs.View.{View, stage_of, taken}

-- what `admit` answers
abbrev pub admission : Call → View → Result (Unit {0}) Refusal
admission call v = admitted call v (Ok tt)

-- the same, by whether the call is of the stage
abbrev tested : Bool → ℕ → Result (Unit {0}) Refusal
tested t n = elim t [ true ↦ Ok tt | false ↦ Err (Bench (WrongStage n)) ]

-- and what the call comes to
abbrev outcome : {A : Type 0} → Bool → ℕ → Result A Refusal → Type 0 → Type 0 → Type 0
outcome t n r same own = elim t [ true ↦ own | false ↦ (r ≡ Err (Bench (WrongStage n))) × same ]

stops : {A : Type 0} (t : Bool) (n : ℕ) (r : Result A Refusal) (e : Refusal) (same own : Type 0) → Err e ≡ tested t n → r ≡ Err e → same
    → outcome t n r same own
stops true n r e same own h q s = absurd (cc)
stops false n r e same own h q s = (let k : e ≡ Bench (WrongStage n) = cc in q ∙ ap Err k, s)

goes : {A : Type 0} (t : Bool) (n : ℕ) (r : Result A Refusal) (u : Unit {0}) (same own : Type 0) → Ok u ≡ tested t n → own
    → outcome t n r same own
goes true n r u same own h o = o
goes false n r u same own h o = absurd (cc)

module _ {A : Type 0} (call : Call) (v : View) (r : Result A Refusal) (same own : Type 0) where
  -- a call that was not admitted is refused
  pub not_admitted : (e : Refusal) → Err e ≡ admission call v → r ≡ Err e → same → Admitted call v r same own
  not_admitted e h q s = stops (taken call (stage_of v)) (stage_number (stage_of v)) r e same own h q s

  -- one that was has its own outcome
  pub was_admitted : (u : Unit {0}) → Ok u ≡ admission call v → own → Admitted call v r same own
  was_admitted u h o = goes (taken call (stage_of v)) (stage_number (stage_of v)) r u same own h o

-- the answer of a question that was admitted
answers : {A : Type 0} (t : Bool) (n : ℕ) (x : Result A Refusal) (u : Unit {0}) → Ok u ≡ tested t n → x ≡ elim t as (λ _. Result A Refusal) [ true ↦ x | false ↦ Err (Bench (WrongStage n)) ]
answers true n x u h = refl
answers false n x u h = absurd (cc)

pub answered : {A : Type 0} (call : Call) (v : View) (x : Result A Refusal) (u : Unit {0}) → Ok u ≡ admission call v → x ≡ admitted call v x
answered call v x u h = answers (taken call (stage_of v)) (stage_number (stage_of v)) x u h

-- a refusal changes nothing
pub refusal_keeps : {A : Type 0} (r : Result A Refusal) (e : Refusal) (P : Type 0) → r ≡ Err e → P → IfErr r (λ _. P)
refusal_keeps r e P q h = subst (λ z. IfErr z (λ _. P)) (sym q) h
