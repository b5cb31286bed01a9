-- Lines with one number.
use Rattle.std.proofs.Common.{◌≡◌, ℕ, Bool, true, false, eqb, List, [], ◌∷◌, Some, None, Option, Ok, sym, refl}
use Rattle.std.specs.List.{IsAnyAnswer}
use Rattle.std.specs.Option.{ok_or}
use Rattle.std.proofs.lemmas.List.Elements.{contains_decides}
use Rattle.std.proofs.lemmas.Bool.{and_from, and_left}
use Rattle.std.proofs.lemmas.Bool.Decides.{Decides-by_or, Decides-eqb, Decides-like, same_from_decides}
use Rattle.syntax.specs.declared.fault.TextRule.{TextRule}
use Rattle.syntax.specs.declared.fault.TextRule.TheVariants.{Range}
use Rattle.syntax.specs.Fields.{ReadsFields, one}
use Rattle.records.specs.Layout.{one_of}
use Rattle.reader.specs.Lines.{BadBody, ReadsBody}

-- what `contains` answers
pub chosen : (ys : List ℕ) (x : ℕ) (r : Bool) → IsAnyAnswer (λ y t. eqb y x ≡ t) ys r → one_of ys x ≡ r
chosen ys x r h =
    same_from_decides (one_of ys x) r
    (Decides-by_or (eqb x) (λ y. y ≡ x) (λ zs. one_of zs x) (λ y. Decides-like (eqb x y) sym sym (Decides-eqb x y)) refl (λ _ _. refl) ys)
    (contains_decides eqb Decides-eqb ys x r h)

-- where `?` found a number
pub was_number : (s : List ℕ) (o : Option ℕ) (rule : TextRule) (n : ℕ) → Ok n ≡ ok_or o rule → ReadsFields one s o → ReadsFields one s (Some n)
was_number s None rule n h r = absurd (cc)
was_number s (Some m) rule n h r = let e : n ≡ m = cc in rw e r

-- that is within its range
pub one_in : (p : ℕ → Bool) (n : ℕ) (s : List ℕ) → ReadsFields one s (Some n) → p n ≡ true → ReadsBody (p ∷ []) one.fields s (Ok n)
one_in p n s r e = (r.0, and_from (p n) true e refl, r.1)

-- or is not
pub one_out : (p : ℕ → Bool) (n : ℕ) (s : List ℕ) → ReadsFields one s (Some n) → p n ≡ false → BadBody (p ∷ []) s Range
one_out p n s r e = (n ∷ [], r.0, r.1, and_left (p n) true e)
