-- The numbers of a line, one more at a time.
use Rattle.std.proofs.Common.{◌≡◌, ℕ, zero, suc, ◌+◌, ◌<◌, ◌≤◌, List, [], ◌∷◌, ◌++◌, length, get_or, take, decimal, sym, refl, ap, ◌∙◌, append_assoc, append-nil, arith}
use Rattle.std.proofs.lemmas.List.{take_more, length-take-le}
use Rattle.syntax.specs.Line.{more_fields, fields_text}

-- what stands before number i
abbrev pub separator : ℕ → List ℕ
separator zero = []
separator (suc i) = 44 ∷ []

pub separator_none : (i : ℕ) → i ≤ 0 → separator i ≡ []
separator_none zero h = refl
separator_none (suc i) h = absurd (omega arith)

pub separator_some : (i : ℕ) → 0 < i → separator i ≡ 44 ∷ []
separator_some zero h = absurd (omega arith)
separator_some (suc i) h = refl

more_push : (xs : List ℕ) (x : ℕ) → more_fields (xs ++ (x ∷ [])) ≡ more_fields xs ++ (44 ∷ decimal x)
more_push [] x = ap (λ t. 44 ∷ t) (append-nil (decimal x))
more_push (y ∷ xs) x =
    ap (λ t. 44 ∷ (decimal y ++ t)) (more_push xs x) ∙ ap (λ t. 44 ∷ t) (sym (append_assoc (decimal y) (more_fields xs) (44 ∷ decimal x)))

fields_push : (xs : List ℕ) (x : ℕ) → fields_text (xs ++ (x ∷ [])) ≡ fields_text xs ++ (separator (length xs) ++ decimal x)
fields_push [] x = append-nil (decimal x)
fields_push (y ∷ xs) x = ap (λ t. decimal y ++ t) (more_push xs x) ∙ sym (append_assoc (decimal y) (more_fields xs) (44 ∷ decimal x))

-- one number more
pub fields_more : (xs : List ℕ) (i : ℕ) → i < length xs → fields_text (take (i + 1) xs) ≡ fields_text (take i xs) ++ (separator i ++ decimal (get_or xs i 0))
fields_more xs i h =
    let front : List ℕ = take i xs in
    ap fields_text (take_more xs i 0 h) ∙ fields_push front (get_or xs i 0)
    ∙ ap (λ n. fields_text front ++ (separator n ++ decimal (get_or xs i 0))) (length-take-le i xs (omega arith))
