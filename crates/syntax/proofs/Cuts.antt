-- Where a list is cut at a byte.
use Rattle.std.proofs.Common.{◌≡◌, ℕ, zero, suc, ◌+◌, ◌-◌, ◌<◌, List, [], ◌∷◌, ◌++◌, length, get_or, take, drop, Some, None, Option, sym, refl, ap, ◌∙◌, arith, length-append, length-take, Bor}
use Rattle.std.proofs.lemmas.List.Prefix.{front_rest}
use Rattle.std.proofs.lemmas.List.{get_or_at, get_or-take, take-append-drop, drop_more, take_rest}
use Rattle.syntax.specs.Line.{Without}
use Rattle.syntax.specs.Cut.{Splits, CutsLine}

-- a list that lacks b is not cut at it
pub uncut : (b : ℕ) (s front rest : List ℕ) → Without b s → s ≡ front ++ (b ∷ rest) → ⊥
uncut b s front rest w e =
    let l : length s ≡ length front + (1 + length rest) = ap length e ∙ simp length-append (omega arith) in
    w (length front) (omega arith)
    (ap (λ (x : List ℕ). get_or x (length front) 0) e ∙ get_or_at front b rest 0 (length front) refl)

-- the cut at the first b
pub cut_at : (b n : ℕ) (s : List ℕ) → n < length s → get_or s n 0 ≡ b → ((k : ℕ) → k < n → get_or s k 0 ≡ b → ⊥)
    → Without b (take n s) × (s ≡ take n s ++ (b ∷ take (length s - (n + 1)) (drop (n + 1) s)))
cut_at b n s h at before = (
  (λ k l e. let m : k < n = omega (arith, simp length-take at l) in before k m (sym (get_or-take n s k 0 m) ∙ e)),
  sym (take-append-drop n s) ∙ cc (drop_more s n 0 h, take_rest s (n + 1), at),
)

pub without_cons : (b x : ℕ) (ys : List ℕ) → (x ≡ b → ⊥) → Without b ys → Without b (x ∷ ys)
without_cons b x ys apart w zero h e = apart e
without_cons b x ys apart w (suc k) h e = w k (omega arith) e

pub without_tail : (b x : ℕ) (xs : List ℕ) → Without b (x ∷ xs) → Without b xs
without_tail b x xs w k h e = w (suc k) (omega arith) e

pub without_append : (b : ℕ) (xs ys : List ℕ) → Without b xs → Without b ys → Without b (xs ++ ys)
without_append b [] ys u w = w
without_append b (x ∷ xs) ys u w =
    without_cons b x (xs ++ ys) (u 0 (omega arith)) (without_append b xs ys (without_tail b x xs u) w)

-- there is one cut at the first b
pub one_cut : (b : ℕ) (xs ys us vs : List ℕ) → Without b xs → Without b us → xs ++ (b ∷ ys) ≡ us ++ (b ∷ vs) → (xs ≡ us) × (ys ≡ vs)
one_cut b [] ys [] vs w z e = (refl, cc)
one_cut b [] ys (u ∷ us) vs w z e = absurd (z 0 (omega arith) (cc))
one_cut b (x ∷ xs) ys [] vs w z e = absurd (w 0 (omega arith) (cc))
one_cut b (x ∷ xs) ys (u ∷ us) vs w z e =
    let p = one_cut b xs ys us vs (without_tail b x xs w) (without_tail b u us z) (cc) in
    let h : x ≡ u = cc in
    (cc (p.0, h), p.1)

-- what follows a front that two lists share
pub same_rest : (front xs ys : List ℕ) → front ++ xs ≡ front ++ ys → xs ≡ ys
same_rest front xs ys e = sym (front_rest (front ++ xs) front xs refl) ∙ front_rest (front ++ xs) front ys e

-- a cut behind a key is a cut of the line
pub past_key : (r : Option (Bor (List ℕ) × Bor (List ℕ))) (text key rest : List ℕ) → text ≡ key ++ rest → Splits 10 rest r → CutsLine key text r
past_key None text key rest e w = λ body after g. uncut 10 rest body after w (same_rest key rest (body ++ (10 ∷ after)) (sym e ∙ g))
past_key (Some p) text key rest e h = (h.0, cc (e, h.1))
