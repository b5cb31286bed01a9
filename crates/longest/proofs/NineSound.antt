-- The worked task is in format and breaks no rule.
use Rattle.std.proofs.Common.{◌≡◌, ℕ, zero, suc, ◌+◌, ◌-◌, ◌*◌, ◌%◌, ◌<◌, ◌≤◌, Bool, true, false, not, ◌&&◌, eqb, leb, refl, inl, inr, not-suc-le-zero, arith, lit<, lit≤}
use Rattle.std.proofs.lemmas.Bool.{cases_eq, and_parts, and_from, not-true, not_from_false, both_ways, ne_eqb, eqb-true, leb-true}
use Rattle.records.specs.declared.parts.Loop.{Loop}
use Rattle.records.specs.declared.parts.Edge.{Edge}
use Rattle.task.specs.declared.fault.GraphRule.TheVariants.{LoopOrder, Depth, LimitProduct, EdgeOrder, BackEdge, LoopEntry, Unreached, NoBackEdge, TooManyFetches, Address}
use Rattle.task.specs.Graph.{block_at, loop_at, edge_at, within, levels, limits, Leads}
use Rattle.task.specs.Rules.{Before, HeadsAround, EntersAside, Breaks, Sound}
use Rattle.task.proofs.Order.{in_order}
use Rattle.walks.proofs.Inside.{true_within, false_within}
use Rattle.longest.specs.Nine.{nine}

-- a test that every number below n passes
abbrev all_below : (ℕ → Bool) → ℕ → Bool
all_below p zero = true
all_below p (suc n) = p n && all_below p n

below : (p : ℕ → Bool) (n : ℕ) → all_below p n ≡ true → (k : ℕ) → k < n → p k ≡ true
below p zero t k h = absurd (not-suc-le-zero h)
below p (suc n) t k h =
    let u = and_parts (p n) (all_below p n) t in
    elim (cases_eq k n) [ inl e ↦ rw e u.0 | inr e ↦ below p n u.1 k (omega arith) ]

loop_order : (k : ℕ) → Breaks nine LoopOrder k → ⊥
loop_order zero (h, inl l) = omega arith
loop_order zero (h, inr (j, l, x)) = omega arith
loop_order (suc zero) (h, inl l) = omega arith
loop_order (suc zero) (h, inr (zero, l, inl x)) = omega arith
loop_order (suc zero) (h, inr (zero, l, inr x)) = x.3 (lit≤ tt, lit≤ tt)
loop_order (suc zero) (h, inr (suc j, l, x)) = omega arith
loop_order (suc (suc zero)) (h, inl l) = omega arith
loop_order (suc (suc zero)) (h, inr (zero, l, inl x)) = omega arith
loop_order (suc (suc zero)) (h, inr (zero, l, inr x)) = x.3 (lit≤ tt, lit≤ tt)
loop_order (suc (suc zero)) (h, inr (suc zero, l, inl x)) = omega arith
loop_order (suc (suc zero)) (h, inr (suc zero, l, inr x)) = omega arith
loop_order (suc (suc zero)) (h, inr (suc (suc j), l, x)) = omega arith
loop_order (suc (suc (suc k))) (h, x) = omega arith

-- a number that passes for every block
few : (f : ℕ → ℕ) (most : ℕ) → all_below (λ b. leb (f b) most) 9 ≡ true → (b : ℕ) → b < 9 → f b ≤ most
few f most t b h = leb-true (f b) most (below (λ b. leb (f b) most) 9 t b h)

depth : (b : ℕ) → Breaks nine Depth b → ⊥
depth b (h, x) = omega (arith, few (levels nine.loops) 8 refl b h)

limit_product : (b : ℕ) → Breaks nine LimitProduct b → ⊥
limit_product b (h, x) = omega (arith, few (limits nine.loops) 1000000 refl b h)

ten : (P : ℕ → Type 0) → P 0 → P 1 → P 2 → P 3 → P 4 → P 5 → P 6 → P 7 → P 8 → P 9 → (k : ℕ) → k < 10 → P k
ten P a b c d e f g h i j zero l = a
ten P a b c d e f g h i j (suc zero) l = b
ten P a b c d e f g h i j (suc (suc zero)) l = c
ten P a b c d e f g h i j (suc (suc (suc zero))) l = d
ten P a b c d e f g h i j (suc (suc (suc (suc zero)))) l = e
ten P a b c d e f g h i j (suc (suc (suc (suc (suc zero))))) l = f
ten P a b c d e f g h i j (suc (suc (suc (suc (suc (suc zero)))))) l = g
ten P a b c d e f g h i j (suc (suc (suc (suc (suc (suc (suc zero))))))) l = h
ten P a b c d e f g h i j (suc (suc (suc (suc (suc (suc (suc (suc zero)))))))) l = i
ten P a b c d e f g h i j (suc (suc (suc (suc (suc (suc (suc (suc (suc zero))))))))) l = j
ten P a b c d e f g h i j (suc (suc (suc (suc (suc (suc (suc (suc (suc (suc k)))))))))) l = absurd (omega arith)

edge_order : (k : ℕ) → Breaks nine EdgeOrder k → ⊥
edge_order k (h, (j, l, x)) = x (in_order nine.edges 10 (λ n pos l. next n l pos) k h j l)
  where
    next : (n : ℕ) → n < 10 → 0 < n → Before (edge_at nine.edges (n - 1)) (edge_at nine.edges n)
    next =
        ten (λ n. 0 < n → Before (edge_at nine.edges (n - 1)) (edge_at nine.edges n))
        (λ pos. absurd (omega arith))
        (λ _. inl (lit< tt))
        (λ _. inl (lit< tt))
        (λ _. inl (lit< tt))
        (λ _. inr (refl, lit< tt))
        (λ _. inl (lit< tt))
        (λ _. inl (lit< tt))
        (λ _. inl (lit< tt))
        (λ _. inl (lit< tt))
        (λ _. inr (refl, lit< tt))

back_edge : (k : ℕ) → Breaks nine BackEdge k → ⊥
back_edge k (h, l, x) =
    ten (λ n. (edge_at nine.edges n).to ≤ (edge_at nine.edges n).from
    → (HeadsAround nine.loops (edge_at nine.edges n).to (edge_at nine.edges n).from → ⊥) → ⊥)
    (λ up none. omega arith)
    (λ up none. omega arith)
    (λ up none. omega arith)
    (λ up none. omega arith)
    (λ up none. omega arith)
    (λ up none. omega arith)
    (λ up none. omega arith)
    (λ up none. omega arith)
    (λ up none. none (0, lit< tt, refl, (lit≤ tt, lit≤ tt)))
    (λ up none. omega arith)
    k h l x

-- an edge enters a loop aside of its header
aside : Loop → Edge → Bool
aside l e = within l e.to && (not (within l e.from) && not (eqb e.to l.header))

is_aside : (l : Loop) (e : Edge) → EntersAside e l → aside l e ≡ true
unfolding aside
is_aside l e x =
    and_from (within l e.to) _ (true_within l e.to x.0)
    (and_from (not (within l e.from)) (not (eqb e.to l.header))
    (not_from_false (within l e.from) (false_within l e.from x.1))
    (not_from_false (eqb e.to l.header) (ne_eqb e.to l.header x.2)))

never_aside : (i : ℕ) → i < 3 → (k : ℕ) → k < 10 → aside (loop_at nine.loops i) (edge_at nine.edges k) ≡ false
unfolding aside
never_aside i m k h =
    let test : ℕ → ℕ → Bool = λ j n. not (aside (loop_at nine.loops j) (edge_at nine.edges n)) in
    not-true (aside (loop_at nine.loops i) (edge_at nine.edges k))
    (below (test i) 10 (below (λ j. all_below (test j) 10) 3 refl i m) k h)

loop_entry : (k : ℕ) → Breaks nine LoopEntry k → ⊥
loop_entry k (h, l, (i, m, x)) =
    both_ways (aside (loop_at nine.loops i) (edge_at nine.edges k)) (never_aside i m k h)
    (is_aside (loop_at nine.loops i) (edge_at nine.edges k) x)

unreached : (b : ℕ) → Breaks nine Unreached b → ⊥
unreached b (pos, h, x) =
    ten (λ n. 0 < n → n < 9 → ((p : ℕ) → p < n → Leads nine.edges p n → ⊥) → ⊥)
    (λ above _ none. omega arith)
    (λ above _ none. none 0 (lit< tt) (0, lit< tt, refl, refl))
    (λ above _ none. none 1 (lit< tt) (1, lit< tt, refl, refl))
    (λ above _ none. none 2 (lit< tt) (2, lit< tt, refl, refl))
    (λ above _ none. none 3 (lit< tt) (3, lit< tt, refl, refl))
    (λ above _ none. none 4 (lit< tt) (5, lit< tt, refl, refl))
    (λ above _ none. none 5 (lit< tt) (6, lit< tt, refl, refl))
    (λ above _ none. none 6 (lit< tt) (7, lit< tt, refl, refl))
    (λ above _ none. none 7 (lit< tt) (9, lit< tt, refl, refl))
    (λ above past none. omega arith)
    b (omega arith) pos h x

no_back_edge : (i : ℕ) → Breaks nine NoBackEdge i → ⊥
no_back_edge zero (h, l, x) = x (7, (8, lit< tt, refl, refl), (lit≤ tt, lit≤ tt))
no_back_edge (suc zero) (h, l, x) = omega arith
no_back_edge (suc (suc zero)) (h, l, x) = omega arith
no_back_edge (suc (suc (suc i))) (h, l, x) = omega arith

address : (b : ℕ) → Breaks nine Address b → ⊥
address b (h, inl odd) = odd (eqb-true ((block_at nine.blocks b).address % 4) 0
    (below (λ n. eqb ((block_at nine.blocks n).address % 4) 0) 9 refl b h))
address b (h, inr past) = omega
    (arith, few (λ n. (block_at nine.blocks n).address + 4 * (block_at nine.blocks n).fetches) 16777216 refl b h)

pub nine_sound : Sound nine
nine_sound LoopOrder = loop_order
nine_sound Depth = depth
nine_sound LimitProduct = limit_product
nine_sound EdgeOrder = edge_order
nine_sound BackEdge = back_edge
nine_sound LoopEntry = loop_entry
nine_sound Unreached = unreached
nine_sound NoBackEdge = no_back_edge
nine_sound TooManyFetches = λ p x. omega (arith, x.1)
nine_sound Address = address
