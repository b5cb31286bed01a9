-- The worked record breaks no rule.
use Rattle.std.proofs.Common.{◌≡◌, ℕ, zero, suc, ◌+◌, ◌-◌, ◌*◌, ◌%◌, ◌<◌, ◌≤◌, ◌⊎◌, refl, inl, inr, ⊎_elim, arith, lit<, lit≤}
use Rattle.task.specs.declared.fault.GraphRule.TheVariants.{LoopOrder, Depth, LimitProduct, EdgeOrder, BackEdge, LoopEntry, Unreached, NoBackEdge, TooManyFetches, Address}
use Rattle.task.specs.Graph.{block_at, loop_at, edge_at, levels, limits, Leads}
use Rattle.task.specs.Rules.{Before, HeadsAround, EntersAside, Breaks, Sound}
use Rattle.task.specs.Example.{example}
use Rattle.task.proofs.Order.{in_order}

one : (P : ℕ → Type 0) → P 0 → (k : ℕ) → k < 1 → P k
one P a zero h = a
one P a (suc k) h = absurd (omega arith)

four : (P : ℕ → Type 0) → P 0 → P 1 → P 2 → P 3 → (k : ℕ) → k < 4 → P k
four P a b c d zero h = a
four P a b c d (suc zero) h = b
four P a b c d (suc (suc zero)) h = c
four P a b c d (suc (suc (suc zero))) h = d
four P a b c d (suc (suc (suc (suc k)))) h = absurd (omega arith)

loop_order : (k : ℕ) → Breaks example LoopOrder k → ⊥
loop_order zero (h, inl l) = omega arith
loop_order zero (h, inr x) = omega arith
loop_order (suc k) (h, x) = omega arith

depth : (b : ℕ) → Breaks example Depth b → ⊥
depth b (h, x) = four (λ k. 8 < levels example.loops k → ⊥) (λ l. omega arith) (λ l. omega arith) (λ l. omega arith) (λ l. omega arith) b h x

limit_product : (b : ℕ) → Breaks example LimitProduct b → ⊥
limit_product b (h, x) =
    four (λ k. 1000000 < limits example.loops k → ⊥) (λ l. omega arith) (λ l. omega arith) (λ l. omega arith) (λ l. omega arith) b h x

edge_order : (k : ℕ) → Breaks example EdgeOrder k → ⊥
edge_order k (h, (j, l, x)) = x (in_order example.edges 4 (λ n pos below. consecutive n below pos) k h j l)
  where
    consecutive : (n : ℕ) → n < 4 → 0 < n → Before (edge_at example.edges (n - 1)) (edge_at example.edges n)
    consecutive =
        four (λ n. 0 < n → Before (edge_at example.edges (n - 1)) (edge_at example.edges n))
        (λ pos. absurd (omega arith))
        (λ _. inl (lit< tt))
        (λ _. inl (lit< tt))
        (λ _. inr (refl, lit< tt))

back_edge : (k : ℕ) → Breaks example BackEdge k → ⊥
back_edge k (h, l, x) =
    four (λ n. (edge_at example.edges n).to ≤ (edge_at example.edges n).from
    → (HeadsAround example.loops (edge_at example.edges n).to (edge_at example.edges n).from → ⊥) → ⊥)
    (λ up none. omega arith)
    (λ up none. omega arith)
    (λ up none. none (0, lit< tt, refl, (lit≤ tt, lit≤ tt)))
    (λ up none. omega arith)
    k h l x

loop_entry : (k : ℕ) → Breaks example LoopEntry k → ⊥
loop_entry k (h, l, (i, m, x)) =
    four (λ n. (edge_at example.edges n).from < (edge_at example.edges n).to → EntersAside (edge_at example.edges n) (loop_at example.loops 0) → ⊥)
    (λ _ aside. aside.2 refl)
    (λ _ aside. aside.1 (lit≤ tt, lit≤ tt))
    (λ up aside. omega arith)
    (λ up aside. omega arith)
    k h l (one (λ n. EntersAside (edge_at example.edges k) (loop_at example.loops n) → EntersAside (edge_at example.edges k) (loop_at example.loops 0)) (λ a. a) i m x)

unreached : (b : ℕ) → Breaks example Unreached b → ⊥
unreached b (pos, h, x) =
    four (λ n. 0 < n → ((p : ℕ) → p < n → Leads example.edges p n → ⊥) → ⊥)
    (λ above none. omega arith)
    (λ above none. none 0 (lit< tt) (0, lit< tt, refl, refl))
    (λ above none. none 1 (lit< tt) (1, lit< tt, refl, refl))
    (λ above none. none 2 (lit< tt) (3, lit< tt, refl, refl))
    b h pos x

no_back_edge : (i : ℕ) → Breaks example NoBackEdge i → ⊥
no_back_edge zero (h, l, x) = x (2, (2, lit< tt, refl, refl), (lit≤ tt, lit≤ tt))
no_back_edge (suc i) (h, l, x) = omega arith

too_many_fetches : (p : ℕ) → Breaks example TooManyFetches p → ⊥
too_many_fetches p (e, l) = omega arith

address : (b : ℕ) → Breaks example Address b → ⊥
address b (h, x) =
    four (λ n. ((block_at example.blocks n).address % 4 ≡ 0 → ⊥) ⊎ (16777216 < (block_at example.blocks n).address + 4 * (block_at example.blocks n).fetches) → ⊥)
    (⊎_elim (λ odd. odd refl) (λ past. omega arith))
    (⊎_elim (λ odd. odd refl) (λ past. omega arith))
    (⊎_elim (λ odd. odd refl) (λ past. omega arith))
    (⊎_elim (λ odd. odd refl) (λ past. omega arith))
    b h x

pub example_sound : Sound example
example_sound LoopOrder = loop_order
example_sound Depth = depth
example_sound LimitProduct = limit_product
example_sound EdgeOrder = edge_order
example_sound BackEdge = back_edge
example_sound LoopEntry = loop_entry
example_sound Unreached = unreached
example_sound NoBackEdge = no_back_edge
example_sound TooManyFetches = too_many_fetches
example_sound Address = address
