-- The smaller worked records break no rule.
use Rattle.std.proofs.Common.{◌≡◌, ℕ, zero, suc, ◌+◌, ◌-◌, ◌*◌, ◌%◌, ◌<◌, ◌≤◌, ◌⊎◌, refl, inl, inr, ⊎_elim, arith, lit<, lit≤}
use Rattle.records.specs.declared.parts.Block.{Block}
use Rattle.task.specs.declared.fault.GraphRule.TheVariants.{LoopOrder, Depth, LimitProduct, EdgeOrder, BackEdge, LoopEntry, Unreached, NoBackEdge, TooManyFetches, Address}
use Rattle.task.specs.Graph.{block_at, loop_at, edge_at, levels, limits, Leads}
use Rattle.task.specs.Rules.{Before, HeadsAround, EntersAside, Breaks, Sound}
use Rattle.task.proofs.Order.{in_order}
use Rattle.kinds.specs.Worked.{record_a, record_c}

one : (P : ℕ → Type 0) → P 0 → (k : ℕ) → k < 1 → P k
one P a zero h = a
one P a (suc k) h = absurd (omega arith)

three : (P : ℕ → Type 0) → P 0 → P 1 → P 2 → (k : ℕ) → k < 3 → P k
three P a b c zero h = a
three P a b c (suc zero) h = b
three P a b c (suc (suc zero)) h = c
three P a b c (suc (suc (suc k))) h = absurd (omega arith)

-- a block at no multiple of 4, or past the end
abbrev misplaced : Block → Type 0
misplaced x = (x.address % 4 ≡ 0 → ⊥) ⊎ (16777216 < x.address + 4 * x.fetches)

edge_order : (k : ℕ) → Breaks record_a EdgeOrder k → ⊥
edge_order k (h, (j, l, x)) = x (in_order record_a.edges 3 (λ n pos below. next n below pos) k h j l)
  where
    next : (n : ℕ) → n < 3 → 0 < n → Before (edge_at record_a.edges (n - 1)) (edge_at record_a.edges n)
    next =
        three (λ n. 0 < n → Before (edge_at record_a.edges (n - 1)) (edge_at record_a.edges n))
        (λ pos. absurd (omega arith))
        (λ _. inl (lit< tt))
        (λ _. inr (refl, lit< tt))

back_edge : (k : ℕ) → Breaks record_a BackEdge k → ⊥
back_edge k (h, l, x) =
    three (λ n. (edge_at record_a.edges n).to ≤ (edge_at record_a.edges n).from
    → (HeadsAround record_a.loops (edge_at record_a.edges n).to (edge_at record_a.edges n).from → ⊥) → ⊥)
    (λ up none. omega arith)
    (λ up none. none (0, lit< tt, refl, (lit≤ tt, lit≤ tt)))
    (λ up none. omega arith)
    k h l x

loop_entry : (k : ℕ) → Breaks record_a LoopEntry k → ⊥
loop_entry k (h, l, (i, m, x)) =
    three (λ n. (edge_at record_a.edges n).from < (edge_at record_a.edges n).to → EntersAside (edge_at record_a.edges n) (loop_at record_a.loops 0) → ⊥)
    (λ _ aside. aside.2 refl)
    (λ up aside. omega arith)
    (λ up aside. omega arith)
    k h l (one (λ n. EntersAside (edge_at record_a.edges k) (loop_at record_a.loops n) → EntersAside (edge_at record_a.edges k) (loop_at record_a.loops 0)) (λ a. a) i m x)

unreached : (b : ℕ) → Breaks record_a Unreached b → ⊥
unreached b (pos, h, x) =
    three (λ n. 0 < n → ((p : ℕ) → p < n → Leads record_a.edges p n → ⊥) → ⊥)
    (λ above none. omega arith)
    (λ above none. none 0 (lit< tt) (0, lit< tt, refl, refl))
    (λ above none. none 1 (lit< tt) (2, lit< tt, refl, refl))
    b h pos x

pub sound_a : Sound record_a
sound_a LoopOrder zero (h, inl l) = omega arith
sound_a LoopOrder zero (h, inr x) = omega arith
sound_a LoopOrder (suc k) (h, x) = omega arith
sound_a Depth b (h, x) = three (λ k. 8 < levels record_a.loops k → ⊥) (λ l. omega arith) (λ l. omega arith) (λ l. omega arith) b h x
sound_a LimitProduct b (h, x) = three (λ k. 1000000 < limits record_a.loops k → ⊥) (λ l. omega arith) (λ l. omega arith) (λ l. omega arith) b h x
sound_a EdgeOrder k x = edge_order k x
sound_a BackEdge k x = back_edge k x
sound_a LoopEntry k x = loop_entry k x
sound_a Unreached b x = unreached b x
sound_a NoBackEdge zero (h, l, x) = x (1, (1, lit< tt, refl, refl), (lit≤ tt, lit≤ tt))
sound_a NoBackEdge (suc i) (h, l, x) = omega arith
sound_a TooManyFetches p (e, l) = omega arith
sound_a Address b (h, x) =
    three (λ n. misplaced (block_at record_a.blocks n) → ⊥)
    (⊎_elim (λ odd. odd refl) (λ past. omega arith))
    (⊎_elim (λ odd. odd refl) (λ past. omega arith))
    (⊎_elim (λ odd. odd refl) (λ past. omega arith))
    b h x

pub sound_c : Sound record_c
sound_c LoopOrder k (h, x) = omega arith
sound_c Depth b (h, x) = one (λ k. 8 < levels record_c.loops k → ⊥) (λ l. omega arith) b h x
sound_c LimitProduct b (h, x) = one (λ k. 1000000 < limits record_c.loops k → ⊥) (λ l. omega arith) b h x
sound_c EdgeOrder k (h, x) = omega arith
sound_c BackEdge k (h, l, x) = omega arith
sound_c LoopEntry k (h, l, x) = omega arith
sound_c Unreached b (pos, h, x) = omega arith
sound_c NoBackEdge i (h, l, x) = omega arith
sound_c TooManyFetches p (e, l) = omega arith
sound_c Address b (h, x) = one (λ n. misplaced (block_at record_c.blocks n) → ⊥) (⊎_elim (λ odd. odd refl) (λ past. omega arith)) b h x
