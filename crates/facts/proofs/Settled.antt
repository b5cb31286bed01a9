-- Settling a loop's round: it ends, and its states sum up the ways inside the loop.
use Rattle.std.proofs.Common.{◌≡◌, ℕ, ◌+◌, ◌*◌, ◌<◌, ◌≤◌, List, [], ◌∷◌, length, replicate, sym, refl, ap, subst, arith, length-set, get_or-set_same}
use lib.ListN.{length-replicate}
use Rattle.std.specs.List.{AllByRecursion}
use Rattle.std.proofs.ByRecursion.{All-from_get_or, sum_by_le}
use Rattle.records.specs.declared.parts.Block.{Block}
use Rattle.task.specs.Graph.{block_at, Within}
use Rattle.facts.specs.Kind.{Kind}
use Rattle.facts.specs.Laws.{Above, Lawful, Distributing}
use Rattle.facts.specs.Settling.{Region, predecessors, state_at, end_state, begun, settled, blocks_of}
use Rattle.facts.specs.Meaning.{Ends, Least}
use Rattle.facts.proofs.Order.{above_then, above_through, passing}
use Rattle.facts.proofs.Joined.{Joined, none_of, two_of, joined_weaker, joined_through, least_joined}
use Rattle.facts.proofs.Places.{set-each, replicate-each, Precedes, at_predecessors, at_blocks}
use Rattle.facts.proofs.Passes.{pass_kept, passes_kept, passes_end, rank_sum, Quiet}

-- a state carried through the blocks w, the latest first
abbrev pub carried : {K : Type 0} → Kind K → List Block → K → List ℕ → K
carried k bs x [] = x
carried k bs x (p ∷ w) = k.passed p (block_at bs p) (carried k bs x w)

-- a way from the loop's header to block b, in one round
abbrev pub Course : Region → List ℕ → ℕ → Type 0
Course r [] b = b ≡ r.range.header
Course r (p ∷ w) b = Course r w p × Precedes r p b

-- y is the state at b of a way that begins in a state of W
abbrev pub Reaches : {K : Type 0} → Kind K → Region → (K → Type 0) → ℕ → K → Type 0
Reaches {K} k r W b y = (x : K) × (w : List ℕ) × W x × Course r w b × (y ≡ carried k r.blocks x w)

-- in quiet states, no way in the loop brings anything more than its header has
pub course_below : {K : Type 0} {k : Kind K} → Lawful k → Distributing k → (r : Region) (xs : List K) → Quiet k r (blocks_of r.range) xs
    → (x : K) → Above k (state_at k xs r.range.header) x
    → (w : List ℕ) (b : ℕ) → Within r.range b → Course r w b → Above k (state_at k xs b) (carried k r.blocks x w)
course_below {k = k} laws dist r xs quiet x a [] b i e = subst (λ c. Above k (state_at k xs c) x) (sym e) a
course_below {k = k} laws dist r xs quiet x a (p ∷ w) b i m =
    above_then laws
    (at_predecessors r b (λ q. Above k (state_at k xs b) (end_state k r.blocks xs q))
    (at_blocks (λ c. AllByRecursion (λ q. Above k (state_at k xs c) (end_state k r.blocks xs q)) (predecessors r c)) r.range b quiet i) p m.1)
    (above_through (passing laws dist p (block_at r.blocks p)) (course_below laws dist r xs quiet x a w p m.1.1 m.0))

module _ {K : Type 0} {k : Kind K} (laws : Lawful k) (r : Region) (entry : K)
    (some : r.range.header ≤ r.range.last) (fits : r.range.last < length r.blocks) where
  pub length-begun : length (begun k r entry) ≡ length r.blocks
  length-begun = simp (length-set, length-replicate)

  begun_low : rank_sum k (begun k r entry) ≤ length r.blocks * k.height
  begun_low =
      subst (λ n. rank_sum k (begun k r entry) ≤ n * k.height) length-begun
      (sum_by_le k.ranked k.height (begun k r entry)
      (All-from_get_or (λ x. k.ranked x ≤ k.height) (begun k r entry) entry (λ i l. laws.bounded _)))

  end : Quiet k r (blocks_of r.range) (settled k r entry).0 × ((settled k r entry).1 ≤ length r.blocks * k.height + 1)
  end =
      let q = passes_end laws r (length r.blocks * k.height + 1) (begun k r entry)
      (subst (λ n. r.range.last < n) (sym length-begun) fits) (let l = begun_low in omega arith) in
      (q.0, (let l = begun_low in omega (arith, q.1)))

  head_kept : state_at k (settled k r entry).0 r.range.header ≡ entry
  head_kept =
      let Q : ℕ → K → Type 0 = λ i y. i ≡ r.range.header → y ≡ entry in
      passes_kept k r (λ xs. (i : ℕ) → Q i (state_at k xs i)) (pass_kept k r Q (λ p b x y m q s e. absurd (m.2 e)))
      (length r.blocks * k.height + 1) (begun k r entry)
      (λ i e. subst (λ j. state_at k (begun k r entry) j ≡ entry) (sym e)
      (get_or-set_same (replicate (length r.blocks) k.nothing_yet) r.range.header entry k.nothing_yet (simp length-replicate (omega arith))))
      r.range.header refl

  pub ends : Ends k r entry
  ends = record {
    few = end.1;
    still = λ p b lead i j ne.
        at_predecessors r b (λ q. Above k (state_at k (settled k r entry).0 b) (end_state k r.blocks (settled k r entry).0 q))
        (at_blocks (λ c. AllByRecursion (λ q. Above k (state_at k (settled k r entry).0 c) (end_state k r.blocks (settled k r entry).0 q)) (predecessors r c))
        r.range b end.0 j) p (lead, i, ne);
    fixed = head_kept;
  }

  module _ (dist : Distributing k) (W : K → Type 0) where
    pub settled_joined : Joined k W entry → (b : ℕ) → Joined k (Reaches k r W b) (state_at k (settled k r entry).0 b)
    settled_joined made =
        let Q : ℕ → K → Type 0 = λ b y. Joined k (Reaches k r W b) y in
        passes_kept k r (λ xs. (i : ℕ) → Q i (state_at k xs i))
        (pass_kept k r Q (λ p b x y m q s. two_of q
        (joined_through (passing laws dist p (block_at r.blocks p))
        (λ z t. (t.0, p ∷ t.1, t.2, (t.3, m), ap (k.passed p (block_at r.blocks p)) t.4)) s)))
        (length r.blocks * k.height + 1) (begun k r entry)
        (set-each k.nothing_yet Q (replicate (length r.blocks) k.nothing_yet) r.range.header entry
        (λ i. replicate-each k.nothing_yet (Q i) none_of (length r.blocks) i)
        (joined_weaker (λ x w. (x, [], w, refl, refl)) made))

    pub settled_above : ((x : K) → W x → Above k entry x) → (b : ℕ) → Within r.range b → (y : K) → Reaches k r W b y → Above k (state_at k (settled k r entry).0 b) y
    settled_above over b i y t =
        subst (Above k (state_at k (settled k r entry).0 b)) (sym t.4)
        (course_below laws dist r (settled k r entry).0 end.0 t.0
        (subst (λ z. Above k z t.0) (sym head_kept) (over t.0 t.2)) t.1 b i t.3)

    pub settled_least : Joined k W entry → ((x : K) → W x → Above k entry x) → (b : ℕ) → Within r.range b
        → Least k (Reaches k r W b) (state_at k (settled k r entry).0 b)
    settled_least made over b i =
        least_joined laws (Reaches k r W b) (state_at k (settled k r entry).0 b) (settled_joined made b) (settled_above over b i)

-- the least above two families that have the same states
pub least_same : {K : Type 0} {k : Kind K} {W V : K → Type 0} {x : K} → ((y : K) → W y → V y) → ((y : K) → V y → W y) → Least k W x → Least k V x
least_same to fro l = record {
  above = λ y v. l.above y (fro y v);
  least = λ z f. l.least z (λ y w. f y (to y w));
  sure = λ g through t. (λ s y v. (l.sure g through t).0 s y (fro y v), λ s. (l.sure g through t).1 (λ y w. s y (to y w)));
}
