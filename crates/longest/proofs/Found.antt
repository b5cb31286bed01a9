-- What a search finds of each loop, and the local facts that make it the greatest.
use Rattle.std.proofs.Common.{◌≡◌, ℕ, ◌+◌, ◌<◌, ◌≤◌, Bool, cond, ltb, List, length}
use Rattle.records.specs.declared.parts.Loop.{Loop}
use Rattle.records.specs.declared.parts.Edge.{Edge}
use Rattle.task.specs.Graph.{Leads}
use Rattle.walks.specs.Walk.{innermost}
use Rattle.tally.specs.Laws.{Ops}
use Rattle.longest.specs.Charge.{Costs}
use Rattle.longest.proofs.Shape.{head, limit, In, parent}
use Rattle.longest.proofs.Sums.{Le}

-- the cost of a block in a first or a later round
abbrev pub cost : {T : Type 0} → Costs T → Bool → ℕ → T
cost costs k b = cond k (costs.later b) (costs.first b)

-- a later round
abbrev pub is_later : ℕ → Bool
is_later r = ltb 1 r

pub record Found (T : Type 0) : Type 0 where
  -- the greatest charge from the start of a first or later round of a loop to a block
  pub val : ℕ → Bool → ℕ → T
  -- and, in a round of its parent, to the outside predecessors of its header
  pub ent : ℕ → Bool → T
  -- and to the blocks with an edge back
  pub turn : ℕ → Bool → T
  -- the greatest charge of a stay before its round r
  pub base : ℕ → ℕ → T
  -- and of a whole stay that ends at a block
  pub all : ℕ → ℕ → T

module _ {T : Type 0} (m : Ops T) (costs : Costs T) (n : ℕ) (ls : List Loop) (es : List Edge) (f : Found T) where
  -- every local step is covered
  pub record Covers : Type 0 where
    pub begin : (i : ℕ) (k : Bool) → i < length ls → Le m (cost costs k (head ls i)) (f.val i k (head ls i))
    pub step : (i p b : ℕ) (k : Bool) → i ≡ innermost ls b → (head ls i ≡ b → ⊥) → Leads es p b → p < b
        → Le m (m.plus (f.val i k p) (cost costs k b)) (f.val i k b)
    pub child : (o i b : ℕ) (k : Bool) → o ≡ parent ls i → 0 < i → i < length ls → In ls i b
        → Le m (m.plus (f.ent i k) (f.all i b)) (f.val o k b)
    pub into : (o i p : ℕ) (k : Bool) → o ≡ parent ls i → 0 < i → i < length ls → Leads es p (head ls i) → p < head ls i
        → Le m (f.val o k p) (f.ent i k)
    pub turns : (i p : ℕ) (k : Bool) → i < length ls → Leads es p (head ls i) → head ls i ≤ p → Le m (f.val i k p) (f.turn i k)
    pub one : (i : ℕ) → i < length ls → Le m (costs.stay i) (f.base i 1)
    pub more : (i r : ℕ) → i < length ls → 1 ≤ r → Le m (m.plus (f.base i r) (f.turn i (is_later r))) (f.base i (r + 1))
    pub stays : (i r b : ℕ) → i < length ls → 1 ≤ r → r ≤ limit ls i → In ls i b
        → Le m (m.plus (f.base i r) (f.val i (is_later r) b)) (f.all i b)

  -- everything found is attained locally
  pub record Attains : Type 0 where
    pub begin : (i : ℕ) (k : Bool) → i < length ls → f.val i k (head ls i) ≡ cost costs k (head ls i)
    pub step : (i b : ℕ) (k : Bool) → i ≡ innermost ls b → (head ls i ≡ b → ⊥) → b < n → (p : ℕ) × Leads es p b × (p < b)
        × (f.val i k b ≡ m.plus (f.val i k p) (cost costs k b))
    pub child : (o i b : ℕ) (k : Bool) → o ≡ parent ls i → 0 < i → i < length ls → In ls i b
        → f.val o k b ≡ m.plus (f.ent i k) (f.all i b)
    pub into : (o i : ℕ) (k : Bool) → o ≡ parent ls i → 0 < i → i < length ls → (p : ℕ) × Leads es p (head ls i) × (p < head ls i)
        × (f.ent i k ≡ f.val o k p)
    pub turns : (i : ℕ) (k : Bool) → i < length ls → 1 < limit ls i → (p : ℕ) × Leads es p (head ls i) × (head ls i ≤ p)
        × (f.turn i k ≡ f.val i k p)
    pub one : (i : ℕ) → i < length ls → f.base i 1 ≡ costs.stay i
    pub more : (i r : ℕ) → i < length ls → 1 ≤ r → r < limit ls i → f.base i (r + 1) ≡ m.plus (f.base i r) (f.turn i (is_later r))
    pub stays : (i b : ℕ) → i < length ls → In ls i b → (r : ℕ) × (1 ≤ r) × (r ≤ limit ls i)
        × (f.all i b ≡ m.plus (f.base i r) (f.val i (is_later r) b))
