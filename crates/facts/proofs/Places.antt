-- Lists of states place by place, and the predecessors of a block as edges.
use Rattle.std.proofs.Common.{◌≡◌, ℕ, zero, suc, ◌+◌, ◌-◌, ◌<◌, ◌≤◌, Bool, true, false, not, ◌&&◌, eqb, List, [], ◌∷◌, length, get_or, set, replicate, sym, refl, subst, inl, inr, le_of_suc-le-suc, not-suc-le-zero, arith}
use Rattle.std.specs.List.{range_with_len, AllByRecursion}
use Rattle.std.proofs.lemmas.Bool.{cases_Bool, cases_eq, eqb-true, eqb-false, eq-eqb, ne_eqb, and_parts, and_from, not-true, not_from_false}
use Rattle.records.specs.declared.parts.Loop.{Loop}
use Rattle.records.specs.declared.parts.Edge.{Edge}
use Rattle.task.specs.Graph.{edge_at, Within, within, Leads}
use Rattle.walks.proofs.Inside.{within_true, true_within, within_false}
use Rattle.facts.specs.Settling.{Region, leads_on, leads_in, starts, predecessors, blocks_of}

-- what holds place by place still holds after a write of something of which it holds
pub set-each : {K : Type 0} (d : K) (Q : ℕ → K → Type 0) (xs : List K) (b : ℕ) (z : K)
    → ((i : ℕ) → Q i (get_or xs i d)) → Q b z → (i : ℕ) → Q i (get_or (set xs b z) i d)
set-each d Q [] b z h q i = h i
set-each d Q (x ∷ xs) zero z h q zero = q
set-each d Q (x ∷ xs) zero z h q (suc i) = h (suc i)
set-each d Q (x ∷ xs) (suc b) z h q zero = h zero
set-each d Q (x ∷ xs) (suc b) z h q (suc i) = set-each d (λ j y. Q (suc j) y) xs b z (λ j. h (suc j)) q i

pub replicate-each : {K : Type 0} (d : K) (Q : K → Type 0) → Q d → (n i : ℕ) → Q (get_or (replicate n d) i d)
replicate-each d Q q zero i = q
replicate-each d Q q (suc n) zero = q
replicate-each d Q q (suc n) (suc i) = replicate-each d Q q n i

-- a list of consecutive numbers
pub all-counting : (P : ℕ → Type 0) (a n : ℕ) → ((b : ℕ) → a ≤ b → b < a + n → P b) → AllByRecursion P (range_with_len a n)
all-counting P a zero h = tt
all-counting P a (suc n) h = (h a (omega arith) (omega arith), all-counting P (a + 1) n (λ b l m. h b (omega arith) (omega arith)))

pub at-counting : (P : ℕ → Type 0) (a n b : ℕ) → AllByRecursion P (range_with_len a n) → a ≤ b → b < a + n → P b
at-counting P a zero b h l m = absurd (omega arith)
at-counting P a (suc n) b h l m = elim (cases_eq b a)
    [ inl e ↦ subst P (sym e) h.0 | inr e ↦ at-counting P (a + 1) n b h.1 (omega arith) (omega arith) ]

pub all_blocks : (P : ℕ → Type 0) (l : Loop) → ((b : ℕ) → Within l b → P b) → AllByRecursion P (blocks_of l)
all_blocks P l h = all-counting P l.header (suc l.last - l.header) (λ b x y. h b (x, omega arith))

pub at_blocks : (P : ℕ → Type 0) (l : Loop) (b : ℕ) → AllByRecursion P (blocks_of l) → Within l b → P b
at_blocks P l b h w = at-counting P l.header (suc l.last - l.header) b h w.0 (omega arith)

-- what holds where the edges start that pass a test
module _ (test : Edge → Bool) (P : ℕ → Type 0) where
  pub starts-all : (es : List Edge) → ((j : ℕ) → j < length es → test (edge_at es j) ≡ true → P (edge_at es j).from) → AllByRecursion P (starts test es)
  starts-all [] h = tt
  starts-all (e ∷ es) h =
      let rest = starts-all es (λ j l. h (suc j) (omega arith)) in
      elim (cases_Bool (test e)) [ inl t ↦ rw (t, starts) (h 0 (omega arith) t, rest) | inr t ↦ rw (t, starts) rest ]

  pub starts_at : (es : List Edge) → AllByRecursion P (starts test es) → (j : ℕ) → j < length es → test (edge_at es j) ≡ true → P (edge_at es j).from
  starts_at [] h j l t = absurd (not-suc-le-zero l)
  starts_at (e ∷ es) h zero l t = (rw (t, starts) at h).0
  starts_at (e ∷ es) h (suc j) l t =
      elim (cases_Bool (test e)) [
        | inl u ↦ starts_at es (rw (u, starts) at h).1 j (le_of_suc-le-suc l) t
        | inr u ↦ starts_at es (rw (u, starts) at h) j (le_of_suc-le-suc l) t
      ]

-- p leads to b in one round of the loop
abbrev pub Precedes : Region → ℕ → ℕ → Type 0
Precedes r p b = Leads r.edges p b × Within r.range p × (b ≡ r.range.header → ⊥)

module _ (r : Region) (b : ℕ) (P : ℕ → Type 0) where
  pub all-predecessors : ((p : ℕ) → Precedes r p b → P p) → AllByRecursion P (predecessors r b)
  all-predecessors h = starts-all (leads_on r.range b) P r.edges (λ j l t.
      let e : Edge = edge_at r.edges j in
      let u = and_parts (eqb e.to b) (within r.range e.from && not (eqb b r.range.header)) t in
      let v = and_parts (within r.range e.from) (not (eqb b r.range.header)) u.1 in
      h e.from (
        (j, l, refl, eqb-true e.to b u.0),
        within_true r.range e.from v.0,
        eqb-false b r.range.header (not-true (eqb b r.range.header) v.1),
      ))

  pub at_predecessors : AllByRecursion P (predecessors r b) → (p : ℕ) → Precedes r p b → P p
  at_predecessors h p (lead, w, ne) =
      let e : Edge = edge_at r.edges lead.0 in
      subst P lead.2 (starts_at (leads_on r.range b) P r.edges h lead.0 lead.1
      (and_from (eqb e.to b) (within r.range e.from && not (eqb b r.range.header))
      (eq-eqb e.to b lead.3)
      (and_from (within r.range e.from) (not (eqb b r.range.header))
      (true_within r.range e.from (subst (Within r.range) (sym lead.2) w))
      (not_from_false (eqb b r.range.header) (ne_eqb b r.range.header ne)))))

-- p leads to the loop's header from outside
abbrev pub Enters : List Edge → Loop → ℕ → Type 0
Enters es l p = Leads es p l.header × (Within l p → ⊥)

module _ (es : List Edge) (l : Loop) (P : ℕ → Type 0) where
  pub all_entering : ((p : ℕ) → Enters es l p → P p) → AllByRecursion P (starts (leads_in l) es)
  all_entering h = starts-all (leads_in l) P es (λ j i t.
      let e : Edge = edge_at es j in
      let u = and_parts (eqb e.to l.header) (not (within l e.from)) t in
      h e.from ((j, i, refl, eqb-true e.to l.header u.0), within_false l e.from (not-true (within l e.from) u.1)))

  pub at_entering : AllByRecursion P (starts (leads_in l) es) → (p : ℕ) → Enters es l p → P p
  at_entering h p (lead, out) =
      let e : Edge = edge_at es lead.0 in
      let no : within l e.from ≡ false =
      elim (cases_Bool (within l e.from)) [ inl t ↦ absurd (out (subst (Within l) lead.2 (within_true l e.from t))) | inr f ↦ f ] in
      subst P lead.2 (starts_at (leads_in l) P es h lead.0 lead.1
      (and_from (eqb e.to l.header) (not (within l e.from)) (eq-eqb e.to l.header lead.3) (not_from_false (within l e.from) no)))
