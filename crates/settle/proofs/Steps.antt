-- The steps of the code against the definition of settling.
use Rattle.std.proofs.Common.{◌≡◌, ℕ, zero, suc, ◌+◌, ◌-◌, ◌*◌, ◌<◌, ◌≤◌, Bool, true, false, not, ◌&&◌, eqb, ltb, leb, ◌≢◌, ◌⊎◌, List, [], ◌∷◌, ◌++◌, length, get_or, take, drop, set, replicate, Some, sym, refl, ap, ◌∙◌, subst, ap₂, inl, inr, le_of_suc-le-suc, not-suc-le-zero, mul-le-mul, arith}
use Rattle.std.specs.List.{range_with_len, list_all, AllByRecursion}
use Rattle.std.proofs.ByRecursion.{sum_by_le}
use Rattle.std.proofs.lemmas.List.{at_drop_more, at_drop_all, get_or_read, get_or-set_same, get_or-set_other, length-take-le}
use Rattle.std.proofs.lemmas.Bool.{cases_Bool, cases_eq, cases_lt, both_ways, not-true, not-false, and_parts, and_from, leb-true, ltb-true, eqb-true}
use Rattle.records.specs.declared.parts.Block.{Block}
use Rattle.records.specs.declared.parts.Edge.{Edge}
use Rattle.task.specs.Graph.{block_at, edge_at}
use Rattle.facts.specs.Kind.{Kind}
use Rattle.facts.specs.Space.{placed}
use Rattle.facts.specs.Settling.{Region, starts, predecessors, state_at, end_state, gathered, turn, turns, pass, unchanged, passes, settled}
use Rattle.facts.specs.Laws.{Lawful}
use Rattle.facts.proofs.Passes.{unchanged_from, rank_sum, passes_stop, passes_on, pass_falls}
use Rattle.settle.specs.Outcome.{roomy, settleable, outcome}

abbrev pub no_block : Block
no_block = record { address = 0; fetches = 0; cycles = 0 }

abbrev pub no_edge : Edge
no_edge = record { from = 0; to = 0 }

-- a test that every element passes
module _ {X : Type 0} (test : X → Bool) (d : X) where
  pub every_at : (xs : List X) (i : ℕ) → list_all test xs ≡ true → i < length xs → test (get_or xs i d) ≡ true
  every_at [] i a l = absurd (not-suc-le-zero l)
  every_at (x ∷ xs) zero a l = (and_parts (test x) (list_all test xs) a).0
  every_at (x ∷ xs) (suc i) a l = every_at xs i (and_parts (test x) (list_all test xs) a).1 (le_of_suc-le-suc l)

-- the state of block p is read, passed through it and joined in
pub added : {K : Type 0} (k : Kind K) (bs : List Block) (xs : List K) (p : ℕ) (state x end sum : K) → p < length xs → x ≡ get_or xs p x
    → end ≡ k.passed p (block_at bs p) x → sum ≡ k.joined state end → sum ≡ k.joined state (end_state k bs xs p)
added k bs xs p state x end sum l is passed joined =
    joined ∙ ap (k.joined state) (passed ∙ ap (k.passed p (block_at bs p)) (get_or_read xs p x l is k.nothing_yet))

-- one edge more: its start is joined in, or it is passed over
pub gathered_more : {K : Type 0} (k : Kind K) (bs : List Block) (xs : List K) (test : Edge → Bool) (es : List Edge) (i : ℕ) (x y : K) (t : Bool)
    → i < length es → t ≡ test (edge_at es i)
    → ((t ≡ true) × (y ≡ k.joined x (end_state k bs xs (edge_at es i).from))) ⊎ ((t ≡ false) × (y ≡ x))
    → gathered k bs xs y (starts test (drop (i + 1) es)) ≡ gathered k bs xs x (starts test (drop i es))
gathered_more k bs xs test es i x y t l is way =
    let at : gathered k bs xs x (starts test (drop i es)) ≡ gathered k bs xs x (starts test (edge_at es i ∷ drop (i + 1) es)) =
    at_drop_more (λ fs. gathered k bs xs x (starts test fs)) es i no_edge l in
    elim way [
      | inl w ↦ (let on : test (edge_at es i) ≡ true = sym is ∙ w.0 in
          ap (λ z. gathered k bs xs z (starts test (drop (i + 1) es))) w.1 ∙ sym (at ∙ rw (on, starts) refl))
      | inr w ↦ (let off : test (edge_at es i) ≡ false = sym is ∙ w.0 in
          ap (λ z. gathered k bs xs z (starts test (drop (i + 1) es))) w.1 ∙ sym (at ∙ rw (off, starts) refl))
    ]

-- after the last edge
pub gathered-all : {K : Type 0} (k : Kind K) (bs : List Block) (xs : List K) (test : Edge → Bool) (es : List Edge) (i : ℕ) (x y : K) → length es ≤ i
    → gathered k bs xs x (starts test (drop i es)) ≡ y → x ≡ y
gathered-all k bs xs test es i x y l e = sym (at_drop_all (λ fs. gathered k bs xs x (starts test fs)) es i l) ∙ e

pub turns_more : {K : Type 0} (k : Kind K) (r : Region) (a n : ℕ) (xs : List K) → turns k r (range_with_len a (suc n)) xs ≡ turn k r (a + n) (turns k r (range_with_len a n) xs)
turns_more k r a zero xs = ap (λ b. turn k r b xs) (omega arith)
turns_more k r a (suc n) xs =
    turns_more k r (a + 1) n (turn k r a xs) ∙ ap (λ b. turn k r b (turns k r (range_with_len (a + 1) n) (turn k r a xs))) (omega arith)

pub unchanged_at : {K : Type 0} (k : Kind K) (xs ys : List K) → length ys ≡ length xs → unchanged k xs ys ≡ true
    → (i : ℕ) → k.ranked (state_at k ys i) ≡ k.ranked (state_at k xs i)
unchanged_at k [] [] l e i = refl
unchanged_at k [] (y ∷ ys) l e i = absurd (omega arith)
unchanged_at k (x ∷ xs) [] l e i = absurd (omega arith)
unchanged_at k (x ∷ xs) (y ∷ ys) l e zero = eqb-true (k.ranked y) (k.ranked x) (and_parts (eqb (k.ranked y) (k.ranked x)) (unchanged k xs ys) e).0
unchanged_at k (x ∷ xs) (y ∷ ys) l e (suc i) = unchanged_at k xs ys (omega arith) (and_parts (eqb (k.ranked y) (k.ranked x)) (unchanged k xs ys) e).1 i

-- A pass that has come to block b: the states xs at its beginning have become ys.
pub record Sofar {K : Type 0} (k : Kind K) (r : Region) (xs : List K) (b : ℕ) (changed : Bool) (ys : List K) : Type 0 where
  pub after : ys ≡ turns k r (range_with_len r.range.header (b - r.range.header)) xs
  pub later : (i : ℕ) → b ≤ i → state_at k ys i ≡ state_at k xs i
  pub differs : changed ≡ true → (i : ℕ) × (i < b) × (k.ranked (state_at k ys i) ≢ k.ranked (state_at k xs i))
  pub same : changed ≡ false → (i : ℕ) → i < b → k.ranked (state_at k ys i) ≡ k.ranked (state_at k xs i)

module _ {K : Type 0} {k : Kind K} {r : Region} {xs : List K} where
  pub sofar_none : Sofar k r xs r.range.header false xs
  sofar_none = record {
    after = (let e : 0 ≡ r.range.header - r.range.header = omega arith in ap (λ n. turns k r (range_with_len r.range.header n) xs) e);
    later = λ i l. refl;
    differs = λ e. let z : ◌≡◌ {A = ℕ} 0 1 = cc in absurd (omega arith);
    same = λ e i l. refl;
  }

  -- one block's turn: its state before and after, their ranks, and whether a change is noted
  pub sofar_more : {b : ℕ} {changed : Bool} {ys : List K} → Sofar k r xs b changed ys → r.range.header ≤ b → b < length ys
      → (old new : K) → old ≡ get_or ys b old → new ≡ gathered k r.blocks ys (state_at k ys b) (predecessors r b)
      → (m n : ℕ) → m ≡ k.ranked old → n ≡ k.ranked new
      → (noted : Bool) → ((noted ≡ true) × (n ≢ m)) ⊎ ((noted ≡ changed) × (n ≡ m)) → Sofar k r xs (b + 1) noted (set ys b new)
  sofar_more {b} {changed} {ys} s low high old new read made m n before after noted way =
      let is : old ≡ state_at k ys b = get_or_read ys b old high read k.nothing_yet in
      let here : state_at k (set ys b new) b ≡ new = get_or-set_same ys b new k.nothing_yet high in
      let there : (i : ℕ) → i ≢ b → state_at k (set ys b new) i ≡ state_at k ys i = λ i ne. get_or-set_other ys b i new k.nothing_yet ne in
      let first : k.ranked old ≡ k.ranked (state_at k xs b) = ap k.ranked (is ∙ s.later b (omega arith)) in
      let now : k.ranked (state_at k (set ys b new) b) ≡ k.ranked new = ap k.ranked here in
      record {
        after =
            (let d : r.range.header + (b - r.range.header) ≡ b = omega arith in
            let e : suc (b - r.range.header) ≡ b + 1 - r.range.header = omega arith in
            ap (set ys b) made ∙ ap (turn k r b) s.after
            ∙ ap (λ c. turn k r c (turns k r (range_with_len r.range.header (b - r.range.header)) xs)) (sym d)
            ∙ sym (turns_more k r r.range.header (b - r.range.header) xs)
            ∙ ap (λ i. turns k r (range_with_len r.range.header i) xs) e);
        later = λ i l. there i (omega arith) ∙ s.later i (omega arith);
        differs = λ on. elim way [
          | inl w ↦ (b, omega arith, λ e. w.1 (after ∙ sym now ∙ e ∙ sym first ∙ sym before))
          | inr w ↦ (let d = s.differs (sym w.0 ∙ on) in
              (d.0, omega (arith, d.1), λ e. d.2 (sym (ap k.ranked (there d.0 (let l = d.1 in omega arith))) ∙ e)))
        ];
        same = λ off i l. elim way [
          | inl w ↦ absurd (both_ways noted off w.0)
          | inr w ↦ elim (cases_eq i b) [
            | inl e ↦ subst (λ j. k.ranked (state_at k (set ys b new) j) ≡ k.ranked (state_at k xs j)) (sym e) (now ∙ sym after ∙ w.1 ∙ before ∙ first)
            | inr ne ↦ ap k.ranked (there i ne) ∙ s.same (sym w.0 ∙ off) i (omega arith)
          ]
        ];
      }

  -- the end of a pass
  pub sofar_after : {b : ℕ} {changed : Bool} {ys : List K} → Sofar k r xs b changed ys → b ≡ suc r.range.last → ys ≡ pass k r xs
  sofar_after s e = s.after ∙ ap (λ c. turns k r (range_with_len r.range.header (c - r.range.header)) xs) e

  pub sofar_changed : {b : ℕ} (changed : Bool) {ys : List K} → Sofar k r xs b changed ys → length ys ≡ length xs → changed ≡ not (unchanged k xs ys)
  sofar_changed {b} true {ys} s len = elim (cases_Bool (unchanged k xs ys))
      [ inl e ↦ (let d = s.differs refl in absurd (d.2 (unchanged_at k xs ys len e d.0))) | inr e ↦ sym (ap not e) ]
  sofar_changed {b} false {ys} s len =
      sym (ap not (unchanged_from k xs ys len (λ i. elim (cases_lt i b) [ inl l ↦ s.same refl i l | inr l ↦ ap k.ranked (s.later i l) ])))

-- After n - 1 passes, which have made ys of xs, there is fuel left for the others.
pub record Going {K : Type 0} (k : Kind K) (r : Region) (fuel : ℕ) (xs : List K) (n : ℕ) (ys : List K) : Type 0 where
  pub rest : ℕ
  pub enough : rank_sum k ys < rest
  pub few : n + rank_sum k ys ≤ rank_sum k xs + 1
  pub states : (passes k r fuel xs).0 ≡ (passes k r rest ys).0
  pub count : suc (passes k r fuel xs).1 ≡ n + (passes k r rest ys).1

pub going_begun : {K : Type 0} (k : Kind K) (r : Region) (fuel : ℕ) (xs : List K) → rank_sum k xs < fuel → Going k r fuel xs 1 xs
going_begun k r fuel xs l = record { rest = fuel; enough = l; few = omega arith; states = refl; count = omega arith }

-- a pass that changes a state lowers the ranks
pub pass_lowers : {K : Type 0} {k : Kind K} → Lawful k → (r : Region) (ys zs : List K) (t : Bool) → r.range.last < length ys
    → zs ≡ pass k r ys → t ≡ not (unchanged k ys zs) → t ≡ true → rank_sum k zs < rank_sum k ys
pass_lowers {k = k} laws r ys zs t l e is on =
    elim (pass_falls laws r ys l) [
      | inl s ↦ absurd (both_ways t (is ∙ ap not (ap (unchanged k ys) e ∙ s.1)) on)
      | inr m ↦ subst (λ vs. rank_sum k vs < rank_sum k ys) (sym e) m.0
    ]

module _ {K : Type 0} (k : Kind K) (r : Region) (fuel : ℕ) (xs ys zs : List K) (n : ℕ) (t : Bool)
    (e : zs ≡ pass k r ys) (is : t ≡ not (unchanged k ys zs)) where
  on_from : (rest : ℕ) → rank_sum k ys < rest → n + rank_sum k ys ≤ rank_sum k xs + 1 → (passes k r fuel xs).0 ≡ (passes k r rest ys).0
      → suc (passes k r fuel xs).1 ≡ n + (passes k r rest ys).1 → t ≡ true → rank_sum k zs < rank_sum k ys → Going k r fuel xs (n + 1) zs
  on_from zero l few same count on less = absurd (not-suc-le-zero l)
  on_from (suc rest) l few same count on less =
      let off : unchanged k ys (pass k r ys) ≡ false = sym (ap (unchanged k ys) e) ∙ not-true (unchanged k ys zs) (sym is ∙ on) in
      let q : passes k r (suc rest) ys ≡ ((passes k r rest zs).0, suc (passes k r rest zs).1) =
      passes_on k r rest ys off ∙ ap (λ vs. ((passes k r rest vs).0, suc (passes k r rest vs).1)) (sym e) in
      record { rest = rest; enough = omega arith; few = omega arith; states = same ∙ ap (λ p. p.0) q; count = (let c = ap (λ p. p.1) q in omega arith) }

  pub going_on : Going k r fuel xs n ys → t ≡ true → rank_sum k zs < rank_sum k ys → Going k r fuel xs (n + 1) zs
  going_on s = on_from s.rest s.enough s.few s.states s.count

  end_from : (rest : ℕ) → rank_sum k ys < rest → (passes k r fuel xs).0 ≡ (passes k r rest ys).0
      → suc (passes k r fuel xs).1 ≡ n + (passes k r rest ys).1 → t ≡ false → passes k r fuel xs ≡ (zs, n)
  end_from zero l same count off = absurd (not-suc-le-zero l)
  end_from (suc rest) l same count off =
      let still : unchanged k ys (pass k r ys) ≡ true = sym (ap (unchanged k ys) e) ∙ not-false (unchanged k ys zs) (sym is ∙ off) in
      let q : passes k r (suc rest) ys ≡ (zs, 1) = passes_stop k r rest ys still ∙ ap (λ vs. (vs, 1)) (sym e) in
      let m : (passes k r fuel xs).1 ≡ n = (let c = ap (λ p. p.1) q in omega arith) in
      ap₂ (λ vs j. (vs, j)) (same ∙ ap (λ p. p.0) q) m

  -- the last pass
  pub going_ends : Going k r fuel xs n ys → t ≡ false → passes k r fuel xs ≡ (zs, n)
  going_ends s = end_from s.rest s.enough s.states s.count

-- the ranks of n states
pub ranks_low : {K : Type 0} {k : Kind K} → Lawful k → (xs : List K) → rank_sum k xs ≤ length xs * k.height
ranks_low {k = k} laws xs = sum_by_le k.ranked k.height xs (all-each xs)
  where
    all-each : (ys : List _) → AllByRecursion (λ y. k.ranked y ≤ k.height) ys
    all-each [] = tt
    all-each (y ∷ ys) = (laws.bounded y, all-each ys)

pub ranks_fit : {K : Type 0} {k : Kind K} → Lawful k → (xs : List K) (n : ℕ) → n ≡ length xs → rank_sum k xs ≤ n * k.height
ranks_fit {k = k} laws xs n e = subst (λ m. rank_sum k xs ≤ m * k.height) (sym e) (ranks_low laws xs)

pub height_small : {K : Type 0} {k : Kind K} → Lawful k → (n : ℕ) → n ≤ 128 → n * k.height ≤ 128000000
height_small {k = k} laws n l = mul-le-mul l laws.low

-- what is begun in the front of a list, and run, is settled
pub settled_by : {K : Type 0} (k : Kind K) (r : Region) (entry : K) (xs ws ys : List K) (n : ℕ) → length r.blocks ≤ length xs
    → ws ≡ set (replicate (length (take (length r.blocks) xs)) k.nothing_yet) r.range.header entry
    → passes k r (length r.blocks * k.height + 1) ws ≡ (ys, n) → settled k r entry ≡ (ys, n)
settled_by k r entry xs ws ys n l begun run =
    ap (passes k r (length r.blocks * k.height + 1))
    (sym (begun ∙ ap (λ m. set (replicate m k.nothing_yet) r.range.header entry) (length-take-le (length r.blocks) xs l)))
    ∙ run

pub record Accepted (r : Region) (n : ℕ) : Type 0 where
  pub some : r.range.header ≤ r.range.last
  pub fits : r.range.last < length r.blocks
  pub room : length r.blocks ≤ n

pub accepted : (r : Region) (room : ℕ) → settleable r room ≡ true → Accepted r room
accepted r room e =
    let a = and_parts (leb r.range.header r.range.last) (ltb r.range.last (length r.blocks) && roomy r.blocks room) e in
    let b = and_parts (ltb r.range.last (length r.blocks)) (roomy r.blocks room) a.1 in
    let c = and_parts (leb (length r.blocks) 128) (leb (length r.blocks) room && list_all placed r.blocks) b.1 in
    record {
      some = leb-true r.range.header r.range.last a.0;
      fits = ltb-true r.range.last (length r.blocks) b.0;
      room = leb-true (length r.blocks) room (and_parts (leb (length r.blocks) room) (list_all placed r.blocks) c.1).0;
    }

pub outcome_accepted : {K : Type 0} (k : Kind K) (taken : Bool) (r : Region) (entry : K) (xs ys : List K) (n : ℕ) → taken ≡ true → settleable r (length xs) ≡ true
    → settled k r entry ≡ (ys, n) → (Some n, ys ++ drop (length r.blocks) xs) ≡ outcome k taken r entry xs
outcome_accepted k taken r entry xs ys n t e made =
    let on : (taken && settleable r (length xs)) ≡ true = and_from taken (settleable r (length xs)) t e in
    sym (rw (on, outcome) (ap (λ p. (Some p.1, p.0 ++ drop (length r.blocks) xs)) made))
