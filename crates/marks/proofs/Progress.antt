-- Marking, block by block and loop by loop.
use Rattle.std.proofs.Common.{◌≡◌, ℕ, ◌+◌, ◌<◌, ◌≤◌, Bool, true, false, ◌&&◌, ◌||◌, eqb, ◌≢◌, ◌⊎◌, List, [], ◌∷◌, length, get_or, take, Some, Option, Bor, sym, refl, ap, ◌∙◌, subst, ap₂, inl, inr, arith}
use Rattle.std.proofs.lemmas.List.{get_or-take, get_or_read}
use Rattle.std.proofs.lemmas.Bool.{cases_eq, cases_lt}
use Rattle.std.specs.List.{list_all}
use Rattle.std.specs.Bool.{then_some}
use Rattle.std.specs.Option.{option_copied}
use Rattle.records.specs.declared.parts.Geometry.{Geometry}
use Rattle.records.specs.declared.parts.Loop.{Loop}
use Rattle.records.specs.declared.parts.Edge.{Edge}
use Rattle.records.specs.Contents.{Contents}
use Rattle.records.specs.Layout.{InFormat}
use Rattle.records.proofs.Ranges.{ranges}
use Rattle.task.specs.Graph.{loop_at, Within, total_fetches}
use Rattle.task.proofs.Ranged.{edge_range_at}
use Rattle.walks.specs.Walk.{all_loops, Among}
use Rattle.walks.proofs.Inside.{true_within}
use Rattle.facts.specs.Kind.{Kind}
use Rattle.facts.specs.Settling.{starts, state_at, task_states}
use Rattle.passed_kind.specs.declared.PassedBlocks.{PassedBlocks}
use Rattle.passed_kind.specs.Passed.{passed_kind}
use Rattle.categories.specs.declared.category.Category.{Category}
use Rattle.categories.specs.Category.{alone, first_fitting, line_of, leads_back, gated, passed_by, fetches_of, Marks}
use Rattle.categories.proofs.Lists.{starts_among}
use Rattle.marks.specs.Table.{row_of, level_of, mark_at, Agrees}
use Rattle.marks.specs.Marked.{task_marks, Lent, Fits, Marked}
use Rattle.marks.specs.Steps.{passed_in, sure_in, sure_in_first, fitting, Filled, whole_states, round_states, passed_states, Settled, MarkedTo}
use Rattle.marks.proofs.Counts.{rows_ascend, levels_descend}

-- two loops around a block have different levels there
pub levels_apart : (c : Contents) (b i m : ℕ) → i < length (all_loops c) → m < length (all_loops c) → Within (loop_at (all_loops c) i) b
    → Within (loop_at (all_loops c) m) b → m ≢ i → level_of c b m ≢ level_of c b i
levels_apart c b i m hi hm wi wm ne e = elim (cases_lt i m) [
  | inl l ↦ (let d = levels_descend b (all_loops c) i m l hm (true_within (loop_at (all_loops c) m) b wm) in omega arith)
  | inr l ↦ (let d = levels_descend b (all_loops c) m i (omega arith) hi (true_within (loop_at (all_loops c) i) b wi) in omega arith)
]

module _ (c : Contents) (marks : Marks) (i : ℕ) where
  -- the next block of loop i
  module _ (b : ℕ) (before after : List (List Category)) (category : ℕ → Category) (hi : i < length (all_loops c)) (hb : b < length c.blocks)
      (wi : Within (loop_at (all_loops c) i) b) (done : MarkedTo c marks i b before)
      (f : Filled before after (total_fetches (take b c.blocks)) (fetches_of c b) (level_of c b i) category)
      (is : (j : ℕ) → j < fetches_of c b → category j ≡ marks b j i) where
    same_block : (j m : ℕ) → j < fetches_of c b → m < length (all_loops c) → Within (loop_at (all_loops c) m) b → (m < i) ⊎ ((m ≡ i) × (b < b + 1))
        → mark_at c after b j m ≡ marks b j m
    same_block j m hj hm wm way = elim (cases_eq m i) [
      | inl q ↦ subst (λ n. mark_at c after b j n ≡ marks b j n) (sym q) (f.here j hj ∙ is j hj)
      | inr ne ↦ f.elsewhere (row_of c b j) (level_of c b m) (inr (inr (levels_apart c b i m hi hm wi wm ne)))
          ∙ done b j m hb hj hm wm (inl (elim way [ inl l ↦ l | inr e ↦ absurd (ne e.0) ]))
    ]

    other_row : (d j : ℕ) → d < length c.blocks → j < fetches_of c d → d ≢ b
        → (row_of c d j < total_fetches (take b c.blocks)) ⊎ (total_fetches (take b c.blocks) + fetches_of c b ≤ row_of c d j)
    other_row d j hd hj ne = elim (cases_lt d b) [
      | inl l ↦ inl (let r = rows_ascend c.blocks d b l (omega arith) in omega arith)
      | inr l ↦ inr (let r = rows_ascend c.blocks b d (omega arith) (omega arith) in omega arith)
    ]

    pub marked_block : MarkedTo c marks i (b + 1) after
    marked_block d j m hd hj hm wm way = elim (cases_eq d b) [
      | inl e ↦ subst (λ n. j < fetches_of c n → Within (loop_at (all_loops c) m) n → mark_at c after n j m ≡ marks n j m) (sym e)
          (λ h w. same_block j m h hm w (elim way [ inl l ↦ inl l | inr q ↦ inr (q.0, omega arith) ])) hj wm
      | inr ne ↦ f.elsewhere (row_of c d j) (level_of c d m) (elim (other_row d j hd hj ne) [ inl l ↦ inl l | inr l ↦ inr (inl l) ])
          ∙ done d j m hd hj hm wm (elim way [ inl l ↦ inl l | inr q ↦ inr (q.0, omega (arith, q.1)) ])
    ]

  -- before its header loop i has no block, and after its last none is left
  pub marked_begun : (table : List (List Category)) → MarkedTo c marks i 0 table → MarkedTo c marks i (loop_at (all_loops c) i).header table
  marked_begun table done d j m hd hj hm wm way = done d j m hd hj hm wm (elim way [
    | inl l ↦ inl l
    | inr q ↦ absurd (let w : Within (loop_at (all_loops c) i) d = subst (λ n. Within (loop_at (all_loops c) n) d) q.0 wm in omega (arith, w.0, q.1))
  ])

  pub marked_loop : (b : ℕ) (table : List (List Category)) → (loop_at (all_loops c) i).last < b → MarkedTo c marks i b table → MarkedTo c marks (i + 1) 0 table
  marked_loop b table l done d j m hd hj hm wm way = done d j m hd hj hm wm (elim (cases_eq m i) [
    | inl q ↦ inr (q, (let w : Within (loop_at (all_loops c) i) d = subst (λ n. Within (loop_at (all_loops c) n) d) q wm in omega (arith, w.1)))
    | inr ne ↦ inl (elim way [ inl k ↦ omega arith | inr q ↦ absurd (omega (arith, q.1)) ])
  ])

module _ (c : Contents) (marks : Marks) (table : List (List Category)) where
  pub marked_none : MarkedTo c marks 0 0 table
  marked_none d j m hd hj hm wm way = absurd (elim way [ inl l ↦ omega arith | inr q ↦ omega (arith, q.1) ])

  pub marked_all : (n : ℕ) → length (all_loops c) ≤ n → MarkedTo c marks n 0 table → Agrees c table marks
  marked_all n l done b j i hb hj hi w = done b j i hb hj hi w (inl (omega arith))

-- two tests that agree on the starts of a task's edges
module _ (c : Contents) (format : InFormat c) (f g : ℕ → Bool) (same : (x : ℕ) → x < length c.blocks → f x ≡ g x) where
  all_same : (xs : List ℕ) → ((x : ℕ) → Among x xs → f x ≡ g x) → list_all f xs ≡ list_all g xs
  all_same [] h = refl
  all_same (x ∷ xs) h = ap₂ ◌&&◌ (h x (inl refl)) (all_same xs (λ y m. h y (inr m)))

  pub starts_same : (test : Edge → Bool) → list_all f (starts test c.edges) ≡ list_all g (starts test c.edges)
  starts_same test = all_same (starts test c.edges) (λ x m.
      let s = starts_among test c.edges x m in
      let r = (edge_range_at c format s.0 s.1).from in
      let some = (ranges c format).some in
      same x (omega (arith, s.3)))

settled_at : {K : Type 0} (k : Kind K) (c : Contents) (states settled : List K) → Settled c states settled
    → (b : ℕ) → b < length c.blocks → state_at k states b ≡ state_at k settled b
settled_at k c states settled s b h =
    sym (get_or-take (length c.blocks) states b k.nothing_yet h) ∙ ap (λ xs. state_at k xs b) s.front

-- the state behind a reference that is there if the gate is
pub copied_if : {K : Type 0} (gate : Bool) (x : Bor K) → option_copied (then_some gate x) ≡ then_some gate x.now
copied_if true x = refl
copied_if false x = refl

-- a first round's state is asked only where the further rounds are gated
gated_first : {K : Type 0} (kind : Geometry → Kind K) (fetched : Geometry → ℕ → K → K) (c : Contents) (gate : Bool) (y : K) (b j : ℕ)
    → sure_in_first kind fetched c (then_some gate y) b j ≡ (gate && sure_in kind fetched c y b j)
gated_first kind fetched c true y b j = refl
gated_first kind fetched c false y b j = refl

module _ {K : Type 0} (kind : Geometry → Kind K) (fetched : Geometry → ℕ → K → K) (c : Contents) (format : InFormat c) (i b : ℕ) (hb : b < length c.blocks) where
  -- what is read from settled states gives the marks
  pub fitting_marks : (settled first : List K) (passed : List PassedBlocks) (x y : K) (gate : Bool)
      → Settled c settled (whole_states kind c) → Settled c first (round_states kind c i) → Settled c passed (passed_states c)
      → x ≡ state_at (kind c.header.geometry) settled b → y ≡ state_at (kind c.header.geometry) first b
      → gate ≡ gated (passed_in (length c.blocks) passed) c (loop_at (all_loops c) i) b
      → (j : ℕ) → fitting kind fetched c (loop_at (all_loops c) i) b x (then_some gate y) j ≡ task_marks kind fetched c b j i
  fitting_marks settled first passed x y gate s f p ex ey eg j =
      let k = kind c.header.geometry in
      let l = loop_at (all_loops c) i in
      let q = passed_kind (length c.blocks) in
      let whole : x ≡ state_at k (whole_states kind c) b = ex ∙ settled_at k c settled (whole_states kind c) s b hb in
      let round : y ≡ state_at k (round_states kind c i) b = ey ∙ settled_at k c first (round_states kind c i) f b hb in
      let gates : gate ≡ gated (passed_by q c) c l b =
      eg ∙ starts_same c format (λ z. eqb b z || passed_in (length c.blocks) passed z b) (λ z. eqb b z || passed_by q c z b)
      (λ z h. ap (λ st. eqb b z || q.sure st b) (settled_at q c passed (passed_states c) p z h)) (leads_back l) in
      ap (first_fitting (sure_in kind fetched c x b j) (alone c l (line_of c b j))) (gated_first kind fetched c gate y b j)
      ∙ ap (λ v. first_fitting (sure_in kind fetched c v b j) (alone c l (line_of c b j)) (gate && sure_in kind fetched c y b j)) whole
      ∙ ap₂ (λ v u. first_fitting (sure_in kind fetched c (state_at k (whole_states kind c) b) b j) (alone c l (line_of c b j)) (u && sure_in kind fetched c v b j)) round gates

-- what is done at a block of loop i
module _ {K : Type 0} (kind : Geometry → Kind K) (fetched : Geometry → ℕ → K → K) (c : Contents) (format : InFormat c) (i : ℕ) (hi : i < length (all_loops c)) where
  pub block_marked : (b : ℕ) (before after : List (List Category)) (settled first : List K) (passed : List PassedBlocks)
      (range : Loop) (row level : ℕ) (x y : K) (gate : Bool)
      → Settled c settled (whole_states kind c) → Settled c first (round_states kind c i) → Settled c passed (passed_states c)
      → range ≡ loop_at (all_loops c) i → row ≡ total_fetches (take b c.blocks) → level ≡ level_of c b i
      → b < length c.blocks → range.header ≤ b → b ≤ range.last
      → x ≡ get_or settled b x → y ≡ get_or first b y → gate ≡ gated (passed_in (length c.blocks) passed) c range b
      → MarkedTo c (task_marks kind fetched c) i b before
      → Filled before after row (fetches_of c b) level (fitting kind fetched c range b x (then_some gate y))
      → MarkedTo c (task_marks kind fetched c) i (b + 1) after
  block_marked b before after settled first passed range row level x y gate s f p er ew el hb low high ex ey eg done filled =
      let k = kind c.header.geometry in
      let l = loop_at (all_loops c) i in
      let h = ap (λ (r : Loop). r.header) er in
      let q = ap (λ (r : Loop). r.last) er in
      let w : Within (loop_at (all_loops c) i) b = (omega arith, omega arith) in
      let ranged = subst (λ r. Filled before after row (fetches_of c b) level (fitting kind fetched c r b x (then_some gate y))) er filled in
      let rowed = subst (λ n. Filled before after n (fetches_of c b) level (fitting kind fetched c l b x (then_some gate y))) ew ranged in
      let placed = subst (λ n. Filled before after (total_fetches (take b c.blocks)) (fetches_of c b) n (fitting kind fetched c l b x (then_some gate y))) el rowed in
      let rs = s.room in
      let rf = f.room in
      marked_block c (task_marks kind fetched c) i b before after (fitting kind fetched c l b x (then_some gate y)) hi hb w done placed
      (λ j m. fitting_marks kind fetched c format i b hb settled first passed x y gate s f p
      (get_or_read settled b x (omega arith) ex k.nothing_yet) (get_or_read first b y (omega arith) ey k.nothing_yet)
      (eg ∙ ap (λ r. gated (passed_in (length c.blocks) passed) c r b) er) j)

-- the answer of a task that is marked
pub marked_some : {K : Type 0} (kind : Geometry → Kind K) (fetched : Geometry → ℕ → K → K) (c : Contents) (before after : Lent K) (o : Option ℕ)
    → o ≡ Some (task_states (kind c.header.geometry) c).1 → Fits c before → Agrees c after.table (task_marks kind fetched c)
    → Marked kind fetched c before o after
marked_some kind fetched c before after o e fits agrees = subst (λ p. Marked kind fetched c before p after) (sym e) (fits, refl, agrees)
