-- What an examination of a sound task is worth.
use Rattle.std.proofs.Common.{◌≡◌, ℕ, ◌+◌, ◌*◌, ◌≤◌, Bool, true, List, length, vec_items, sym, ap, ◌∙◌, subst, ap₂, arith}
use Rattle.records.specs.declared.parts.Geometry.{Geometry}
use Rattle.records.specs.Contents.{Contents}
use Rattle.records.specs.Layout.{InFormat}
use Rattle.records.proofs.Ranges.{ranges}
use Rattle.task.specs.Rules.{Sound}
use Rattle.task.proofs.Laws.{laws}
use Rattle.walks.specs.Walk.{task_loop}
use Rattle.facts.specs.Kind.{Kind}
use Rattle.facts.specs.Laws.{Lawful, Distributing, Distributes}
use Rattle.facts.specs.Settling.{region_of, task_states}
use Rattle.facts.proofs.Exact.{exact}
use Rattle.facts.proofs.Settled.{ends}
use Rattle.cache_state.specs.Cache.{in_range}
use Rattle.cache_state.specs.Fetching.{Fetching}
use Rattle.cache_state.proofs.InRange.{record_in_range}
use Rattle.passed_kind.specs.Passed.{passed_kind}
use Rattle.tally.specs.Lawful.{cycles_lawful, pairs_lawful}
use Rattle.tally.specs.Kinds.{cycles_size, Pair, pair_size}
use Rattle.longest.proofs.Theorem as theorem
use Rattle.categories.specs.declared.category.Category.{Category}
use Rattle.categories.specs.Category.{passed_by}
use Rattle.categories.specs.Costs.{cycle_costs, pair_costs, cycle_tally, pair_tally}
use Rattle.categories.specs.Meaning.{Settled}
use Rattle.categories.proofs.Grounds.{grounds_of}
use Rattle.categories.proofs.Kept.{kept_always}
use Rattle.categories.proofs.Cover.{covered_always}
use Rattle.categories.proofs.Fits.{means}
use Rattle.marks.specs.Table.{mark_at, Agrees}
use Rattle.marks.specs.Marked.{task_marks}
use Rattle.figure.specs.declared.outcome.Figures.{Figures}
use Rattle.figure.specs.Figure.{Found, FiguresBy}
use Rattle.figure.proofs.Agree.{cycles_agree, pairs_agree}
use Rattle.figure.proofs.Pricing.{found_agree}
use Rattle.examine.specs.declared.examination.Examination.{Examination}
use Rattle.examine.specs.Findings.{Findings, each_fetch, findings, row_shown, shown}
use Rattle.examine.specs.Examined.{Finds, Warranted, Accepted}
use Rattle.examine.proofs.Categories.{categories_agree}
use Rattle.examine.proofs.Passes.{passed_test}

-- findings that are the same in all their parts
abbrev found_of : ℕ → ℕ → Pair → List (List (List Category)) → Findings
found_of p f g cs = record { passes = p; figure = f; greatest = g; categories = cs }

found_same : {p q f h : ℕ} {g k : Pair} {cs ds : List (List (List Category))} → p ≡ q → f ≡ h → g ≡ k → cs ≡ ds → found_of p f g cs ≡ found_of q h k ds
found_same {p} {q} {f} {h} {g} {k} {cs} {ds} passes figure greatest categories =
    ap₂ (λ x y. found_of x y g cs) passes figure ∙ ap₂ (found_of q h) greatest categories

module _ {K : Type 0} (takes : Geometry → Bool) (kind : Geometry → Kind K) (fetched : Geometry → ℕ → K → K)
    (everywhere : (g : Geometry) → in_range g ≡ true → takes g ≡ true) (lawful : (g : Geometry) → takes g ≡ true → Lawful (kind g)) where
  -- settling ends after few passes
  pub few_passes : (c : Contents) → InFormat c → (task_states (kind c.header.geometry) c).1 ≤ length c.blocks * (kind c.header.geometry).height + 1
  few_passes c format =
      let r = ranges c format in
      (ends (lawful c.header.geometry (everywhere c.header.geometry (record_in_range c format))) (region_of c.blocks c.edges (task_loop c))
      (kind c.header.geometry).open_state (omega arith) (omega (arith, r.some))).few

  module _ (distributing : (g : Geometry) → takes g ≡ true → Distributing (kind g)) (fetching : (g : Geometry) → takes g ≡ true → Fetching g (kind g) (fetched g))
      (spreading : (g : Geometry) (t : ℕ) → takes g ≡ true → Distributes (kind g) (fetched g t)) where
    -- the categories mean what they say, are kept, and are charged enough
    pub worth : (c : Contents) → InFormat c → Sound c → Warranted kind fetched c
    worth c format sound =
        let g = c.header.geometry in
        let passed = passed_by (passed_kind (length c.blocks)) c in
        let taken = everywhere g (record_in_range c format) in
        let settled : Settled (kind g) passed c = record {
          format = format;
          laws = laws c format sound;
          exact = exact (lawful g taken) (distributing g taken) c format (laws c format sound);
          gates = passed_test c format (laws c format sound);
        } in
        let grounds = grounds_of takes kind fetched everywhere lawful fetching spreading c passed settled in
        record {
          few = few_passes c format;
          means = means (kind g) (fetched g) passed c grounds;
          kept = kept_always (kind g) (fetched g) passed c grounds;
          covered = covered_always (kind g) (fetched g) passed c grounds;
          figure = theorem.finds cycles_lawful (cycle_costs c (task_marks kind fetched c)) c format sound;
          greatest = theorem.finds pairs_lawful (pair_costs c (task_marks kind fetched c)) c format sound;
        }

    -- the figures by a table are those by the marks that it has
    pub found_cycles : (c : Contents) (table : List (List Category)) (f : Figures) → InFormat c → Sound c → Agrees c table (task_marks kind fetched c) → FiguresBy c table f
        → Found cycle_tally (cycle_costs c (task_marks kind fetched c)) c f.cycles
    found_cycles c table f format sound agrees by =
        found_agree cycle_tally cycles_size cycles_lawful c format sound (cycle_costs c (mark_at c table)) (cycle_costs c (task_marks kind fetched c))
        (cycles_agree c (mark_at c table) (task_marks kind fetched c) agrees format sound) f.cycles by.cycles

    pub found_pairs : (c : Contents) (table : List (List Category)) (f : Figures) → InFormat c → Sound c → Agrees c table (task_marks kind fetched c) → FiguresBy c table f
        → Found pair_tally (pair_costs c (task_marks kind fetched c)) c f.greatest
    found_pairs c table f format sound agrees by =
        found_agree pair_tally pair_size pairs_lawful c format sound (pair_costs c (mark_at c table)) (pair_costs c (task_marks kind fetched c))
        (pairs_agree c (mark_at c table) (task_marks kind fetched c) agrees format sound) f.greatest by.greatest

    -- what is found, from the table that marking left
    pub finds : (c : Contents) (e : Examination) (table : List (List Category)) → InFormat c → Sound c → vec_items e.table ≡ table
        → e.passes ≡ (task_states (kind c.header.geometry) c).1 → Agrees c table (task_marks kind fetched c) → FiguresBy c table e.figures
        → Finds kind fetched c e
    finds c e table format sound same passes agrees by = record {
      passes = passes;
      few = subst (λ (n : ℕ). n ≤ length c.blocks * (kind c.header.geometry).height + 1) (sym passes) (few_passes c format);
      rows = ap length same ∙ by.rows;
      marks = subst (λ (x : List (List Category)). Agrees c x (task_marks kind fetched c)) (sym same) agrees;
      cycles = found_cycles c table e.figures format sound agrees by;
      greatest = found_pairs c table e.figures format sound agrees by;
    }

    -- and as one value
    pub shows : (c : Contents) (e : Examination) (table : List (List Category)) → InFormat c → Sound c → vec_items e.table ≡ table
        → e.passes ≡ (task_states (kind c.header.geometry) c).1 → Agrees c table (task_marks kind fetched c) → FiguresBy c table e.figures
        → shown c e ≡ findings kind fetched c
    shows c e table format sound same passes agrees by =
        found_same passes (found_cycles c table e.figures format sound agrees by).figure (found_pairs c table e.figures format sound agrees by).figure
        (ap (λ x. each_fetch c (row_shown c x)) same ∙ categories_agree c table (task_marks kind fetched c) agrees)

    -- all that an acceptance shows
    pub examined : (c : Contents) (e : Examination) (table : List (List Category)) → InFormat c → Sound c → vec_items e.table ≡ table
        → e.passes ≡ (task_states (kind c.header.geometry) c).1 → Agrees c table (task_marks kind fetched c) → FiguresBy c table e.figures
        → Accepted kind fetched c e
    examined c e table format sound same passes agrees by = record {
      finds = finds c e table format sound same passes agrees by;
      shows = shows c e table format sound same passes agrees by;
      worth = worth c format sound;
    }
