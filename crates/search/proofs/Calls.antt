-- From an accepted call to the table, and from the table to the answer.
use Rattle.std.proofs.Common.{◌≡◌, ℕ, suc, ◌+◌, ◌-◌, ◌<◌, ◌≤◌, Bool, ◌&&◌, eqb, List, length, get_or, Decides, sym, ap, ◌∙◌, subst, ap₂, arith, drop-cons}
use Rattle.std.proofs.lemmas.Bool.{and_parts, and_from, eqb-true, eq-eqb}
use Rattle.std.proofs.lemmas.List.{get_or_read}
use Rattle.std.proofs.lemmas.List.Elements.{All-get_or}
use lib.Seq.{drop-length}
use Rattle.records.specs.declared.parts.Loop.{Loop}
use Rattle.records.specs.declared.parts.Edge.{Edge}
use Rattle.records.specs.Contents.{Contents}
use Rattle.records.specs.Layout.{InFormat}
use Rattle.task.specs.Graph.{loop_at}
use Rattle.task.specs.Rules.{Sound}
use Rattle.walks.specs.Walk.{all_loops}
use Rattle.tally.specs.Laws.{Ops, TallyLaws}
use Rattle.longest.specs.declared.Cell.{Cell}
use Rattle.longest.specs.Charge.{Costs, GreatestAt, Greatest}
use Rattle.longest.specs.Search.{cell_at, loop_done, loops_done, start_cells, table_from, table, highest, figure_of}
use Rattle.longest.specs.Sizes.{Cheap, Ready}
use Rattle.longest.proofs.Sizes.{ready}
use Rattle.longest.proofs.Theorem.{table_greatest, finds}
use Rattle.longest.proofs.Shape.{shape}
use Rattle.search.specs.Outcome.{costs_of, Fits, CostList, Accepted, Found}

module _ {T : Type 0} (size : T → ℕ) (c : Contents) (fs ns ss : List T) (s : List (Cell T)) where
  pub accepts_decides : (a b d : Bool) (n k : ℕ) → Decides a (CostList size n fs) → Decides b (CostList size n ns)
      → Decides d (CostList size (k + 1) ss) → n ≡ length c.blocks → k ≡ length c.loops
      → Decides (((a && b) && d) && eqb (length s) n) (Accepted size c fs ns ss s)
  accepts_decides a b d n k p q r n-is k-is =
      let k_suc : k + 1 ≡ suc (length c.loops) = omega arith in (
        (λ t.
            let all = and_parts ((a && b) && d) (eqb (length s) n) t in
            let three = and_parts (a && b) d all.0 in
            let two = and_parts a b three.0 in
            record {
              first = subst (λ x. CostList size x fs) n-is (p.0 two.0);
              later = subst (λ x. CostList size x ns) n-is (q.0 two.1);
              stays = subst (λ x. CostList size x ss) k_suc (r.0 three.1);
              cells = eqb-true (length s) n all.1 ∙ n-is;
            }),
        λ ok.
            let one = p.1 (subst (λ x. CostList size x fs) (sym n-is) ok.first) in
            let two = q.1 (subst (λ x. CostList size x ns) (sym n-is) ok.later) in
            let three = r.1 (subst (λ x. CostList size x ss) (sym k_suc) ok.stays) in
            and_from ((a && b) && d) (eqb (length s) n) (and_from (a && b) d (and_from a b one two) three)
            (eq-eqb (length s) n (ok.cells ∙ sym n-is)),
      )

module _ {T : Type 0} (m : Ops T) (size : T → ℕ) (c : Contents) (fs ns ss : List T) (s : List (Cell T)) (lawful : TallyLaws m size)
    (format : InFormat c) (sound : Sound c) (ok : Accepted size c fs ns ss s) where
  abbrev costs : Costs T
  costs = costs_of m fs ns ss

  cheap : Cheap size costs c
  cheap = record {
    first = λ b h. All-get_or (Fits size) fs b m.none (omega (arith, ok.first.long)) ok.first.fits;
    later = λ b h. All-get_or (Fits size) ns b m.none (omega (arith, ok.later.long)) ok.later.fits;
    stay = λ i h. All-get_or (Fits size) ss i m.none (omega (arith, ok.stays.long)) ok.stays.fits;
  }

  loops_long : length (all_loops c) ≡ length ss
  loops_long = omega (arith, ok.stays.long)

  -- no loop is done yet
  pub table_none : (n : ℕ) (u : List (Cell T)) → n ≡ length ss → u ≡ start_cells m costs (length s) → u ≡ table_from m costs c n
  table_none n u n-is u-is =
      u-is ∙ ap (start_cells m costs) ok.cells
      ∙ sym (ap (λ k. table_from m costs c k) (n-is ∙ sym loops_long)
      ∙ ap (λ ls. loops_done m c.edges costs.stay ls (length (all_loops c)) (start_cells m costs (length c.blocks))) (drop-length (all_loops c)))

  -- the loops from number n on are done, and the one before them is next
  module _ (n : ℕ) (some : 0 < n) (high : n ≤ length ss) (u : List (Cell T)) (u-is : u ≡ table_from m costs c n)
      (es : List Edge) (es-is : es ≡ c.edges) (l : Loop) (l-is : l ≡ loop_at (all_loops c) (n - 1)) (x : T) (x-is : x ≡ get_or ss (n - 1) x) where
    stay_is : x ≡ costs.stay (n - 1)
    stay_is = get_or_read ss (n - 1) x (omega arith) x-is m.none

    held_is : u ≡ table_from m costs c (suc (n - 1))
    held_is = let e : n ≡ suc (n - 1) = omega arith in u-is ∙ ap (table_from m costs c) e

    pub loop_ready : Ready m size es l x u
    loop_ready =
        subst (λ ds. Ready m size ds l x u) (sym es-is) (subst (λ k. Ready m size c.edges k x u) (sym l-is)
        (subst (λ y. Ready m size c.edges (loop_at (all_loops c) (n - 1)) y u) (sym stay_is)
        (subst (Ready m size c.edges (loop_at (all_loops c) (n - 1)) (costs.stay (n - 1))) (sym held_is)
        (ready lawful costs c format sound cheap (n - 1) (omega (arith, loops_long))))))

    pub loop_more : (v : List (Cell T)) → v ≡ loop_done m es l x u → v ≡ table_from m costs c (n - 1)
    loop_more v is =
        is ∙ ap₂ (λ ds k. loop_done m ds k x u) es-is l-is
        ∙ ap₂ (loop_done m c.edges (loop_at (all_loops c) (n - 1))) stay_is held_is
        ∙ sym (ap (λ ls. loops_done m c.edges costs.stay ls (n - 1) (start_cells m costs (length c.blocks)))
        (drop-cons (all_loops c) (n - 1) _ (omega (arith, loops_long))))

  -- every loop is done
  pub table_all : (n : ℕ) (u : List (Cell T)) → n ≡ 0 → u ≡ table_from m costs c n → u ≡ table m costs c
  table_all n u n-is u-is = u-is ∙ ap (table_from m costs c) n-is

  pub found : (w : List (Cell T)) (t : T) → w ≡ table m costs c → t ≡ highest m w m.none → Found m costs c w t
  found w t w-is t-is =
      let figure : t ≡ figure_of m costs c = t-is ∙ ap (λ y. highest m y m.none) w-is in
      record {
        greatest = subst (Greatest m costs c) (sym figure) (finds lawful costs c format sound);
        figure = figure;
        cells = w-is;
        each = λ b h.
            subst (λ y. GreatestAt m costs c b (cell_at m y b).weight.first) (sym w-is) (table_greatest lawful costs c (shape c format sound) b h);
      }
