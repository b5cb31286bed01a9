-- A sound task's lists are taken.
use Rattle.std.proofs.Common.{◌≡◌, ℕ, zero, suc, ◌+◌, ◌*◌, ◌<◌, ◌≤◌, Bool, true, ◌&&◌, ltb, leb, List, [], ◌∷◌, ◌++◌, length, get_or, take, drop, Some, refl, inl, inr, le_of_suc-le-suc, arith}
use Rattle.std.proofs.ByRecursion.{All-get_or}
use Rattle.std.proofs.lemmas.Bool.{cases_Bool, cases_lt, and_from, le-leb, lt-ltb, leb-false}
use Rattle.records.specs.declared.parts.Loop.{Loop}
use Rattle.records.specs.Contents.{Contents}
use Rattle.records.specs.Layout.{InFormat}
use Rattle.records.proofs.Ranges.{LoopRange, EdgeRange, ranges}
use Rattle.task.specs.Graph.{block_at, loop_at, edge_at}
use Rattle.task.specs.Rules.{Sound}
use Rattle.task.specs.declared.fault.GraphRule.TheVariants.{LoopOrder, Address}
use Rattle.walks.specs.Walk.{all_loops}
use Rattle.facts.specs.Kind.{Kind}
use Rattle.facts.specs.Space.{placed}
use Rattle.facts.specs.Settling.{region_of, settled, entry_state}
use Rattle.std.specs.List.{list_all}
use Rattle.settle.specs.Outcome.{roomy, settleable, outcome, starts_below, entry_of}
use Rattle.settle.proofs.Steps.{no_block, no_edge}

pub every_from : {X : Type 0} (test : X → Bool) (d : X) (xs : List X) → ((i : ℕ) → i < length xs → test (get_or xs i d) ≡ true) → list_all test xs ≡ true
every_from test d [] h = refl
every_from test d (x ∷ xs) h = and_from (test x) (list_all test xs) (h 0 (omega arith)) (every_from test d xs (λ i l. h (suc i) (omega arith)))

module _ (c : Contents) (format : InFormat c) (sound : Sound c) (room : ℕ) (long : length c.blocks ≤ room) where
  task_placed : list_all placed c.blocks ≡ true
  task_placed = every_from placed no_block c.blocks (λ b l. elim (cases_Bool (placed (block_at c.blocks b))) [
    | inl e ↦ e
    | inr e ↦ absurd (sound Address b (l, inr (leb-false ((block_at c.blocks b).address + 4 * (block_at c.blocks b).fetches) 16777216 e)))
  ])

  pub task_roomy : roomy c.blocks room ≡ true
  task_roomy =
      and_from (leb (length c.blocks) 128) (leb (length c.blocks) room && list_all placed c.blocks)
      (le-leb (length c.blocks) 128 (ranges c format).few_blocks)
      (and_from (leb (length c.blocks) room) (list_all placed c.blocks) (le-leb (length c.blocks) room long) task_placed)

  loop_order : (i : ℕ) → i < length (all_loops c) → ((loop_at (all_loops c) i).header ≤ (loop_at (all_loops c) i).last) × ((loop_at (all_loops c) i).last < length c.blocks)
  loop_order zero l = let s = (ranges c format).some in (omega arith, omega arith)
  loop_order (suc i) l =
      let q = All-get_or (LoopRange (length c.blocks)) c.loops i (record { header = 0; last = 0; limit = 0 }) (le_of_suc-le-suc l) (ranges c format).loops in
      let s = (ranges c format).some in
      let high = q.last in (
        elim (cases_lt (loop_at c.loops i).last (loop_at c.loops i).header)
            [ inl bad ↦ absurd (sound LoopOrder i (le_of_suc-le-suc l, inl bad)) | inr good ↦ good ],
        omega arith,
      )

  pub task_settleable : (i : ℕ) → i < length (all_loops c) → settleable (region_of c.blocks c.edges (loop_at (all_loops c) i)) room ≡ true
  task_settleable i l =
      let r : Loop = loop_at (all_loops c) i in
      and_from (leb r.header r.last) (ltb r.last (length c.blocks) && roomy c.blocks room) (le-leb r.header r.last (loop_order i l).0)
      (and_from (ltb r.last (length c.blocks)) (roomy c.blocks room) (lt-ltb r.last (length c.blocks) (loop_order i l).1) task_roomy)

  pub task_starts : list_all (starts_below (length c.blocks)) c.edges ≡ true
  task_starts = every_from (starts_below (length c.blocks)) no_edge c.edges (λ j l.
      let q = (All-get_or (EdgeRange (length c.blocks)) c.edges j no_edge l (ranges c format).edges).from in
      let s = (ranges c format).some in
      lt-ltb (edge_at c.edges j).from (length c.blocks) (omega arith))

-- so settling a task's loop answers with its passes, and a stay's first state is known
module _ {K : Type 0} (k : Kind K) (taken : Bool) (takes : taken ≡ true) (c : Contents) (format : InFormat c) (sound : Sound c)
    (xs : List K) (long : length c.blocks ≤ length xs) (i : ℕ) (l : i < length (all_loops c)) where
  pub task_outcome : (entry : K) → outcome k taken (region_of c.blocks c.edges (loop_at (all_loops c) i)) entry xs
      ≡ (
        Some (settled k (region_of c.blocks c.edges (loop_at (all_loops c) i)) entry).1,
        (settled k (region_of c.blocks c.edges (loop_at (all_loops c) i)) entry).0 ++ drop (length c.blocks) xs,
      )
  task_outcome entry =
      let on : (taken && settleable (region_of c.blocks c.edges (loop_at (all_loops c) i)) (length xs)) ≡ true =
      and_from taken (settleable (region_of c.blocks c.edges (loop_at (all_loops c) i)) (length xs)) takes (task_settleable c format sound (length xs) long i l) in
      rw (on, outcome) refl

  pub task_entry : entry_of k taken (region_of c.blocks c.edges (loop_at (all_loops c) i)) xs
      ≡ Some (entry_state k (region_of c.blocks c.edges (loop_at (all_loops c) i)) (take (length c.blocks) xs))
  task_entry =
      let on : (taken && (roomy c.blocks (length xs) && list_all (starts_below (length c.blocks)) c.edges)) ≡ true =
      and_from taken (roomy c.blocks (length xs) && list_all (starts_below (length c.blocks)) c.edges) takes
      (and_from (roomy c.blocks (length xs)) (list_all (starts_below (length c.blocks)) c.edges)
      (task_roomy c format sound (length xs) long) (task_starts c format sound (length xs) long)) in
      rw (on, entry_of) refl
