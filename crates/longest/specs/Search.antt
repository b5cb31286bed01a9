-- The search for the greatest charge: the loops from the last to the first, so that inner loops come before those around them.
use Rattle.std.specs.Prelude.{ℕ, zero, suc, Bool, true, false, cond, ◌&&◌, List, [], ◌∷◌, map, length, drop, ◌==◌, nat_le, nat_lt, slice_index_or, slice_set}
use Rattle.std.specs.List.{range_with_len, fold}
use Rattle.records.specs.declared.parts.Loop.{Loop}
use Rattle.records.specs.declared.parts.Edge.{Edge}
use Rattle.records.specs.Contents.{Contents}
use Rattle.task.specs.Graph.{within}
use Rattle.walks.specs.Walk.{all_loops}
use Rattle.tally.specs.Laws.{Ops}
use Rattle.longest.specs.declared.ByRound.{ByRound}
use Rattle.longest.specs.declared.Cell.{Cell}
use Rattle.longest.specs.Charge.{Costs}

abbrev pub by_round : {T : Type 0} → T → T → ByRound T
by_round x y = record { first = x; later = y }

abbrev pub cell_of : {T : Type 0} → ℕ → ByRound T → ByRound T → Cell T
cell_of a r w = record { anchor = a; reach = r; weight = w }

-- an edge leads forward inside the loop
abbrev pub forward : Loop → Edge → Bool
forward l e = nat_le l.header e.from && (nat_lt e.from e.to && nat_le e.to l.last)

-- an edge leads back to the loop's header
abbrev pub backward : Loop → Edge → Bool
backward l e = e.to == l.header && nat_le l.header e.from

module _ {T : Type 0} (m : Ops T) where
  abbrev pub greater : T → T → T
  greater x y = cond (m.below x y) y x

  -- nothing, in either kind of round
  abbrev pub none_yet : ByRound T
  none_yet = by_round m.none m.none

  -- the sum, and the greater, in each kind of round
  abbrev pub plus_both : ByRound T → ByRound T → ByRound T
  plus_both x y = by_round (m.plus x.first y.first) (m.plus x.later y.later)

  abbrev pub greater_both : ByRound T → ByRound T → ByRound T
  greater_both x y = by_round (greater x.first y.first) (greater x.later y.later)

  abbrev pub cell_at : List (Cell T) → ℕ → Cell T
  cell_at s b = slice_index_or s b (cell_of 0 none_yet none_yet)

  -- the greatest charge of a round that has entered block b: to its anchor, and from there on
  abbrev pub value : List (Cell T) → ℕ → ByRound T
  value s b = plus_both (cell_at s (cell_at s b).anchor).reach (cell_at s b).weight

  -- block b is reached with the charge x as well
  abbrev pub arrived : List (Cell T) → ℕ → ByRound T → List (Cell T)
  arrived s b x = slice_set s b (cell_of (cell_at s b).anchor (greater_both (cell_at s b).reach x) (cell_at s b).weight)

  -- what an edge ends at is reached with the charge of what it leaves
  abbrev pub pushed : Loop → Edge → List (Cell T) → List (Cell T)
  pushed l e s = elim (forward l e) [ true ↦ arrived s e.to (value s e.from) | false ↦ s ]

  -- one round of a loop, by its edges in their order
  abbrev pub round_of : Loop → List Edge → List (Cell T) → List (Cell T)
  round_of l [] s = s
  round_of l (e ∷ es) s = round_of l es (pushed l e s)

  -- the greatest charge of a round that can go on to another
  abbrev pub turned : Loop → List (Cell T) → List Edge → ByRound T → ByRound T
  turned l s [] x = x
  turned l s (e ∷ es) x = turned l s es (elim (backward l e) [ true ↦ greater_both x (value s e.from) | false ↦ x ])

  -- the greatest charge of a stay of n rounds before its last round
  abbrev pub before : T → ByRound T → ℕ → T
  before stay turn zero = m.none
  before stay turn (suc zero) = stay
  before stay turn (suc (suc n)) = m.plus stay (m.plus turn.first (m.times n turn.later))

  -- the greatest charge of a stay whose last round has this value: of one round, or of as many as the limit allows
  abbrev pub whole : ℕ → T → ByRound T → ByRound T → T
  whole limit stay turn x =
      elim (nat_lt 1 limit) [
        | true ↦ greater (m.plus stay x.first) (m.plus (before stay turn limit) x.later)
        | false ↦ m.plus stay
            x.first
      ]

  -- a block of a loop that is done: it hangs on the loop's header, with the charge of a whole stay
  abbrev pub stayed : Loop → T → Cell T
  stayed l x = cell_of l.header none_yet (by_round x x)

  abbrev pub closed_cell : Loop → T → ByRound T → List (Cell T) → ℕ → Cell T
  closed_cell l stay turn s b = elim (within l b) [ true ↦ stayed l (whole l.limit stay turn (value s b)) | false ↦ cell_at s b ]

  -- the loop is done
  abbrev pub closed : Loop → T → ByRound T → List (Cell T) → List (Cell T)
  closed l stay turn s = map (closed_cell l stay turn s) (range_with_len 0 (length s))

  abbrev pub loop_done : List Edge → Loop → T → List (Cell T) → List (Cell T)
  loop_done es l stay s =
      let r = round_of l es s in
      closed l stay (turned l r es none_yet) r

  -- the loops from number i on
  abbrev pub loops_done : List Edge → (ℕ → T) → List Loop → ℕ → List (Cell T) → List (Cell T)
  loops_done es stay [] i s = s
  loops_done es stay (l ∷ ls) i s = loop_done es l (stay i) (loops_done es stay ls (suc i) s)

  module _ (costs : Costs T) where
    -- every block by itself
    abbrev pub start_cell : ℕ → Cell T
    start_cell b = cell_of b none_yet (by_round (costs.first b) (costs.later b))

    abbrev pub start_cells : ℕ → List (Cell T)
    start_cells n = map start_cell (range_with_len 0 n)

    -- what is held when the loops from number i on are done
    abbrev pub table_from : Contents → ℕ → List (Cell T)
    table_from c i = loops_done c.edges costs.stay (drop i (all_loops c)) i (start_cells (length c.blocks))

    -- the greatest charge to each block, as its weight in a first round
    abbrev pub table : Contents → List (Cell T)
    table c = table_from c 0

  -- the greatest charge to any block
  abbrev pub highest : List (Cell T) → T → T
  highest s x = fold (λ y cell. greater y cell.weight.first) x s

  abbrev pub figure_of : Costs T → Contents → T
  figure_of costs c = highest (table costs c) m.none
