-- The rules that the graph of a task keeps.
use Rattle.std.specs.Prelude.{◌≡◌, ℕ, ◌+◌, ◌*◌, ◌%◌, ◌<◌, ◌≤◌, ◌⊎◌, List, length, ◌≢◌}
use Rattle.records.specs.declared.parts.Block.{Block}
use Rattle.records.specs.declared.parts.Loop.{Loop}
use Rattle.records.specs.declared.parts.Edge.{Edge}
use Rattle.records.specs.Contents.{Contents}
use Rattle.task.specs.declared.fault.GraphRule.{GraphRule}
use Rattle.task.specs.declared.fault.GraphRule.TheVariants.{LoopOrder, Depth, LimitProduct, EdgeOrder, BackEdge, LoopEntry, Unreached, NoBackEdge, TooManyFetches, Address}
use Rattle.task.specs.Fault.{GraphFault, number}
use Rattle.task.specs.Graph.{block_at, loop_at, edge_at, Within, levels, limits, total_fetches, Leads}

-- all of loop l is in loop m
abbrev pub Inside : Loop → Loop → Type 0
Inside l m = (m.header ≤ l.header) × (l.last ≤ m.last)

-- they share a block, and neither is inside the other
abbrev pub Cross : Loop → Loop → Type 0
Cross l m = (l.header ≤ m.last) × (m.header ≤ l.last) × (Inside l m → ⊥) × (Inside m l → ⊥)

-- loop k does not fit behind the loops before it
abbrev pub Disordered : List Loop → ℕ → Type 0
Disordered ls k =
    ((loop_at ls k).last < (loop_at ls k).header)
    ⊎ ((j : ℕ) × (j < k) × (((loop_at ls k).header ≤ (loop_at ls j).header) ⊎ Cross (loop_at ls j) (loop_at ls k)))

-- edge d comes before edge e, by from and then by to
abbrev pub Before : Edge → Edge → Type 0
Before d e = (d.from < e.from) ⊎ ((d.from ≡ e.from) × (d.to < e.to))

-- some named loop around p has the header h
abbrev pub HeadsAround : List Loop → ℕ → ℕ → Type 0
HeadsAround ls h p = (i : ℕ) × (i < length ls) × ((loop_at ls i).header ≡ h) × Within (loop_at ls i) p

-- the edge leads into loop l from outside, and not to its header
abbrev pub EntersAside : Edge → Loop → Type 0
EntersAside e l = Within l e.to × (Within l e.from → ⊥) × (e.to ≢ l.header)

-- an edge leads back from inside loop l to its header
abbrev pub Repeats : List Edge → Loop → Type 0
Repeats es l = (p : ℕ) × Leads es p l.header × Within l p

-- The ten rules: what is wrong at the loop, block or edge of a number, where n is how many blocks there are.

abbrev pub BreaksLoopOrder : List Loop → ℕ → Type 0
BreaksLoopOrder ls k = (k < length ls) × Disordered ls k

abbrev pub BreaksDepth : ℕ → List Loop → ℕ → Type 0
BreaksDepth n ls b = (b < n) × (8 < levels ls b)

abbrev pub BreaksLimitProduct : ℕ → List Loop → ℕ → Type 0
BreaksLimitProduct n ls b = (b < n) × (1000000 < limits ls b)

abbrev pub BreaksEdgeOrder : List Edge → ℕ → Type 0
BreaksEdgeOrder es k = (k < length es) × ((j : ℕ) × (j < k) × (Before (edge_at es j) (edge_at es k) → ⊥))

abbrev pub BreaksBackEdge : List Loop → List Edge → ℕ → Type 0
BreaksBackEdge ls es k =
    (k < length es) × ((edge_at es k).to ≤ (edge_at es k).from) × (HeadsAround ls (edge_at es k).to (edge_at es k).from → ⊥)

abbrev pub BreaksLoopEntry : List Loop → List Edge → ℕ → Type 0
BreaksLoopEntry ls es k =
    (k < length es) × ((edge_at es k).from < (edge_at es k).to)
    × ((i : ℕ) × (i < length ls) × EntersAside (edge_at es k) (loop_at ls i))

abbrev pub BreaksUnreached : ℕ → List Edge → ℕ → Type 0
BreaksUnreached n es b = (0 < b) × (b < n) × ((p : ℕ) → p < b → Leads es p b → ⊥)

abbrev pub BreaksNoBackEdge : List Loop → List Edge → ℕ → Type 0
BreaksNoBackEdge ls es i = (i < length ls) × (1 < (loop_at ls i).limit) × (Repeats es (loop_at ls i) → ⊥)

abbrev pub BreaksTooManyFetches : List Block → ℕ → Type 0
BreaksTooManyFetches bs p = (p ≡ 0) × (1024 < total_fetches bs)

abbrev pub BreaksAddress : List Block → ℕ → Type 0
BreaksAddress bs b =
    (b < length bs)
    × (((block_at bs b).address % 4 ≢ 0) ⊎ (16777216 < (block_at bs b).address + 4 * (block_at bs b).fetches))

-- the loop, block or edge of this number breaks the rule
abbrev pub Breaks : Contents → GraphRule → ℕ → Type 0
Breaks c LoopOrder = BreaksLoopOrder c.loops
Breaks c Depth = BreaksDepth (length c.blocks) c.loops
Breaks c LimitProduct = BreaksLimitProduct (length c.blocks) c.loops
Breaks c EdgeOrder = BreaksEdgeOrder c.edges
Breaks c BackEdge = BreaksBackEdge c.loops c.edges
Breaks c LoopEntry = BreaksLoopEntry c.loops c.edges
Breaks c Unreached = BreaksUnreached (length c.blocks) c.edges
Breaks c NoBackEdge = BreaksNoBackEdge c.loops c.edges
Breaks c TooManyFetches = BreaksTooManyFetches c.blocks
Breaks c Address = BreaksAddress c.blocks

-- no rule is broken anywhere
abbrev pub Sound : Contents → Type 0
Sound c = (rule : GraphRule) (place : ℕ) → Breaks c rule place → ⊥

-- by rule, and then by place
abbrev pub Precedes : GraphFault → GraphFault → Type 0
Precedes f g = (number f.rule < number g.rule) ⊎ ((number f.rule ≡ number g.rule) × (f.place < g.place))

-- the first rule that is broken, at its lowest place
pub record FirstBroken (c : Contents) (f : GraphFault) : Type 0 where
  pub breaks : Breaks c f.rule f.place
  pub lowest : (g : GraphFault) → Precedes g f → Breaks c g.rule g.place → ⊥
