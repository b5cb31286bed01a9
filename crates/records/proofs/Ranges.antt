-- The format of a record as plain inequalities.
use Rattle.std.proofs.Common.{◌≡◌, ℕ, ◌-◌, ◌≤◌, Bool, true, ◌&&◌, leb, List, [], ◌∷◌, ◌++◌, map, length, codes}
use Rattle.std.proofs.lemmas.Bool.{and_parts, leb-true}
use Rattle.std.specs.List.{AllByRecursion}
use Rattle.std.proofs.ByRecursion.{All-weaker}
use Rattle.syntax.specs.Line.{Form, in_ranges, short}
use Rattle.syntax.specs.Format.{Format, lines, follows}
use Rattle.syntax.specs.Format.Format.{end, line}
use Rattle.records.specs.declared.parts.Header.{Header}
use Rattle.records.specs.declared.parts.Block.{Block}
use Rattle.records.specs.declared.parts.Loop.{Loop}
use Rattle.records.specs.declared.parts.Edge.{Edge}
use Rattle.records.specs.Contents.{Contents}
use Rattle.records.specs.Layout.{between, one_of, single, first, slots_form, hit_form, penalty_form, window_form, blocks_form, block_form, loop_form, edge_form, block_row, loop_row, edge_row, counted, header_rows, edges_format, loops_format, header_format, InFormat}

pub record HeaderRange (h : Header) : Type 0 where
  pub line : one_of (4 ∷ 8 ∷ 16 ∷ 32 ∷ 64 ∷ []) h.geometry.line ≡ true
  pub slots : one_of (1 ∷ 2 ∷ 4 ∷ 8 ∷ 16 ∷ 32 ∷ 64 ∷ []) h.geometry.slots ≡ true
  pub hit_low : 1 ≤ h.hit
  pub hit_high : h.hit ≤ 255
  pub penalty : h.penalty ≤ 4095
  pub window_low : 1 ≤ h.window
  pub window_high : h.window ≤ 99999999

pub record BlockRange (b : Block) : Type 0 where
  pub address : b.address ≤ 16777215
  pub some : 1 ≤ b.fetches
  pub fetches : b.fetches ≤ 64
  pub cycles : b.cycles ≤ 65535

-- of a loop in a task of n blocks
pub record LoopRange (n : ℕ) (l : Loop) : Type 0 where
  pub low : 1 ≤ l.header
  pub header : l.header ≤ n - 1
  pub last : l.last ≤ n - 1
  pub some : 1 ≤ l.limit
  pub limit : l.limit ≤ 65535

-- of an edge in a task of n blocks
pub record EdgeRange (n : ℕ) (e : Edge) : Type 0 where
  pub from : e.from ≤ n - 1
  pub to : e.to ≤ n - 1

pub record Ranges (c : Contents) : Type 0 where
  pub header : HeaderRange c.header
  pub some : 1 ≤ length c.blocks
  pub few_blocks : length c.blocks ≤ 128
  pub blocks : AllByRecursion BlockRange c.blocks
  pub few_loops : length c.loops ≤ 15
  pub loops : AllByRecursion (LoopRange (length c.blocks)) c.loops
  pub few_edges : length c.edges ≤ 512
  pub edges : AllByRecursion (EdgeRange (length c.blocks)) c.edges

pub between_parts : (low high x : ℕ) → between low high x ≡ true → (low ≤ x) × (x ≤ high)
between_parts low high x h =
    let p = and_parts (leb low x) (leb x high) h in
    (leb-true low x p.0, leb-true x high p.1)

-- the first line, and the lines after it
pub first_line : (f : Form) (next : List ℕ → Format) (fs : List ℕ) (more : List (List ℕ)) → follows (line f next) (fs ∷ more) ≡ true
    → (short fs ≡ true) × (in_ranges f.ranges fs ≡ true) × (follows (next fs) more ≡ true)
first_line f next fs more h =
    let p = and_parts (short fs && in_ranges f.ranges fs) (follows (next fs) more) h in
    let q = and_parts (short fs) (in_ranges f.ranges fs) p.0 in
    (q.0, q.1, p.1)

-- as many lines of one form as the list has entries, and the lines after them
pub listed_lines : {X : Type 0} (f : Form) (row : X → List ℕ) (xs : List X) (rest : Format) (more : List (List ℕ))
    → follows (lines (length xs) f rest) (map row xs ++ more) ≡ true
    → AllByRecursion (λ x. (short (row x) ≡ true) × (in_ranges f.ranges (row x) ≡ true)) xs × (follows rest more ≡ true)
listed_lines f row [] rest more h = (tt, h)
listed_lines f row (x ∷ xs) rest more h =
    let p = first_line f (λ _. lines (length xs) f rest) (row x) (map row xs ++ more) h in
    let q = listed_lines f row xs rest more p.2 in
    ((((p.0, p.1)), q.0), q.1)

-- a line with one number
pub one_number : (p : ℕ → Bool) (x : ℕ) → in_ranges (p ∷ []) (x ∷ []) ≡ true → p x ≡ true
one_number p x h = (and_parts (p x) true h).0

pub block_range : (b : Block) → in_ranges block_form.ranges (block_row b) ≡ true → BlockRange b
block_range b h =
    let p = and_parts (between 0 16777215 b.address) _ h in
    let q = and_parts (between 1 64 b.fetches) _ p.1 in
    let r = and_parts (between 0 65535 b.cycles) _ q.1 in
    let f = between_parts 1 64 b.fetches q.0 in
    record {
      address = (between_parts 0 16777215 b.address p.0).1;
      some = f.0;
      fetches = f.1;
      cycles = (between_parts 0 65535 b.cycles r.0).1;
    }

pub loop_range : (n : ℕ) (l : Loop) → in_ranges (loop_form n).ranges (loop_row l) ≡ true → LoopRange n l
loop_range n l h =
    let p = and_parts (between 1 (n - 1) l.header) _ h in
    let q = and_parts (between 0 (n - 1) l.last) _ p.1 in
    let r = and_parts (between 1 65535 l.limit) _ q.1 in
    let f = between_parts 1 (n - 1) l.header p.0 in
    let g = between_parts 1 65535 l.limit r.0 in
    record { low = f.0; header = f.1; last = (between_parts 0 (n - 1) l.last q.0).1; some = g.0; limit = g.1 }

pub edge_range : (n : ℕ) (e : Edge) → in_ranges (edge_form n).ranges (edge_row e) ≡ true → EdgeRange n e
edge_range n e h =
    let p = and_parts (between 0 (n - 1) e.from) _ h in
    let q = and_parts (between 0 (n - 1) e.to) _ p.1 in
    record { from = (between_parts 0 (n - 1) e.from p.0).1; to = (between_parts 0 (n - 1) e.to q.0).1 }

-- a line with one number, and the lines after it
number_line : (key : List ℕ) (range : ℕ → Bool) (next : List ℕ → Format) (x : ℕ) (more : List (List ℕ))
    → follows (line (single key range) next) ((x ∷ []) ∷ more) ≡ true → (range x ≡ true) × (follows (next (x ∷ [])) more ≡ true)
number_line key range next x more h =
    let p = first_line (single key range) next (x ∷ []) more h in
    (one_number range x p.1, p.2)

-- the counted edges
record Edges (n : ℕ) (es : List Edge) : Type 0 where
  few : length es ≤ 512
  each : AllByRecursion (EdgeRange n) es

edges_of : (n : ℕ) (es : List Edge) → follows (edges_format n) (counted edge_row es []) ≡ true → Edges n es
edges_of n es h =
    let p = number_line (codes "edges=") (between 0 512) (λ fs. lines (first fs) (edge_form n) end) (length es) (map edge_row es ++ []) h in
    let q = listed_lines (edge_form n) edge_row es end [] p.1 in
    record {
      few = (between_parts 0 512 (length es) p.0).1;
      each = All-weaker _ (EdgeRange n) (λ e t. edge_range n e t.1) es q.0;
    }

-- the counted loops, and the edges after them
record Loops (n : ℕ) (ls : List Loop) (es : List Edge) : Type 0 where
  few : length ls ≤ 15
  each : AllByRecursion (LoopRange n) ls
  edges : Edges n es

loops_of : (n : ℕ) (ls : List Loop) (es : List Edge) → follows (loops_format n) (counted loop_row ls (counted edge_row es [])) ≡ true → Loops n ls es
loops_of n ls es h =
    let p = number_line (codes "loops=") (between 0 15) (λ fs. lines (first fs) (loop_form n) (edges_format n)) (length ls) (map loop_row ls ++ counted edge_row es []) h in
    let q = listed_lines (loop_form n) loop_row ls (edges_format n) (counted edge_row es []) p.1 in
    record {
      few = (between_parts 0 15 (length ls) p.0).1;
      each = All-weaker _ (LoopRange n) (λ l t. loop_range n l t.1) ls q.0;
      edges = edges_of n es q.1;
    }

-- the lines before `blocks=`, and the lines after them
header_of : (h : Header) (rest : Format) (more : List (List ℕ)) → follows (header_format rest) (header_rows h more) ≡ true → HeaderRange h × (follows rest more ≡ true)
header_of h rest more e =
    let after_penalty : List ℕ → Format = λ _. line window_form λ _. rest in
    let after_hit : List ℕ → Format = λ _. line penalty_form after_penalty in
    let after_slots : List ℕ → Format = λ _. line hit_form after_hit in
    let after_line : List ℕ → Format = λ _. line slots_form after_slots in
    let w : List (List ℕ) = (h.window ∷ []) ∷ more in
    let m : List (List ℕ) = (h.penalty ∷ []) ∷ w in
    let n : List (List ℕ) = (h.hit ∷ []) ∷ m in
    let p = number_line (codes "line=") (one_of (4 ∷ 8 ∷ 16 ∷ 32 ∷ 64 ∷ [])) after_line h.geometry.line ((h.geometry.slots ∷ []) ∷ n) e in
    let q = number_line (codes "slots=") (one_of (1 ∷ 2 ∷ 4 ∷ 8 ∷ 16 ∷ 32 ∷ 64 ∷ [])) after_slots h.geometry.slots n p.1 in
    let r = number_line (codes "hit=") (between 1 255) after_hit h.hit m q.1 in
    let s = number_line (codes "penalty=") (between 0 4095) after_penalty h.penalty w r.1 in
    let t = number_line (codes "window=") (between 1 99999999) (λ _. rest) h.window more s.1 in
    let hit = between_parts 1 255 h.hit r.0 in
    let window = between_parts 1 99999999 h.window t.0 in (
      record {
        line = p.0;
        slots = q.0;
        hit_low = hit.0;
        hit_high = hit.1;
        penalty = (between_parts 0 4095 h.penalty s.0).1;
        window_low = window.0;
        window_high = window.1;
      },
      t.1,
    )

pub ranges : (c : Contents) → InFormat c → Ranges c
ranges c h =
    let n : ℕ = length c.blocks in
    let after_blocks : List (List ℕ) = counted loop_row c.loops (counted edge_row c.edges []) in
    let next : List ℕ → Format = λ fs. lines (first fs) block_form (loops_format (first fs)) in
    let p = header_of c.header (line blocks_form next) (counted block_row c.blocks after_blocks) h in
    let q = number_line (codes "blocks=") (between 1 128) next n (map block_row c.blocks ++ after_blocks) p.1 in
    let r = listed_lines block_form block_row c.blocks (loops_format n) after_blocks q.1 in
    let count = between_parts 1 128 n q.0 in
    let l = loops_of n c.loops c.edges r.1 in
    record {
      header = p.0;
      some = count.0;
      few_blocks = count.1;
      blocks = All-weaker _ BlockRange (λ b t. block_range b t.1) c.blocks r.0;
      few_loops = l.few;
      loops = l.each;
      few_edges = l.edges.few;
      edges = l.edges.each;
    }
