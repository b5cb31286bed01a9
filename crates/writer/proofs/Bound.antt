-- How long the text of a record can be.
use Rattle.std.proofs.Common.{◌≡◌, ℕ, ◌+◌, ◌*◌, ◌^◌, ◌<◌, ◌≤◌, true, eqb, List, [], ◌∷◌, ◌++◌, length, codes, decimal, ap, ◌∙◌, inl, inr, suc-mul, arith, length-append}
use Rattle.std.specs.List.{AllByRecursion}
use Rattle.std.proofs.ByRecursion.{All-weaker}
use Rattle.std.proofs.lemmas.Fmt.{length-decimal-le}
use Rattle.std.proofs.lemmas.Bool.{or_cases, eqb-true}
use Rattle.syntax.specs.Line.{line_text}
use Rattle.records.specs.declared.parts.Header.{Header}
use Rattle.records.specs.declared.parts.Block.{Block}
use Rattle.records.specs.declared.parts.Loop.{Loop}
use Rattle.records.specs.declared.parts.Edge.{Edge}
use Rattle.records.specs.Contents.{Contents}
use Rattle.records.specs.Layout.{one_of, block_row, loop_row, edge_row, InFormat, record_text}
use Rattle.records.proofs.Ranges.{HeaderRange, BlockRange, LoopRange, EdgeRange, Ranges, ranges}
use Rattle.writer.specs.Parts.{header_text, rows_text, list_text}
use Rattle.writer.proofs.Parts.{line-append, blocks_text, loops_text, edges_text, record_parts}

-- a number of a list is at most what the list is at most
one_of_most : (m : ℕ) (ys : List ℕ) (x : ℕ) → AllByRecursion (λ y. y ≤ m) ys → one_of ys x ≡ true → x ≤ m
one_of_most m [] x h e = let z : ◌≡◌ {A = ℕ} 0 1 = cc in absurd (omega arith)
one_of_most m (y ∷ ys) x h e = elim (or_cases (eqb x y) (one_of ys x) e) [
  | inl p ↦ omega (arith, eqb-true x y p, h.0)
  | inr q ↦ one_of_most m ys x h.1 q
]

-- a number of at most eight digits
pub eight : (n : ℕ) → n < 10 ^ 8 → length (decimal n) ≤ 8
eight n h = length-decimal-le 8 n (omega arith) h (omega arith)

header-length : (h : Header) → HeaderRange h → length (header_text h) ≤ 75
header-length h r =
    let line-most = one_of_most 64 (4 ∷ 8 ∷ 16 ∷ 32 ∷ 64 ∷ []) h.geometry.line (omega arith) r.line in
    let slots-most = one_of_most 64 (1 ∷ 2 ∷ 4 ∷ 8 ∷ 16 ∷ 32 ∷ 64 ∷ []) h.geometry.slots (omega arith) r.slots in
    let line = eight h.geometry.line (omega arith) in
    let slots = eight h.geometry.slots (omega arith) in
    let hit = eight h.hit (omega arith) in
    let penalty = eight h.penalty (omega arith) in
    let window = eight h.window (omega arith) in
    simp length-append (omega arith)

block-length : (b : Block) → BlockRange b → length (line_text (codes "block=") (block_row b) []) ≤ 24
block-length b r =
    let address = length-decimal-le 8 b.address (omega arith) (omega arith) (omega arith) in
    let fetches = length-decimal-le 2 b.fetches (omega arith) (omega arith) (omega arith) in
    let cycles = length-decimal-le 5 b.cycles (omega arith) (omega arith) (omega arith) in
    simp length-append (omega arith)

loop-length : (n : ℕ) → n ≤ 128 → (l : Loop) → LoopRange n l → length (line_text (codes "loop=") (loop_row l) []) ≤ 19
loop-length n few l r =
    let header = length-decimal-le 3 l.header (omega arith) (omega arith) (omega arith) in
    let last = length-decimal-le 3 l.last (omega arith) (omega arith) (omega arith) in
    let limit = length-decimal-le 5 l.limit (omega arith) (omega arith) (omega arith) in
    simp length-append (omega arith)

edge-length : (n : ℕ) → n ≤ 128 → (e : Edge) → EdgeRange n e → length (line_text (codes "edge=") (edge_row e) []) ≤ 13
edge-length n few e r =
    let from = length-decimal-le 3 e.from (omega arith) (omega arith) (omega arith) in
    let to = length-decimal-le 3 e.to (omega arith) (omega arith) (omega arith) in
    simp length-append (omega arith)

-- lines of at most k bytes each
rows-length : {X : Type 0} (key : List ℕ) (row : X → List ℕ) (k : ℕ) (xs : List X) → AllByRecursion (λ x. length (line_text key (row x) []) ≤ k) xs → length (rows_text key row xs) ≤ length xs * k
rows-length key row k [] h = omega arith
rows-length key row k (x ∷ xs) h =
    let rest = rows_text key row xs in
    let whole = ap length (line-append key (row x) [] rest) ∙ length-append (line_text key (row x) []) rest in
    omega (arith, whole, h.0, rows-length key row k xs h.1, suc-mul (length xs) k)

-- a counted list of fewer than 10 ^ 8 of them
list_length : {X : Type 0} (heading key : List ℕ) (row : X → List ℕ) (k : ℕ) (xs : List X) → length xs < 10 ^ 8 → AllByRecursion (λ x. length (line_text key (row x) []) ≤ k) xs
    → length (list_text heading key row xs) ≤ length heading + 9 + length xs * k
list_length heading key row k xs few h =
    let count = eight (length xs) few in
    let rows = rows-length key row k xs h in
    simp length-append (omega arith)

-- the length of four texts in a row
four_length : (a b c d : List ℕ) → length (a ++ (b ++ (c ++ d))) ≡ length a + length b + length c + length d
four_length a b c d = simp length-append (omega arith)

-- a record's text is never longer than a text may be
pub text_bound : (c : Contents) → InFormat c → length (record_text c) ≤ 16384
text_bound c f =
    let r : Ranges c = ranges c f in
    let n : ℕ = length c.blocks in
    let header = header-length c.header r.header in
    let blocks = list_length (codes "blocks=") (codes "block=") block_row 24 c.blocks (omega arith) (All-weaker BlockRange _ block-length c.blocks r.blocks) in
    let loops = list_length (codes "loops=") (codes "loop=") loop_row 19 c.loops (omega arith) (All-weaker (LoopRange n) _ (loop-length n r.few_blocks) c.loops r.loops) in
    let edges = list_length (codes "edges=") (codes "edge=") edge_row 13 c.edges (omega arith) (All-weaker (EdgeRange n) _ (edge-length n r.few_blocks) c.edges r.edges) in
    let whole = ap length (record_parts c) ∙ four_length (header_text c.header) (blocks_text c.blocks) (loops_text c.loops) (edges_text c.edges) in
    omega arith
