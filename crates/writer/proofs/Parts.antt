-- The parts of a record's text, one after the other.
use Rattle.std.proofs.Common.{◌≡◌, ℕ, ◌+◌, ◌<◌, List, [], ◌∷◌, ◌++◌, map, length, get_or, take, codes, sym, refl, ap, ◌∙◌, append_assoc, append-nil}
use Rattle.std.proofs.lemmas.List.{take_more}
use Rattle.syntax.specs.Line.{Form, line_text}
use Rattle.syntax.specs.Format.{Format, lines, text_of}
use Rattle.syntax.specs.Format.Format.{end, line}
use Rattle.records.specs.declared.parts.Header.{Header}
use Rattle.records.specs.declared.parts.Block.{Block}
use Rattle.records.specs.declared.parts.Loop.{Loop}
use Rattle.records.specs.declared.parts.Edge.{Edge}
use Rattle.records.specs.Contents.{Contents}
use Rattle.records.specs.Layout.{first, header_format, header_rows, counted, block_row, loop_row, edge_row, blocks_form, block_form, loops_form, loop_form, edges_form, edge_form, edges_format, loops_format, record_text}
use Rattle.writer.specs.Parts.{header_text, rows_text, list_text}

-- a line and what follows it, and then more
pub line-append : (key fs xs ys : List ℕ) → line_text key fs (xs ++ ys) ≡ line_text key fs xs ++ ys
line-append key fs xs ys = sym (simp append_assoc)

rows_push : {X : Type 0} (key : List ℕ) (row : X → List ℕ) (xs : List X) (x : X) → rows_text key row (xs ++ (x ∷ [])) ≡ rows_text key row xs ++ line_text key (row x) []
rows_push key row [] x = refl
rows_push key row (y ∷ xs) x =
    ap (line_text key (row y)) (rows_push key row xs x) ∙ line-append key (row y) (rows_text key row xs) (line_text key (row x) [])

-- one entry more
pub rows_more : {X : Type 0} (key : List ℕ) (row : X → List ℕ) (xs : List X) (i : ℕ) (x : X) → i < length xs → x ≡ get_or xs i x
    → rows_text key row (take (i + 1) xs) ≡ rows_text key row (take i xs) ++ line_text key (row x) []
rows_more key row xs i x h e =
    ap (rows_text key row) (take_more xs i x h) ∙ rows_push key row (take i xs) (get_or xs i x)
    ∙ ap (λ y. rows_text key row (take i xs) ++ line_text key (row y) []) (sym e)

-- the lines of entries, and then more
rows_text_lem : {X : Type 0} (f : Form) (next : Format) (row : X → List ℕ) (xs : List X) (more : List (List ℕ))
    → text_of (lines (length xs) f next) (map row xs ++ more) ≡ rows_text f.key row xs ++ text_of next more
rows_text_lem f next row [] more = refl
rows_text_lem f next row (x ∷ xs) more =
    ap (line_text f.key (row x)) (rows_text_lem f next row xs more) ∙ line-append f.key (row x) (rows_text f.key row xs) (text_of next more)

-- the lines of a counted list, and then more
counted_text : {X : Type 0} (heading f : Form) (next : ℕ → Format) (row : X → List ℕ) (xs : List X) (more : List (List ℕ))
    → text_of (line heading λ fs. lines (first fs) f (next (first fs))) (counted row xs more)
    ≡ list_text heading.key f.key row xs ++ text_of (next (length xs)) more
counted_text heading f next row xs more =
    ap (line_text heading.key (length xs ∷ [])) (rows_text_lem f (next (length xs)) row xs more)
    ∙ line-append heading.key (length xs ∷ []) (rows_text f.key row xs) (text_of (next (length xs)) more)

-- the lines before `blocks=`, and then more
header_text_lem : (h : Header) (next : Format) (more : List (List ℕ)) → text_of (header_format next) (header_rows h more) ≡ header_text h ++ text_of next more
header_text_lem h next more = sym (simp append_assoc)

-- the counted lists of a record
abbrev pub blocks_text : List Block → List ℕ
blocks_text bs = list_text (codes "blocks=") (codes "block=") block_row bs

abbrev pub loops_text : List Loop → List ℕ
loops_text ls = list_text (codes "loops=") (codes "loop=") loop_row ls

abbrev pub edges_text : List Edge → List ℕ
edges_text es = list_text (codes "edges=") (codes "edge=") edge_row es

edges_parts : (n : ℕ) (es : List Edge) → text_of (edges_format n) (counted edge_row es []) ≡ edges_text es
edges_parts n es = counted_text edges_form (edge_form n) (λ _. end) edge_row es [] ∙ append-nil (edges_text es)

loops_parts : (n : ℕ) (ls : List Loop) (es : List Edge) → text_of (loops_format n) (counted loop_row ls (counted edge_row es [])) ≡ loops_text ls ++ edges_text es
loops_parts n ls es =
    counted_text loops_form (loop_form n) (λ _. edges_format n) loop_row ls (counted edge_row es [])
    ∙ ap (λ t. loops_text ls ++ t) (edges_parts n es)

-- the text of a record is that of its parts
pub record_parts : (c : Contents) → record_text c ≡ header_text c.header ++ (blocks_text c.blocks ++ (loops_text c.loops ++ edges_text c.edges))
record_parts c =
    let after_blocks : List (List ℕ) = counted loop_row c.loops (counted edge_row c.edges []) in
    header_text_lem c.header (line blocks_form λ fs. lines (first fs) block_form (loops_format (first fs))) (counted block_row c.blocks after_blocks)
    ∙ ap (λ t. header_text c.header ++ t)
    (counted_text blocks_form block_form loops_format block_row c.blocks after_blocks
    ∙ ap (λ t. blocks_text c.blocks ++ t) (loops_parts (length c.blocks) c.loops c.edges))
