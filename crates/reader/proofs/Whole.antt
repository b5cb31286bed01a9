-- The parts of a record, one behind the other.
use Rattle.std.proofs.Common.{◌≡◌, ℕ, ◌≤◌, List, [], ◌∷◌, ◌++◌, map, length, Err, ap, ◌∙◌, sym, subst, subst₂, inr}
use Rattle.std.proofs.lemmas.List.{append_assoc}
use Rattle.syntax.specs.Fault.{TextFault}
use Rattle.syntax.specs.Line.{Form}
use Rattle.syntax.specs.Format.{Format, Faulty}
use Rattle.syntax.specs.Format.Format.{end}
use Rattle.records.specs.declared.parts.Header.{Header}
use Rattle.records.specs.declared.parts.Block.{Block}
use Rattle.records.specs.declared.parts.Loop.{Loop}
use Rattle.records.specs.declared.parts.Edge.{Edge}
use Rattle.records.specs.Contents.{contents_of}
use Rattle.records.specs.Layout.{blocks_form, block_form, loops_form, loop_form, edges_form, edge_form, block_row, loop_row, edge_row, header_rows, counted, header_format, loops_format, edges_format, record_format, rows, record_text, InFormat}
use Rattle.reader.specs.declared.lines.Lines.{Lines}
use Rattle.reader.specs.declared.error.ReadError.{ReadError}
use Rattle.reader.specs.declared.error.ReadError.TheVariants.{Fault, NoMemory}
use Rattle.reader.specs.Lines.{Ends}
use Rattle.reader.specs.Parts.{Passes, LinesPass, LinesFail, counted_format, ReadsCounted}
use Rattle.reader.specs.Reading.{Reading, Refused}
use Rattle.reader.proofs.Passing.{fault_later, pass_on, pass_all}

-- the lines of a text that is not too long
pub record Start (t : List ℕ) (s : Lines) : Type 0 where
  pub short : length t ≤ 16384
  pub rest : s.rest.now ≡ t
  pub next : s.next ≡ 1

-- good lines from the start of a record's text
abbrev pub Front : Lines → List (List ℕ) → Format → Lines → Type 0
Front s ls F u = LinesPass record_format s ls F u

-- the lines from t to u are those of a counted list, whatever follows
abbrev pub Listed : {X : Type 0} → Form → Form → (X → List ℕ) → List X → Lines → Lines → Type 0
Listed count f row xs t u = (k : ℕ → Format) → LinesPass (counted_format count f k) t (counted row xs []) (k (length xs)) u

-- lines behind those of a counted list
counted_on : {X : Type 0} (row : X → List ℕ) (xs : List X) (ys zs : List (List ℕ)) → counted row xs ys ++ zs ≡ counted row xs (ys ++ zs)
counted_on row xs ys zs = ap (λ (r : List (List ℕ)). (length xs ∷ []) ∷ r) (append_assoc (map row xs) ys zs)

-- good lines behind good lines
go_on : (ls more : List (List ℕ)) (F G H : Format) (s t u : Lines) → LinesPass F s ls G t → LinesPass G t more H u → LinesPass F s (ls ++ more) H u
go_on ls more F G H s t u p q = pass_on ls more F G H s.next t.next u.next s.rest.now t.rest.now u.rest.now p q

module _ (s u v : Lines) (h : Header) (bs : List Block) (n : ℕ) (n-is : n ≡ length bs)
    (head : (k : Format) → LinesPass (header_format k) s (header_rows h []) k u)
    (blocks : Listed blocks_form block_form block_row bs u v) where
  pub to_loops : Front s (header_rows h (counted block_row bs [])) (loops_format n) v
  to_loops =
      subst (λ (m : ℕ). Front s (header_rows h (counted block_row bs [])) (loops_format m) v) (sym n-is)
      (go_on (header_rows h []) (counted block_row bs []) record_format (counted_format blocks_form block_form loops_format) (loops_format (length bs)) s u v
      (head (counted_format blocks_form block_form loops_format)) (blocks loops_format))

  pub to_edges : (w : Lines) (ls : List Loop) → Listed loops_form (loop_form n) loop_row ls v w
      → Front s (header_rows h (counted block_row bs (counted loop_row ls []))) (edges_format n) w
  to_edges w ls loops =
      subst (λ (r : List (List ℕ)). Front s (header_rows h r) (edges_format n) w)
      (counted_on block_row bs [] (counted loop_row ls []))
      (go_on (header_rows h (counted block_row bs [])) (counted loop_row ls []) record_format (loops_format n) (edges_format n) s v w
      to_loops (loops (λ _. edges_format n)))

  pub to_end : (w x : Lines) (ls : List Loop) (es : List Edge) → Listed loops_form (loop_form n) loop_row ls v w
      → Listed edges_form (edge_form n) edge_row es w x → Front s (rows (contents_of h bs ls es)) end x
  to_end w x ls es loops edges =
      subst (λ (r : List (List ℕ)). Front s (header_rows h r) end x)
      (counted_on block_row bs (counted loop_row ls []) (counted edge_row es []) ∙ ap (counted block_row bs) (counted_on loop_row ls [] (counted edge_row es [])))
      (go_on (header_rows h (counted block_row bs (counted loop_row ls []))) (counted edge_row es []) record_format (edges_format n) end s w x
      (to_edges w ls loops) (edges (λ _. end)))

  -- a record, and no more
  pub to_record : (t : List ℕ) → Start t s → (w x : Lines) (ls : List Loop) (es : List Edge) → Listed loops_form (loop_form n) loop_row ls v w
      → Listed edges_form (edge_form n) edge_row es w x → x.rest.now ≡ [] → InFormat (contents_of h bs ls es) × (t ≡ record_text (contents_of h bs ls es))
  to_record t start w x ls es loops edges z =
      let p = pass_all (rows (contents_of h bs ls es)) record_format s.next x.next s.rest.now
      (subst (λ (y : List ℕ). Passes record_format s.next s.rest.now (rows (contents_of h bs ls es)) end x.next y) z (to_end w x ls es loops edges)) in
      (p.0, sym start.rest ∙ p.1)

-- a fault in the lines of a text is a fault of the text
pub refused : (t : List ℕ) (s : Lines) (e : TextFault) → Start t s → LinesFail record_format s e → Refused t e
refused t s e start f = inr (start.short, subst₂ (λ (n : ℕ) (r : List ℕ). Faulty record_format n r e.rule e.place) start.next start.rest f)

later : (s u : Lines) (ls : List (List ℕ)) (F : Format) (e : TextFault) → Front s ls F u → LinesFail F u e → LinesFail record_format s e
later s u ls F e p b = fault_later ls record_format F s.next u.next s.rest.now u.rest.now e.rule e.place p b

-- a list that is refused, behind a good front
pub refused_list : {X : Type 0} (y : ReadError) (t : List ℕ) (s u v : Lines) (ls : List (List ℕ)) (count f : Form) (row : X → List ℕ) (k : ℕ → Format) → Start t s
    → Front s ls (counted_format count f k) u → ReadsCounted count f row u (Err y) v → Reading t (Err y)
refused_list (Fault e) t s u v ls count f row k start p b = refused t s e start (later s u ls (counted_format count f k) e p (b k))
refused_list NoMemory t s u v ls count f row k start p b = tt

-- more than a record
pub refused_end : (t : List ℕ) (s u : Lines) (ls : List (List ℕ)) (e : TextFault) → Start t s → Front s ls end u → Ends u (Err e) → Refused t e
refused_end t s u ls e start p b = refused t s e start (later s u ls end e p b)
