-- A text is that of one record, or is refused in one way.
use Rattle.std.proofs.Common.{◌≡◌, ℕ, ◌<◌, List, [], ◌∷◌, ◌++◌, map, length, Ok, sym, refl, ◌∙◌, inl, inr, arith}
use Rattle.syntax.specs.Fault.{TextFault}
use Rattle.syntax.proofs.Once.{same_rows, no_fault, one_fault}
use Rattle.records.specs.declared.parts.Header.{Header}
use Rattle.records.specs.declared.parts.Block.{Block}
use Rattle.records.specs.declared.parts.Loop.{Loop}
use Rattle.records.specs.declared.parts.Edge.{Edge}
use Rattle.records.specs.Contents.{Contents}
use Rattle.records.specs.Layout.{block_row, loop_row, edge_row, header_rows, counted, rows, record_format, record_text, InFormat}
use Rattle.records.specs.View.{contents}
use Rattle.records.specs.declared.Record.{Record}
use Rattle.reader.specs.Reading.{Reading, Refused}

-- the numbers of an entry say which it is
same_block : (x y : Block) → block_row x ≡ block_row y → x ≡ y
same_block x y e =
    let a : x.address ≡ y.address = cc in
    let b : x.fetches ≡ y.fetches = cc in
    let d : x.cycles ≡ y.cycles = cc in
    λ i. record { address = a i; fetches = b i; cycles = d i }

same_loop : (x y : Loop) → loop_row x ≡ loop_row y → x ≡ y
same_loop x y e =
    let a : x.header ≡ y.header = cc in
    let b : x.last ≡ y.last = cc in
    let d : x.limit ≡ y.limit = cc in
    λ i. record { header = a i; last = b i; limit = d i }

same_edge : (x y : Edge) → edge_row x ≡ edge_row y → x ≡ y
same_edge x y e =
    let a : x.from ≡ y.from = cc in
    let b : x.to ≡ y.to = cc in
    λ i. record { from = a i; to = b i }

same_header : (g h : Header) (us vs : List (List ℕ)) → header_rows g us ≡ header_rows h vs → (g ≡ h) × (us ≡ vs)
same_header g h us vs e =
    let l : g.geometry.line ≡ h.geometry.line = cc in
    let s : g.geometry.slots ≡ h.geometry.slots = cc in
    let a : g.hit ≡ h.hit = cc in
    let b : g.penalty ≡ h.penalty = cc in
    let d : g.window ≡ h.window = cc in
    ((λ i. record { geometry = record { line = l i; slots = s i }; hit = a i; penalty = b i; window = d i }), cc)

-- a list is read back from its lines
module _ {X : Type 0} (row : X → List ℕ) (same : (x y : X) → row x ≡ row y → x ≡ y) where
  same_entries : (xs ys : List X) (us vs : List (List ℕ)) → length xs ≡ length ys → map row xs ++ us ≡ map row ys ++ vs → (xs ≡ ys) × (us ≡ vs)
  same_entries [] [] us vs l e = (refl, e)
  same_entries [] (y ∷ ys) us vs l e = absurd (omega arith)
  same_entries (x ∷ xs) [] us vs l e = absurd (omega arith)
  same_entries (x ∷ xs) (y ∷ ys) us vs l e =
      let p = same_entries xs ys us vs (omega arith) (cc) in
      let q = same x y (cc) in
      (cc (q, p.0), p.1)

  same_counted : (xs ys : List X) (us vs : List (List ℕ)) → counted row xs us ≡ counted row ys vs → (xs ≡ ys) × (us ≡ vs)
  same_counted xs ys us vs e = same_entries xs ys us vs (cc) (cc)

-- the numbers of the lines say what stands in a record
pub same_contents : (c d : Contents) → rows c ≡ rows d → c ≡ d
same_contents c d e =
    let h = same_header c.header d.header _ _ e in
    let b = same_counted block_row same_block c.blocks d.blocks _ _ h.1 in
    let l = same_counted loop_row same_loop c.loops d.loops _ _ b.1 in
    let g = same_counted edge_row same_edge c.edges d.edges [] [] l.1 in
    λ i. record { header = h.0 i; blocks = b.0 i; loops = l.0 i; edges = g.0 i }

-- so does the text
pub same_text : (c d : Contents) → InFormat c → InFormat d → record_text c ≡ record_text d → c ≡ d
same_text c d h k e = same_contents c d (same_rows record_format (rows c) (rows d) h k e)

-- what is read from the text of a record is that record
pub reads_back : (c : Contents) (t : List ℕ) (r : Record) → InFormat c → t ≡ record_text c → Reading t (Ok r) → contents r ≡ c
reads_back c t r h e k = same_text (contents r) c r.ranges h (sym k.1 ∙ e)

-- the text of a record is refused only if it is too long
pub only_long : (c : Contents) (t : List ℕ) (f : TextFault) → InFormat c → t ≡ record_text c → Refused t f → 16384 < length t
only_long c t f h e (inl r) = r.2
only_long c t f h e (inr r) = absurd (no_fault record_format (rows c) 1 t f.rule f.place h e r.1)

-- a text is refused in one way
pub one_refusal : (t : List ℕ) (f g : TextFault) → Refused t f → Refused t g → f ≡ g
one_refusal t f g (inl a) (inl b) = λ i. record { rule = (a.0 ∙ sym b.0) i; place = (a.1 ∙ sym b.1) i }
one_refusal t f g (inl a) (inr b) = absurd (omega (arith, a.2, b.0))
one_refusal t f g (inr a) (inl b) = absurd (omega (arith, a.0, b.2))
one_refusal t f g (inr a) (inr b) =
    let p = one_fault record_format 1 t f.rule f.place g.rule g.place a.1 b.1 in
    λ i. record { rule = p.0 i; place = p.1 i }
