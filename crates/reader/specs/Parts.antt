-- Reading a part of a record, whatever comes after it.
use Rattle.std.specs.Prelude.{◌≡◌, ℕ, ◌+◌, List, [], ◌∷◌, map, length, Ok, Err, vec_items, Result, Vec}
use Rattle.std.specs.declared.alloc.Global.{Global}
use Rattle.syntax.specs.Fault.{TextFault}
use Rattle.syntax.specs.Line.{Form, Takes, line_text}
use Rattle.syntax.specs.Format.{Format, lines, Faulty}
use Rattle.syntax.specs.Format.Format.{end, line}
use Rattle.records.specs.declared.parts.Header.{Header}
use Rattle.records.specs.Layout.{first, counted, header_format, header_rows}
use Rattle.reader.specs.declared.lines.Lines.{Lines}
use Rattle.reader.specs.declared.error.ReadError.{ReadError}
use Rattle.reader.specs.declared.error.ReadError.TheVariants.{Fault, NoMemory}

-- Good lines at the front of a text that has to follow F: they have the numbers rows, and the first is line at.
-- The rest has to follow G, and begins with line n.
abbrev pub Passes : Format → ℕ → List ℕ → List (List ℕ) → Format → ℕ → List ℕ → Type 0
Passes F at t [] G n rest = (F ≡ G) × (at ≡ n) × (t ≡ rest)
Passes end at t (fs ∷ rows) G n rest = ⊥
Passes (line f next) at t (fs ∷ rows) G n rest =
    (more : List ℕ) × Takes f fs × (t ≡ line_text f.key fs more) × Passes (next fs) (at + 1) more rows G n rest

-- the same of lines that are read
abbrev pub LinesPass : Format → Lines → List (List ℕ) → Format → Lines → Type 0
LinesPass F old rows G new = Passes F old.next old.rest.now rows G new.next new.rest.now

-- the first of them that leaves F, and how
abbrev pub LinesFail : Format → Lines → TextFault → Type 0
LinesFail F old e = Faulty F old.next old.rest.now e.rule e.place

-- the header, or the fault in its lines
abbrev pub ReadsHeader : Lines → Result Header TextFault → Lines → Type 0
ReadsHeader old (Ok h) new = (k : Format) → LinesPass (header_format k) old (header_rows h []) k new
ReadsHeader old (Err e) new = (k : Format) → LinesFail (header_format k) old e

-- n entries, or the fault in their lines
abbrev pub ReadsEntries : {X : Type 0} → ℕ → Form → (X → List ℕ) → Lines → Result (Vec X Global) ReadError → Lines → Type 0
ReadsEntries n f row old (Ok xs) new =
    (length (vec_items xs) ≡ n) × ((k : Format) → LinesPass (lines n f k) old (map row (vec_items xs)) k new)
ReadsEntries n f row old (Err (Fault e)) new = (k : Format) → LinesFail (lines n f k) old e
ReadsEntries n f row old (Err NoMemory) new = Unit {0}

-- a counted list: the line of the count, so many entries, and then what the count asks for
abbrev pub counted_format : Form → Form → (ℕ → Format) → Format
counted_format count f next = line count λ fs. lines (first fs) f (next (first fs))

-- the list, or the fault in its lines
abbrev pub ReadsCounted : {X : Type 0} → Form → Form → (X → List ℕ) → Lines → Result (Vec X Global) ReadError → Lines → Type 0
ReadsCounted count f row old (Ok xs) new =
    (k : ℕ → Format) → LinesPass (counted_format count f k) old (counted row (vec_items xs) []) (k (length (vec_items xs))) new
ReadsCounted count f row old (Err (Fault e)) new = (k : ℕ → Format) → LinesFail (counted_format count f k) old e
ReadsCounted count f row old (Err NoMemory) new = Unit {0}
