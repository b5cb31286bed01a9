-- What a text says: a record, or what is wrong with it.
use Rattle.std.specs.Prelude.{◌≡◌, ℕ, ◌<◌, ◌≤◌, ◌⊎◌, List, length, Ok, Err, Result}
use Rattle.syntax.specs.Fault.{TextFault}
use Rattle.syntax.specs.declared.fault.TextRule.TheVariants.{TooLong}
use Rattle.syntax.specs.Format.{Faulty}
use Rattle.records.specs.declared.Record.{Record}
use Rattle.records.specs.Layout.{record_format, record_text}
use Rattle.records.specs.View.{contents}
use Rattle.reader.specs.declared.error.ReadError.{ReadError}
use Rattle.reader.specs.declared.error.ReadError.TheVariants.{Fault, NoMemory}

-- the text is too long, or leaves the format of a record
abbrev pub Refused : List ℕ → TextFault → Type 0
Refused t f =
    ((f.rule ≡ TooLong) × (f.place ≡ 0) × (16384 < length t))
    ⊎ ((length t ≤ 16384) × Faulty record_format 1 t f.rule f.place)

-- the text is that of the record, or is refused; and nothing is said where memory fails
abbrev pub Reading : List ℕ → Result Record ReadError → Type 0
Reading t (Ok r) = (length t ≤ 16384) × (t ≡ record_text (contents r))
Reading t (Err (Fault f)) = Refused t f
Reading t (Err NoMemory) = Unit {0}
