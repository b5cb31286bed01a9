-- Reading a line.
use Rattle.std.specs.Prelude.{◌≡◌, ℕ, ◌+◌, ◌<◌, Bool, true, false, List, [], length, Ok, Err, Result, ◌≢◌}
use Rattle.syntax.specs.declared.fault.TextRule.{TextRule}
use Rattle.syntax.specs.declared.fault.TextRule.TheVariants.{TooLong, Line, Number, Range}
use Rattle.syntax.specs.Fault.{TextFault}
use Rattle.syntax.specs.Line.{Form, Numbers, Takes, BadLine, fields_text, line_text, in_ranges}
use Rattle.reader.specs.declared.lines.Lines.{Lines}

-- How what stands behind a key breaks a rule: it is not the text of so many numbers, or one is outside its range.
abbrev pub BadBody : List (ℕ → Bool) → List ℕ → TextRule → Type 0
BadBody ranges body TooLong = ⊥
BadBody ranges body Line = ⊥
BadBody ranges body Number = (fs : List ℕ) → Numbers (length ranges) fs → body ≢ fields_text fs
BadBody ranges body Range = (fs : List ℕ) × Numbers (length ranges) fs × (body ≡ fields_text fs) × (in_ranges ranges fs ≡ false)

-- a value whose numbers stand there, each in its range; or the rule that is broken
abbrev pub ReadsBody : {X : Type 0} → List (ℕ → Bool) → (X → List ℕ) → List ℕ → Result X TextRule → Type 0
ReadsBody ranges row body (Ok x) = Numbers (length ranges) (row x) × (in_ranges ranges (row x) ≡ true) × (body ≡ fields_text (row x))
ReadsBody ranges row body (Err rule) = BadBody ranges body rule

-- the lines with this key, and with numbers in these ranges
abbrev pub form : List ℕ → List (ℕ → Bool) → Form
form key ranges = record { key = key; ranges = ranges }

-- the next of some lines: a value with the numbers of that line, and the lines after it; or the rule that it breaks
abbrev pub ReadsLine : {X : Type 0} → Form → (X → List ℕ) → Lines → Result X TextFault → Lines → Type 0
ReadsLine f row old (Ok x) new =
    Takes f (row x) × (old.rest.now ≡ line_text f.key (row x) new.rest.now) × (new.next ≡ old.next + 1)
ReadsLine f row old (Err e) new = (e.place ≡ old.next) × BadLine f old.rest.now e.rule

-- no line is left, or there is one too many
abbrev pub Ends : Lines → Result (Unit {0}) TextFault → Type 0
Ends lines (Ok _) = lines.rest.now ≡ []
Ends lines (Err e) = (e.rule ≡ Line) × (e.place ≡ lines.next) × (0 < length lines.rest.now)
