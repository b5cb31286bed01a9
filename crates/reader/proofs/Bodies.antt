-- From what stands behind a key to the line.
use Rattle.std.proofs.Common.{◌≡◌, ℕ, Bool, List, ◌∷◌, ◌++◌, Some, None, Option, Ok, Err, Bor, ap, ◌∙◌}
use Rattle.std.specs.Option.{ok_or}
use Rattle.syntax.specs.declared.fault.TextRule.{TextRule}
use Rattle.syntax.specs.declared.fault.TextRule.TheVariants.{TooLong, Line, Number, Range}
use Rattle.syntax.specs.Fault.{TextFault}
use Rattle.syntax.specs.Cut.{CutsLine}
use Rattle.syntax.specs.Line.{Takes, BadLine, Without, line_text}
use Rattle.reader.specs.Lines.{form, ReadsBody}

-- a line has the numbers of what stands behind its key
pub line_read : {X : Type 0} (ranges : List (ℕ → Bool)) (row : X → List ℕ) (key body rest t : List ℕ) (x : X) → Without 10 body × (t ≡ key ++ (body ++ (10 ∷ rest)))
    → ReadsBody ranges row body (Ok x) → Takes (form key ranges) (row x) × (t ≡ line_text key (row x) rest)
line_read ranges row key body rest t x cut r =
    (record { numbers = r.0; ranges = r.1 }, cut.1 ∙ ap (λ (b : List ℕ). key ++ (b ++ (10 ∷ rest))) r.2)

-- or breaks the same rule
pub line_bad : {X : Type 0} (ranges : List (ℕ → Bool)) (row : X → List ℕ) (key body rest t : List ℕ) (rule : TextRule) → Without 10 body × (t ≡ key ++ (body ++ (10 ∷ rest)))
    → ReadsBody ranges row body (Err rule) → BadLine (form key ranges) t rule
line_bad ranges row key body rest t TooLong cut r = absurd r
line_bad ranges row key body rest t Line cut r = absurd r
line_bad ranges row key body rest t Number cut r = record { body = body; rest = rest; within = cut.0; line = cut.1; none = r }
line_bad ranges row key body rest t Range cut r =
    record { fields = r.0; rest = rest; numbers = r.1; line = cut.1 ∙ ap (λ (b : List ℕ). key ++ (b ++ (10 ∷ rest))) r.2; out = r.3 }

-- where `?` found the parts of a line
pub was_cut : (key t : List ℕ) (o : Option (Bor (List ℕ) × Bor (List ℕ))) (e : TextFault) (p : Bor (List ℕ) × Bor (List ℕ)) → Ok p ≡ ok_or o e → CutsLine key t o → CutsLine key t (Some p)
was_cut key t None e p h c = absurd (cc)
was_cut key t (Some q) e p h c = let s : p ≡ q = cc in rw s c
