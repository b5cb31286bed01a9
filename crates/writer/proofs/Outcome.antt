-- Measuring a text by laying it into an empty buffer, and then laying it.
use Rattle.std.proofs.Common.{◌≡◌, ℕ, ◌^◌, ◌<◌, ◌≤◌, List, [], length, Ok, Err, refl, arith, subst₂}
use Rattle.writer.specs.declared.text.Text.{Text}
use Rattle.writer.specs.Lays.{Lays, Appends}
use Rattle.writer.specs.Wrote.{Wrote}

-- the text does not fit
pub refused : (text old nothing : List ℕ) (needed : ℕ) → length text < 2 ^ 64 → Lays 0 text [] needed nothing → length old < needed → Wrote text old (Err (record { needed = needed })) old
refused text old nothing needed small l short = let e = l.ends (omega arith) in (omega arith, omega arith, refl)

-- the text fits
pub wrote : (text old nothing new : List ℕ) (needed n : ℕ) → length text < 2 ^ 64 → Lays 0 text [] needed nothing → needed ≤ length old → Lays 0 text old n new → Wrote text old (Ok n) new
wrote text old nothing new needed n small m fits l =
    let is-needed = m.ends (omega arith) in
    let is-end = l.ends (omega arith) in
    let p = l.puts (omega arith) (omega arith) in
    (omega arith, omega arith, p.text)

-- what is laid behind no text is laid at the place where it begins
pub begun : (at : ℕ) (text old : List ℕ) (none laid : Text) (end : ℕ) → none.end ≡ at → none.out.now ≡ old → Appends text none laid → end ≡ laid.end → Lays at text old end laid.out.now
begun at text old none laid end e b a is = rw is (subst₂ (λ (from : ℕ) (xs : List ℕ). Lays from text xs laid.end laid.out.now) e b a.lays)
