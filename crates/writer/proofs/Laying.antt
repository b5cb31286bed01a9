-- Texts laid one after the other.
use Rattle.std.proofs.Common.{◌≡◌, ℕ, ◌+◌, List, [], ◌++◌, length, refl, ◌∙◌, arith, length-append}
use Rattle.buffer.proofs.Puts.{put_then, put_length, put_none}
use Rattle.writer.specs.declared.text.Text.{Text}
use Rattle.writer.specs.Lays.{Lays, Appends}

-- a text, and then more
pub lays_then : {at mid end : ℕ} {xs ys old between new : List ℕ} → Lays at xs old mid between → Lays mid ys between end new → Lays at (xs ++ ys) old end new
lays_then {at} {mid} {end} {xs} {ys} {old} {between} {new} l m =
    let len : length (xs ++ ys) ≡ length xs + length ys = length-append xs ys in
    record {
      ends = λ small.
          let mid-is = l.ends (omega arith) in
          let end_is = m.ends (omega arith) in
          omega arith;
      puts = λ small fits.
          let mid-is = l.ends (omega arith) in
          let end_is = m.ends (omega arith) in
          let p = l.puts (omega arith) (omega arith) in
          put_then p (m.puts (omega arith) (omega (arith, put_length p)));
    }

-- no text
pub lays_none : (at : ℕ) (old : List ℕ) → Lays at [] old at old
lays_none at old = record { ends = λ small. omega arith; puts = λ small. put_none at old }

-- the same text, written otherwise
pub lays_same : {at end : ℕ} {bytes others old new : List ℕ} → others ≡ bytes → Lays at bytes old end new → Lays at others old end new
lays_same e l = rw e l

-- the same behind a text
pub appends_then : {xs ys : List ℕ} {old mid new : Text} → Appends xs old mid → Appends ys mid new → Appends (xs ++ ys) old new
appends_then a b = record { buffer = b.buffer ∙ a.buffer; lays = lays_then a.lays b.lays }

pub appends_none : (text : Text) → Appends [] text text
appends_none text = record { buffer = refl; lays = lays_none text.end text.out.now }

pub appends_same : {bytes others : List ℕ} {old new : Text} → others ≡ bytes → Appends bytes old new → Appends others old new
appends_same e a = rw e a
