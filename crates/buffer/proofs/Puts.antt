-- What bytes put into a buffer leave, and puts in a row.
use Rattle.std.proofs.Common.{◌≡◌, ℕ, ◌+◌, ◌-◌, ◌<◌, ◌≤◌, List, [], ◌∷◌, ◌++◌, length, take, drop, set, sym, refl, ap, ◌∙◌, append_assoc, add-one, arith, length-append, length-drop, length-take}
use borrow.Rule.Slice.PartMut.{put_mid}
use Rattle.std.proofs.lemmas.List.{drop-drop, take_at, drop_at, set_split, take-append-drop}
use Rattle.buffer.specs.Put.{Put}

-- a copy of bytes into a part of the buffer
pub put_part : (old part bytes : List ℕ) (at end : ℕ) → part ≡ bytes → end ≡ at + length bytes → end ≤ length old → Put at bytes old end (put_mid at (end - at) old part)
put_part old part bytes at end same ends fits =
    let to : at + (end - at) ≡ end = omega arith in
    record { ends = ends; fits = fits; text = cc (drop-drop (end - at) at old, same, to) }

-- one byte
pub put_one : (old : List ℕ) (at byte : ℕ) → at < length old → Put at (byte ∷ []) old (at + 1) (set old at byte)
put_one old at byte fits = record { ends = refl; fits = omega arith; text = rw add-one (set_split old at byte fits) }

-- no bytes
pub put_none : (at : ℕ) (old : List ℕ) → at ≤ length old → Put at [] old at old
put_none at old fits = record { ends = omega arith; fits = fits; text = sym (take-append-drop at old) }

-- the same bytes, written otherwise
pub put_same : {at end : ℕ} {bytes others old new : List ℕ} → others ≡ bytes → Put at bytes old end new → Put at others old end new
put_same e p = rw e p

-- a buffer keeps its length
pub put_length : {at end : ℕ} {bytes old new : List ℕ} → Put at bytes old end new → length new ≡ length old
put_length p = ap length p.text ∙ simp (length-append, length-take, length-drop) (omega arith)

-- bytes, and then more
pub put_then : {at mid end : ℕ} {xs ys old between new : List ℕ} → Put at xs old mid between → Put mid ys between end new → Put at (xs ++ ys) old end new
put_then {at} {mid} {end} {xs} {ys} {old} {between} {new} p q =
    let len : length (take at old ++ xs) ≡ mid = simp (length-append, length-take) (omega arith) in
    let cut : between ≡ (take at old ++ xs) ++ drop mid old = p.text ∙ sym (append_assoc (take at old) xs (drop mid old)) in
    let front : take mid between ≡ take at old ++ xs = ap (take mid) cut ∙ take_at (take at old ++ xs) (drop mid old) mid len in
    let back : drop mid between ≡ drop mid old = ap (drop mid) cut ∙ drop_at (take at old ++ xs) (drop mid old) mid len in
    let rest : drop end between ≡ drop end old = cc (drop-drop (length ys) mid between, drop-drop (length ys) mid old, q.ends, back) in
    record {
      ends = simp length-append (omega arith);
      fits = omega (arith, put_length p);
      text = q.text ∙ simp (front, rest, append_assoc);
    }
