-- Tests, sums and levels, one step after the other.
use Rattle.std.proofs.Common.{◌≡◌, ℕ, zero, suc, ◌+◌, ◌-◌, ◌*◌, ◌<◌, ◌≤◌, Bool, true, ◌&&◌, List, [], ◌∷◌, length, take, drop, refl, ap, ap₂, ◌∙◌, inl, inr, le_of_suc-le-suc, not-suc-le-zero, add-one, arith}
use Rattle.std.specs.List.{range_with_len, list_all, filter, fold}
use Rattle.std.proofs.lemmas.List.{drop-drop, take_all, at_drop_more, at_drop_all, get_or-take, length-take-le}
use Rattle.std.proofs.lemmas.Bool.{cases_Bool, cases_lt}
use Rattle.records.specs.declared.parts.Block.{Block}
use Rattle.records.specs.declared.parts.Loop.{Loop}
use Rattle.task.specs.Graph.{block_at, loop_at, within, around, total_fetches}
use Rattle.task.proofs.Around.{around_more_in}

-- two tests that agree on these numbers
pub all_range : (f h : ℕ → Bool) (a n : ℕ) → ((j : ℕ) → a ≤ j → j < a + n → f j ≡ h j) → list_all f (range_with_len a n) ≡ list_all h (range_with_len a n)
all_range f h a zero e = refl
all_range f h a (suc n) e = ap₂ ◌&&◌ (e a (omega arith) (omega arith)) (all_range f h (a + 1) n (λ j l m. e j (omega arith) (omega arith)))

-- the blocks from number a on, tested by number
all_from_number : (test : Block → Bool) (bs : List Block) (a n : ℕ) → a + n ≡ length bs → list_all test (drop a bs) ≡ list_all (λ b. test (block_at bs b)) (range_with_len a n)
all_from_number test bs a zero e = at_drop_all (list_all test) bs a (omega arith)
all_from_number test bs a (suc n) e =
    at_drop_more (list_all test) bs a _ (omega arith) ∙ ap (λ u. test (block_at bs a) && u) (all_from_number test bs (a + 1) n (omega arith))

-- the blocks of a range
pub all_between : (test : Block → Bool) (bs : List Block) (a m : ℕ) → m ≤ length bs
    → list_all test (drop a (take m bs)) ≡ list_all (λ b. test (block_at bs b)) (range_with_len a (m - a))
all_between test bs a m h =
    let long = length-take-le m bs h in
    elim (cases_lt m a) [
      | inl l ↦ at_drop_all (list_all test) (take m bs) a (omega arith)
          ∙ (let none : 0 ≡ m - a = omega arith in ap (λ n. list_all (λ b. test (block_at bs b)) (range_with_len a n)) none)
      | inr l ↦ all_from_number test (take m bs) a (m - a) (omega arith)
          ∙ all_range (λ b. test (block_at (take m bs) b)) (λ b. test (block_at bs b)) a (m - a) (λ j i k. ap test (get_or-take m bs j _ (omega arith)))
    ]

-- the fetches of blocks, added up
pub fetches-sum : (n : ℕ) (bs : List Block) → fold (λ a (b : Block). a + b.fetches) n bs ≡ n + total_fetches bs
fetches-sum n [] = omega arith
fetches-sum n (b ∷ bs) = let r = fetches-sum (n + b.fetches) bs in omega arith

-- the fetches before a block
pub fetches_more : (bs : List Block) (i : ℕ) → i < length bs → total_fetches (take (suc i) bs) ≡ total_fetches (take i bs) + (block_at bs i).fetches
fetches_more [] i l = absurd (not-suc-le-zero l)
fetches_more (b ∷ bs) zero l = omega arith
fetches_more (b ∷ bs) (suc i) l = let r = fetches_more bs i (le_of_suc-le-suc l) in omega arith

pub fetches-all : (bs : List Block) (n : ℕ) → length bs ≤ n → total_fetches (take n bs) ≡ total_fetches bs
fetches-all bs n l = ap total_fetches (take_all n bs l)

pub fetches_few : (bs : List Block) (n : ℕ) → ((b : ℕ) → b < length bs → (block_at bs b).fetches ≤ 64) → n ≤ length bs → total_fetches (take n bs) ≤ 64 * n
fetches_few bs zero few l = omega arith
fetches_few bs (suc n) few l =
    let r = fetches_few bs n few (omega arith) in let m = fetches_more bs n (omega arith) in let f = few n (omega arith) in omega arith

-- so the rows of a block lie before those of the next
pub rows_ascend : (bs : List Block) (i j : ℕ) → i < j → j ≤ length bs → total_fetches (take i bs) + (block_at bs i).fetches ≤ total_fetches (take j bs)
rows_ascend bs i zero l h = absurd (not-suc-le-zero l)
rows_ascend bs i (suc j) l h =
    let m = fetches_more bs j h in
    elim (cases_lt i j) [
      | inl less ↦ (let r = rows_ascend bs i j less (omega arith) in omega arith)
      | inr more ↦ (let e : i ≡ j = omega arith in let q = ap (λ x. total_fetches (take x bs) + (block_at bs x).fetches) e in omega arith)
    ]

pub rows_end : (bs : List Block) (i : ℕ) → i < length bs → total_fetches (take i bs) + (block_at bs i).fetches ≤ total_fetches bs
rows_end bs i l = let r = rows_ascend bs i (length bs) l (omega arith) in let e = fetches-all bs (length bs) (omega arith) in omega arith

-- the loops around a block are those that pass the test
pub around-filter : (ls : List Loop) (b : ℕ) → filter (λ l. within l b) ls ≡ around ls b
around-filter [] b = refl
around-filter (l ∷ ls) b = elim (cases_Bool (within l b)) [
  | inl e ↦ rw (around, e) (ap (λ xs. l ∷ xs) (around-filter ls b))
  | inr e ↦ rw (around, e) (around-filter ls b)
]

-- the loops around a block, fewer of fewer loops
module _ (b : ℕ) where
  pub fewer_around : (n : ℕ) (ls : List Loop) → length (around (drop n ls) b) ≤ length (around ls b)
  fewer_around zero ls = omega arith
  fewer_around (suc n) [] = omega arith
  fewer_around (suc n) (l ∷ ls) = let r = fewer_around n ls in elim (cases_Bool (within l b)) [
    | inl e ↦ (let q : length (around (l ∷ ls) b) ≡ suc (length (around ls b)) = rw (around, e) refl in omega arith)
    | inr e ↦ (let q : length (around (l ∷ ls) b) ≡ length (around ls b) = rw (around, e) refl in omega arith)
  ]

  -- an inner loop has a lower level
  pub levels_descend : (ls : List Loop) (i j : ℕ) → i < j → j < length ls → within (loop_at ls j) b ≡ true
      → length (around (drop (suc j) ls) b) < length (around (drop (suc i) ls) b)
  levels_descend ls i j l h w =
      let one = ap length (around_more_in ls j b h w) in
      let s = ap (λ n. length (around (drop n ls) b)) (add-one j) in
      let d = ap (λ xs. length (around xs b)) (drop-drop (j - suc i) (suc i) ls) in
      let e : suc i + (j - suc i) ≡ j = omega arith in
      let f = ap (λ n. length (around (drop n ls) b)) e in
      let m = fewer_around (j - suc i) (drop (suc i) ls) in
      omega arith
