-- A line of a text: a key, numbers parted by commas, and byte 10.
use Rattle.std.specs.Prelude.{◌≡◌, ℕ, ◌^◌, ◌<◌, Bool, true, false, ◌&&◌, List, [], ◌∷◌, ◌++◌, length, decimal, ◌≢◌, nat_lt, slice_index}
use Rattle.syntax.specs.declared.fault.TextRule.{TextRule}
use Rattle.syntax.specs.declared.fault.TextRule.TheVariants.{TooLong, Line, Number, Range}

-- the byte b stands nowhere in s
abbrev pub Without : ℕ → List ℕ → Type 0
Without b s = (k : ℕ) → k < length s → slice_index s k ≢ b

-- numbers, each after a comma
abbrev pub more_fields : List ℕ → List ℕ
more_fields [] = []
more_fields (x ∷ xs) = 44 ∷ (decimal x ++ more_fields xs)

-- numbers parted by commas
abbrev pub fields_text : List ℕ → List ℕ
fields_text [] = []
fields_text (x ∷ xs) = decimal x ++ more_fields xs

-- a line, and what follows it
abbrev pub line_text : List ℕ → List ℕ → List ℕ → List ℕ
line_text key fs rest = key ++ (fields_text fs ++ (10 ∷ rest))

-- a kind of line: its key, and for each of its numbers which values it takes
pub record Form : Type 0 where
  pub key : List ℕ
  pub ranges : List (ℕ → Bool)

-- there are as many numbers as ranges, and each is within its own
abbrev pub in_ranges : List (ℕ → Bool) → List ℕ → Bool
in_ranges [] [] = true
in_ranges [] (x ∷ xs) = false
in_ranges (p ∷ ps) [] = false
in_ranges (p ∷ ps) (x ∷ xs) = p x && in_ranges ps xs

-- each number has at most 8 digits
abbrev pub short : List ℕ → Bool
short [] = true
short (x ∷ xs) = nat_lt x (10 ^ 8) && short xs

-- n numbers of at most 8 digits
pub record Numbers (n : ℕ) (fs : List ℕ) : Type 0 where
  pub count : length fs ≡ n
  pub digits : short fs ≡ true

-- numbers that a line of this form may have
pub record Takes (f : Form) (fs : List ℕ) : Type 0 where
  pub numbers : Numbers (length f.ranges) fs
  pub ranges : in_ranges f.ranges fs ≡ true

-- the text begins with no line of this key
abbrev pub NoLine : List ℕ → List ℕ → Type 0
NoLine key t = (body rest : List ℕ) → t ≢ key ++ (body ++ (10 ∷ rest))

-- it begins with one that does not have the numbers which the form asks for
pub record NoNumbers (f : Form) (t : List ℕ) : Type 0 where
  pub body : List ℕ
  pub rest : List ℕ
  pub within : Without 10 body
  pub line : t ≡ f.key ++ (body ++ (10 ∷ rest))
  pub none : (fs : List ℕ) → Numbers (length f.ranges) fs → body ≢ fields_text fs

-- it has as many, and one is outside its range
pub record OutOfRange (f : Form) (t : List ℕ) : Type 0 where
  pub fields : List ℕ
  pub rest : List ℕ
  pub numbers : Numbers (length f.ranges) fields
  pub line : t ≡ line_text f.key fields rest
  pub out : in_ranges f.ranges fields ≡ false

-- how the first line of a text breaks a rule
abbrev pub BadLine : Form → List ℕ → TextRule → Type 0
BadLine f t TooLong = ⊥
BadLine f t Line = NoLine f.key t
BadLine f t Number = NoNumbers f t
BadLine f t Range = OutOfRange f t
