-- The two tallies: cycles, and charged misses with fetches.
use Rattle.std.specs.Prelude.{ℕ, ◌+◌, ◌*◌, Bool, ◌&&◌, ◌||◌, ◌==◌, nat_lt}
use Rattle.tally.specs.Laws.{Ops, ops_of}

abbrev pub added_cycles : ℕ → ℕ → ℕ
added_cycles x y = x + y

abbrev pub many_cycles : ℕ → ℕ → ℕ
many_cycles n x = n * x

abbrev pub fewer_cycles : ℕ → ℕ → Bool
fewer_cycles x y = nat_lt x y

abbrev pub cycles_size : ℕ → ℕ
cycles_size x = x

abbrev pub cycles : Ops ℕ
cycles = ops_of 0 added_cycles many_cycles fewer_cycles

-- misses, and then fetches
abbrev pub Pair : Type 0
Pair = ℕ × ℕ

abbrev pub no_pair : Pair
no_pair = (0, 0)

abbrev pub added_pairs : Pair → Pair → Pair
added_pairs x y = (x.0 + y.0, x.1 + y.1)

abbrev pub many_pairs : ℕ → Pair → Pair
many_pairs n x = (n * x.0, n * x.1)

-- by the misses, and where these are equal by the fetches
abbrev pub lower_pair : Pair → Pair → Bool
lower_pair x y = nat_lt x.0 y.0 || (x.0 == y.0 && nat_lt x.1 y.1)

abbrev pub pair_size : Pair → ℕ
pair_size x = x.0 + x.1

abbrev pub pairs : Ops Pair
pairs = ops_of no_pair added_pairs many_pairs lower_pair
