-- How much of its window a task takes.
use Rattle.std.specs.Prelude.{ℕ, ◌+◌, ◌-◌, ◌*◌, ◌/◌, ◌^◌, ◌<◌, ◌≤◌, min}

-- the figure in thousandths of the window, an exact half rounded up, and at most the largest number of 64 bits
abbrev pub load_of : ℕ → ℕ → ℕ
load_of figure window = min ((2 * (1000 * figure) + window) / (2 * window)) (2 ^ 64 - 1)

-- Load thousandths of the window miss the figure by at most half a thousandth; of two that are as near, it is the larger.
pub record Nearest (figure window load : ℕ) : Type 0 where
  pub high : 2 * (load * window) ≤ 2 * (1000 * figure) + window
  pub low : 2 * (1000 * figure) < 2 * (load * window) + window
