-- Laying text into a buffer that may be too short for it.
use Rattle.std.specs.Prelude.{◌≡◌, ℕ, ◌+◌, ◌^◌, ◌<◌, ◌≤◌, List, length}
use Rattle.buffer.specs.Put.{Put}
use Rattle.writer.specs.declared.text.Text.{Text}

-- bytes from `at` on: an end below 2 ^ 64 is told, and where it is in the buffer they are put; else its bytes are free
pub record Lays (at : ℕ) (bytes old : List ℕ) (end : ℕ) (new : List ℕ) : Type 0 where
  pub ends : at + length bytes < 2 ^ 64 → end ≡ at + length bytes
  pub puts : at + length bytes < 2 ^ 64 → end ≤ length old → Put at bytes old end new

-- bytes behind the text that stands in a buffer, which stays the same buffer
pub record Appends (bytes : List ℕ) (old new : Text) : Type 0 where
  pub buffer : new.out.ghost_name ≡ old.out.ghost_name
  pub lays : Lays old.end bytes old.out.now new.end new.out.now
