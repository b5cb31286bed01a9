-- What is said of worked records.
use Rattle.std.specs.Prelude.{ℕ, List}
use Rattle.records.specs.Contents.{Contents}
use Rattle.last_line_kind.specs.LastLine.{last_kind, last_fetched}
use Rattle.examine.specs.Findings.{Findings, findings}
use Rattle.listing.specs.Load.{load_of}
use Rattle.listing.specs.Text.{categories_text, categories_of}
use Rattle.report.specs.Reported.{slot_findings}

-- what is found of a task with the last-line kind
abbrev pub last_line_findings : Contents → Findings
last_line_findings = findings last_kind (λ _. last_fetched)

-- the letters of fetch j of block b
abbrev pub letters_at : Findings → ℕ → ℕ → List ℕ
letters_at f b j = categories_text (categories_of f b j)

-- the task with another window
abbrev pub with_window : ℕ → Contents → Contents
with_window window c =
    record {
      header = record { geometry = c.header.geometry; hit = c.header.hit; penalty = c.header.penalty; window = window };
      blocks = c.blocks;
      loops = c.loops;
      edges = c.edges;
    }

-- the load of a task
abbrev pub task_load : Contents → ℕ
task_load c = load_of (slot_findings c).figure c.header.window
