-- Each refusal by its number, layer and place.
use Rattle.std.specs.Prelude.{ℕ, List, ◌∷◌, ◌++◌, codes, decimal}
use Rattle.syntax.specs.Fault as text
use Rattle.task.specs.Fault as graph
use Rattle.reader.specs.declared.error.ReadError.{ReadError}
use Rattle.reader.specs.declared.error.ReadError.TheVariants as read
use Rattle.load.specs.declared.refusal.Refusal.{Refusal}
use Rattle.load.specs.declared.refusal.Refusal.TheVariants.{Text, Graph, NoMemory}

abbrev pub number : Refusal → ℕ
number (Text f) = text.number f.rule
number (Graph f) = graph.number f.rule
number NoMemory = 0

abbrev pub layer : Refusal → List ℕ
layer (Text f) = codes "text"
layer (Graph f) = codes "graph"
layer NoMemory = codes "memory"

abbrev pub place : Refusal → ℕ
place (Text f) = f.place
place (Graph f) = f.place
place NoMemory = 0

-- a fault of the text is carried whole
abbrev pub carried : ReadError → Refusal
carried (read.Fault f) = Text f
carried read.NoMemory = NoMemory

-- as it is printed
abbrev pub refusal_line : Refusal → List ℕ
refusal_line r = codes "refused=" ++ (decimal (number r) ++ (44 ∷ (layer r ++ (44 ∷ decimal (place r)))))
