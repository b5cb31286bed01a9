use Rattle.std.proofs.Common.{ℕ, List, subst, rules}
use Rattle.reader.specs.Lines.{form, ReadsLine}
use Rattle.reader.proofs.lines.Lines.entry.Goals as goal

pub returns : goal.returns
returns g c =
    subst (λ (key : List ℕ). ReadsLine (form key (g.E.Parse.ranges c.args.blocks)) g.E.Entry.numbers c.args.self.now c.line.result c.line.new.self) c.key.ensures
    (c.line.ensures (g.E.Parse.ranges c.args.blocks) g.E.Entry.numbers (λ body r h. search rules))
