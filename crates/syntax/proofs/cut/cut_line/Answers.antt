use Rattle.std.proofs.Common.{◌∷◌, ◌++◌}
use Rattle.std.proofs.lemmas.Slice.Eq.{strip_prefix_is}
use Rattle.std.proofs.lemmas.Option.{MatchOption-at_none, MatchOption-at_some}
use Rattle.syntax.proofs.Cuts.{past_key}
use Rattle.syntax.proofs.cut.cut_line.Goals as goal
use Rattle.std.proofs.lemmas.Bool.Decides.{Decides-eqb}

pub returns-in_err-rest : goal.returns-in_err-rest
returns-in_err-rest c =
    let h = MatchOption-at_none _ _ c.in_err-rest.was (strip_prefix_is Decides-eqb c.args.text.now c.args.key.now c.strip_prefix.result c.strip_prefix.ensures.cases) in
    rw c.from_residual.ensures (λ body rest e. h (body ++ (10 ∷ rest)) e)

pub returns : goal.returns
returns c =
    let h = MatchOption-at_some _ _ _ c.in_ok-rest.was (strip_prefix_is Decides-eqb c.args.text.now c.args.key.now c.strip_prefix.result c.strip_prefix.ensures.cases) in
    past_key c.split.result c.args.text.now c.args.key.now c.in_ok-rest.rest.now h c.split.ensures
