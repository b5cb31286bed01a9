use Rattle.std.proofs.Common.{ap, ◌∙◌, rules, tests}
use Rattle.cache_state.specs.Cache.{fetch_all}
use Rattle.cache_state.proofs.Fetches.{all_lines}
use Rattle.last_line_kind.specs.LastLine.{last_fetched}
use Rattle.last_line_kind.proofs.LastLineFactsGeometry.pass.Goals as goal

pub returns : goal.returns
returns c t p =
    c.fetch_lines.ensures p last_fetched (λ x line y q. search (rules, tests))
    ∙ ap (λ ts. fetch_all last_fetched ts c.args.self.now) (all_lines c.args.geometry c.args.block.now)
