use Rattle.std.proofs.Common.{ap, ◌∙◌, rules, tests}
use Rattle.cache_state.specs.Cache.{fetch_all}
use Rattle.cache_state.proofs.Fetches.{all_lines}
use Rattle.slot_kind.specs.Slots.{slots_fetched}
use Rattle.slot_kind.proofs.SlotStateFactsGeometry.pass.Goals as goal

pub returns : goal.returns
returns c t p =
    c.fetch_lines.ensures p (slots_fetched c.args.geometry) (λ x line y q. search (rules, tests))
    ∙ ap (λ ts. fetch_all (slots_fetched c.args.geometry) ts c.args.self.now) (all_lines c.args.geometry c.args.block.now)
