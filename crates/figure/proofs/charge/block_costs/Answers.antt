-- Each block's price may be asked, as it fits.
use Rattle.std.proofs.Common.{ℕ, sym, subst, rules}
use Rattle.std.specs.List.{zip}
use Rattle.std.proofs.lemmas.List.Elements.{All-get_or}
use Rattle.std.proofs.lemmas.Iterator.{YieldsList-from_slice, YieldsList-from_zip}
use Rattle.std.proofs.lemmas.Iterator.Adapters.{serves_from_places}
use borrow.Author.Tests.{tests}
use Rattle.records.specs.declared.parts.Block.{Block}
use Rattle.task.specs.View.{task_contents}
use Rattle.search.specs.Outcome.{Fits}
use Rattle.figure.specs.Price.{block_priced}
use Rattle.figure.proofs.charge.block_costs.Goals as goal

pub collect-requires-clause-can : goal.collect-requires-clause-can
collect-requires-clause-can g c =
    let k = task_contents c.args.task.now in
    let Fit : Block × ℕ → Type 0 = λ p. Fits g.T.Tally.size (block_priced g.T.Price.of_block k.header p) in (
      (tt, tt),
      serves_from_places (YieldsList-from_zip (YieldsList-from_slice k.blocks (cc)) (YieldsList-from_slice c.args.paying.now (cc)))
          (λ x q r. search (rules, tests))
          (λ x j l e.
          let fit = subst Fit (sym e) (All-get_or Fit (zip k.blocks c.args.paying.now) j (x.0.now, x.1.now) l c.requires) in
          search rules),
    )
