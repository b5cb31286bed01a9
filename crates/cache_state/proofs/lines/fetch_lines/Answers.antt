use Rattle.std.proofs.Common.{◌≡◌, ℕ, min, map, take, ap, ◌∙◌, rules, tests, arith}
use Rattle.std.specs.List.{range_with_len, fold}
use Rattle.std.proofs.lemmas.Iterator.{YieldsList-from_range, YieldsList-from_map}
use Rattle.std.proofs.lemmas.Iterator.Consumers.{fold_from_yields_List}
use Rattle.cache_state.specs.Cache.{empty, fetch_line, fetch_lines}
use Rattle.cache_state.proofs.Fetches.{first_lines, fold-fetched}
use Rattle.cache_state.proofs.lines.fetch_lines.Goals as goal

pub returns : goal.returns
returns g c p fetched h =
    let block = c.args.block.now in
    let n = c.min.result in
    let line : ℕ → ℕ = λ j. min (fetch_line c.args.geometry block j) empty in
    let folded : c.fold.result ≡ fold (λ x t. fetched t x) c.args.state (map line (range_with_len 0 n)) =
    fold_from_yields_List _ (λ x t. fetched t x) c.args.state c.fold.result c.fold.ensures.ran
    (YieldsList-from_map _ line (YieldsList-from_range 0 n n (cc) (omega arith)) c.map.ensures.closure (λ x r q k. search (rules, tests)))
    (λ a x b q k. (g.met.F.Fn.1.step_stays c.args.fetch (a, (x, tt)) b q k, h a x b ((g.met.F.FnMut.1.post_iff c.args.fetch (a, (x, tt)) b).1 (q, k)))) in
    folded ∙ ap (λ ts. fold (λ x t. fetched t x) c.args.state ts) (first_lines c.args.geometry block c.args.count n p c.min.ensures)
    ∙ fold-fetched fetched (take c.args.count (fetch_lines c.args.geometry block)) c.args.state
