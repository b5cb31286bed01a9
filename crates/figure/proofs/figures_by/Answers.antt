use Rattle.std.proofs.Common.{◌∙◌}
use Rattle.tally.specs.Kinds.{cycles_size, pair_size}
use Rattle.tally.specs.Lawful.{cycles_lawful, pairs_lawful}
use Rattle.task.specs.View.{task_contents}
use Rattle.categories.specs.Costs.{cycle_costs, pair_costs, cycle_tally, pair_tally}
use Rattle.marks.specs.Table.{mark_at}
use Rattle.figure.specs.Price.{block_cycles, stay_cycles, block_pair, stay_pair, priced}
use Rattle.figure.proofs.Pricing.{cheap_agree, counts_agree, blocks_long, stays_long, found, cycles_cheap, pairs_cheap}
use Rattle.figure.proofs.figures_by.Goals as goal

pub greatest-requires : goal.greatest-requires
greatest-requires c =
    let task = c.args.marked.now.task.now in
    let k = task_contents task in
    let m = mark_at k c.args.marked.now.table.now in
    let ps = c.deref.result.now in
    let ss = c.deref-2.result.now in
    let ps-are = c.deref.ensures.value ∙ c.in_ok-paying.ensures in
    let ss-are = c.deref-2.ensures.value ∙ c.in_ok-lines.ensures in
    record {
      blocks = blocks_long block_cycles stay_cycles k m ps ss ps-are ss-are;
      loops = stays_long block_cycles stay_cycles k m ps ss ps-are ss-are;
      cheap = cheap_agree cycles_size k (priced block_cycles stay_cycles k ps ss) (cycle_costs k m) (counts_agree block_cycles stay_cycles k m ps ss ps-are ss-are) (cycles_cheap k task.«record».ranges m);
    }

pub greatest-requires-2 : goal.greatest-requires-2
greatest-requires-2 c =
    let task = c.args.marked.now.task.now in
    let k = task_contents task in
    let m = mark_at k c.args.marked.now.table.now in
    let ps = c.deref-3.result.now in
    let ss = c.deref-4.result.now in
    let ps-are = c.deref-3.ensures.value ∙ c.in_ok-paying.ensures in
    let ss-are = c.deref-4.ensures.value ∙ c.in_ok-lines.ensures in
    record {
      blocks = blocks_long block_pair stay_pair k m ps ss ps-are ss-are;
      loops = stays_long block_pair stay_pair k m ps ss ps-are ss-are;
      cheap = cheap_agree pair_size k (priced block_pair stay_pair k ps ss) (pair_costs k m) (counts_agree block_pair stay_pair k m ps ss ps-are ss-are) (pairs_cheap k task.«record».ranges m);
    }

pub returns : goal.returns
returns c =
    let task = c.args.marked.now.task.now in
    let k = task_contents task in
    let m = mark_at k c.args.marked.now.table.now in
    let format = task.«record».ranges in
    record {
      rows = c.args.marked.now.rows;
      cycles = found block_cycles stay_cycles k m c.deref.result.now c.deref-2.result.now
          (c.deref.ensures.value ∙ c.in_ok-paying.ensures) (c.deref-2.ensures.value ∙ c.in_ok-lines.ensures)
          cycle_tally cycles_size cycles_lawful format task.sound c.in_ok-cycles.cycles c.in_ok-cycles.ensures;
      greatest = found block_pair stay_pair k m c.deref-3.result.now c.deref-4.result.now
          (c.deref-3.ensures.value ∙ c.in_ok-paying.ensures) (c.deref-4.ensures.value ∙ c.in_ok-lines.ensures)
          pair_tally pair_size pairs_lawful format task.sound c.in_ok-pair.pair c.in_ok-pair.ensures;
    }
