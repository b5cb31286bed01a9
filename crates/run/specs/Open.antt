-- An open walk as a run, and what becomes of it when it goes on to a block.
use Rattle.std.specs.Prelude.{◌≡◌, ℕ, ◌+◌, ◌*◌, ◌^◌, ◌<◌, ◌≤◌, List, length, Ok, Err, vec_items, Result, slice_index}
use Rattle.records.specs.declared.parts.Block.{Block}
use Rattle.records.specs.declared.parts.Header.{Header}
use Rattle.records.specs.declared.parts.Loop.{Loop}
use Rattle.records.specs.Contents.{Contents}
use Rattle.task.specs.Graph.{loop_at, Leads}
use Rattle.walks.specs.Walk.{all_loops}
use Rattle.run.specs.declared.OpenWalk.{OpenWalk}
use Rattle.run.specs.declared.StepFault.{StepFault}
use Rattle.run.specs.declared.StepFault.TheVariants.{NoEdge, LimitSpent}
use Rattle.run.specs.Run.{Run, entered}

-- what the walk has come to
abbrev pub run_of : OpenWalk → Run
run_of w = record {
  cache = vec_items w.cache;
  block = w.block;
  rounds = vec_items w.rounds;
  cycles = w.cycles;
  misses = w.misses;
  fetches = w.fetches;
}

-- the cycles of one entry of a block, when so many of its fetches miss
abbrev pub entry_cycles : Header → Block → ℕ → ℕ
entry_cycles h b m = b.cycles + (h.hit * b.fetches + h.penalty * m)

-- one of these loops is headed by block b, and its stay has had its limit of rounds
abbrev pub SpentOf : List Loop → List ℕ → ℕ → Type 0
SpentOf ls rs b = (i : ℕ) × (i < length ls) × ((loop_at ls i).header ≡ b) × ((loop_at ls i).limit ≤ slice_index rs i)

-- some loop of the task headed by block b has had its limit of rounds
abbrev pub Spent : Contents → Run → ℕ → Type 0
Spent c r b = SpentOf (all_loops c) r.rounds b

-- The run has rounds for each loop, and its counts stay below 2 ^ 64 as it enters block b.
pub record Fits (c : Contents) (b : ℕ) (r : Run) : Type 0 where
  pub long : length r.rounds ≡ length (all_loops c)
  pub cycles : (entered c b r).cycles < 2 ^ 64
  pub misses : (entered c b r).misses < 2 ^ 64
  pub fetches : (entered c b r).fetches < 2 ^ 64

-- From run r the walk goes on to block b and comes to run s, or says why not and stays as it is.
abbrev pub Stepped : Contents → Run → ℕ → Result Unit StepFault → Run → Type 0
Stepped c r b (Ok u) s = Leads c.edges r.block b × (Spent c r b → ⊥) × (Fits c b r → s ≡ entered c b r)
Stepped c r b (Err (NoEdge n)) s = (n ≡ b) × (Leads c.edges r.block b → ⊥) × (s ≡ r)
Stepped c r b (Err (LimitSpent n)) s = (n ≡ b) × Leads c.edges r.block b × Spent c r b × (s ≡ r)
