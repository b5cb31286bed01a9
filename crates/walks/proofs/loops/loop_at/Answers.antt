use Rattle.std.proofs.Common.{◌≡◌, ℕ, ◌<◌, ◌≤◌, length, sym, subst, rules, arith}
use Rattle.std.proofs.lemmas.Grind.{common_steps}
use Rattle.std.proofs.lemmas.Option.{gets}
use Rattle.records.specs.declared.parts.Loop.{Loop}
use Rattle.task.specs.declared.Task.{Task}
use Rattle.task.specs.Graph.{loop_at}
use Rattle.task.specs.View.{task_contents}
use Rattle.walks.specs.Walk.{all_loops}
use Rattle.walks.proofs.Inside.{loop_in}
use Rattle.walks.proofs.loops.loop_at.Goals as goal

-- the loop of a number that is a loop's is a range of the blocks
fits : (t : Task) (i : ℕ) (l : Loop) → l ≡ loop_at (all_loops (task_contents t)) i → i < length (all_loops (task_contents t))
    → (l.header ≤ l.last) × (l.last < length (task_contents t).blocks)
fits t i l is h =
    subst (λ (x : Loop). (x.header ≤ x.last) × (x.last < length (task_contents t).blocks)) (sym is)
    (loop_in (task_contents t) t.«record».ranges t.sound i h)

pub returns-in_default-clause-blocks : goal.returns-in_default-clause-blocks
returns-in_default-clause-blocks c = fits c.args.task.now c.args.number c.task_loop.result (search (rules, arith))

pub returns-clause-blocks : goal.returns-clause-blocks
returns-clause-blocks c = fits c.args.task.now c.args.number c.unwrap_or.result (grind (arith, common_steps, gets))
