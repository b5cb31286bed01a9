use Rattle.std.proofs.Common.{refl, arith}
use Rattle.std.proofs.lemmas.Result.{MatchResult-weaker}
use Rattle.task.specs.View.{task_contents}
use Rattle.run.specs.Open.{run_of}
use Rattle.examine.specs.Findings.{shown}
use Rattle.bench.proofs.Walked.{still_open, onward, walked_same}
use Rattle.bench.proofs.stage.WalkedTask.step.Goals as goal

pub invariant_of-self-2 : goal.invariant_of-self-2
invariant_of-self-2 c =
    let x = c.args.self.now in
    let t = task_contents x.examined.task in
    record {
      «open» = still_open t (shown t x.examined.found) (run_of x.walk) c.args.block x.examined.task.«record».ranges (omega arith) x.examined.backed x.«open»
          c.step.result (run_of c.step.new.self) c.step.ensures.goes;
    }

pub returns : goal.returns
returns c =
    let x = c.args.self.now in
    record {
      outcome = onward x _ c.args.block (omega arith) c.step.result refl refl c.step.ensures.goes;
      same = MatchResult-weaker c.step.result c.step.ensures.same (λ _ u. u) (λ _ q. walked_same _ _ _ _ _ _ _ _ q);
    }
