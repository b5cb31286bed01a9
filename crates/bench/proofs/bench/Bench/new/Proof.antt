-- The law, one level up.
use base.Logic.{ent, emp, emp∗, sep, via, mono_l}
use contract.Fact.{fact}
use contract.Monad.{fact_i}
use Rattle.std.proofs.Common.{rules}
use borrow.Fn.Written as Written
use borrow.Fn.World.{World}
use borrow.Fn.Function as Function
use borrow.Fn.Run as Run
use contract.Running as Running
use Rattle.calls.specs.History.{EveryHistoryStands}
use Rattle.calls.proofs.Law.{every_history}
use Rattle.bench.specs.contracts.bench.Bench.new.Key as Key
use Rattle.bench.proofs.bench.Bench.new.Code as Code
use Rattle.bench.proofs.bench.Bench.new.Kinds as Kinds
use Rattle.bench.proofs.bench.Bench.new.Lts as Lts
use Rattle.bench.proofs.bench.Bench.new.Reads as Reads
use Rattle.bench.proofs.bench.Bench.new.Statement.{statement}
use Rattle.bench.proofs.bench.Bench.new.Tie as tie

returns : tie.Need-returns
returns c = search rules

stands : (w : World) → ent w.𝓤 (emp w.𝓤) (sep w.𝓤 (fact w.𝓤 EveryHistoryStands) (emp w.𝓤))
stands w =
    via w.𝓤 (sep w.𝓤 (emp w.𝓤) (emp w.𝓤)) (emp∗ w.𝓤 (emp w.𝓤))
    (mono_l w.𝓤 (emp w.𝓤) (fact_i w.𝓤 EveryHistoryStands (emp w.𝓤) every_history))

passes : (w : World) → Written.Passes 0 Kinds.ps Kinds.r Reads.Ghost Reads.requires Reads.ensures Reads.pre_read Reads.Pinned Reads.Owned Reads.post_read w
passes w κs a g r ws ft p q = via w.𝓤 (sep w.𝓤 (emp w.𝓤) (emp w.𝓤)) (emp∗ w.𝓤 (emp w.𝓤)) (mono_l w.𝓤 (emp w.𝓤) (stands w))

pub new_spec : {M : Type 1} → statement M
unfolding Running.tables_of
new_spec {M} 𝓤 𝓛 𝓜 𝓡 w =
    Written.close 0 Kinds.ps Kinds.r Reads.Ghost Reads.requires Reads.ensures Reads.pre_read Reads.Pinned Reads.Owned Reads.post_read
    record { M = M; 𝓤 = 𝓤; 𝓛 = 𝓛; 𝓜 = 𝓜; 𝓡 = 𝓡 }
    𝓡.env Key.name Code.function (Code.unfolded 𝓤 𝓛.H 𝓜 𝓡 w)
    (λ κs a g. tt)
    (λ κs. Reads.owns κs record { M = M; 𝓤 = 𝓤; 𝓛 = 𝓛; 𝓜 = 𝓜; 𝓡 = 𝓡 })
    (passes record { M = M; 𝓤 = 𝓤; 𝓛 = 𝓛; 𝓜 = 𝓜; 𝓡 = 𝓡 })
    (λ g. Written.at_code 𝓤 𝓛.H (Run.Over 𝓛 𝓜 𝓡 𝓡.env).C (Run.Over 𝓛 𝓜 𝓡 𝓡.env).Λ
    Lts.function Code.function tie.same_locals tie.same_body
    (Function.plain_of 𝓛 0 Lts.ps Lts.r Reads.Pre Reads.Post)
    (tie.spec returns 𝓤 𝓛 (Run.Over 𝓛 𝓜 𝓡 𝓡.env)))
