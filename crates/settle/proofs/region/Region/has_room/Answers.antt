use Rattle.std.proofs.Common.{◌≡◌, arith, rules, tests}
use Rattle.std.specs.List.{list_all}
use Rattle.std.proofs.lemmas.Iterator.{YieldsList-from_slice}
use Rattle.std.proofs.lemmas.Iterator.Search.{all_from_yields_List}
use Rattle.std.proofs.lemmas.Bool.Decides.{nat_tests}
use Rattle.facts.specs.Space.{placed}
use Rattle.settle.proofs.region.Region.has_room.Goals as goal
use Rattle.settle.proofs.region.Region.has_room.Goals.{then-self-le128, else-self-le128}

pub returns-then-self-room : goal.returns-then-self-room
returns-then-self-room c =
    let all : c.all.result ≡ list_all placed c.args.self.now.blocks.now =
    all_from_yields_List placed _ _ c.all.result c.all.ensures.ran (YieldsList-from_slice c.args.self.now.blocks.now cc) (λ x b q k. search (rules, tests)) in
    elim c.if-self-le128.branch [ then-self-le128 w ↦ grind (arith, nat_tests) | else-self-le128 w ↦ grind (arith, nat_tests) ]
