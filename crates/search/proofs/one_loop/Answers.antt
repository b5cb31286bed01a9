-- What the round leaves is what the other two steps start from.
use Rattle.search.proofs.Steps.{round_low, round_room, round_values, round_small}
use Rattle.search.proofs.one_loop.Goals as goal

pub turn_of-turn-requires : goal.turn_of-turn-requires
turn_of-turn-requires g c =
    let t = g.T.Tally in
    let m = t.ops in
    record {
      low = round_low m t.size c.args.edges.now c.args.l c.args.stay c.args.work.now c.requires
          c.pass_round.new.work c.pass_round.ensures;
      room = round_room m t.size c.args.edges.now c.args.l c.args.stay c.args.work.now c.requires
          c.pass_round.new.work c.pass_round.ensures;
      backs = c.requires.backs;
      small = round_values m t.size c.args.edges.now c.args.l c.args.stay c.args.work.now c.requires
          c.pass_round.new.work c.pass_round.ensures;
    }

pub close-requires : goal.close-requires
close-requires g c =
    let t = g.T.Tally in
    let m = t.ops in
    record {
      low = round_low m t.size c.args.edges.now c.args.l c.args.stay c.args.work.now c.requires
          c.pass_round.new.work c.pass_round.ensures;
      room = round_room m t.size c.args.edges.now c.args.l c.args.stay c.args.work.now c.requires
          c.pass_round.new.work c.pass_round.ensures;
      small = round_small m t.size c.args.edges.now c.args.l c.args.stay c.args.work.now c.requires
          c.pass_round.new.work c.pass_round.ensures c.turn_of-turn.result c.turn_of-turn.ensures;
    }
