use Rattle.std.proofs.Common.{◌≡◌, ◌+◌, ◌*◌, ◌≤◌, true, length, take, set, replicate, sym, ap, ◌∙◌, subst, rules}
use Rattle.facts.specs.Settling.{settled}
use Rattle.facts.proofs.Settled.{ends}
use Rattle.settle.specs.Outcome.{settleable}
use Rattle.settle.specs.View.{viewed}
use Rattle.settle.proofs.Steps.{accepted, settled_by, outcome_accepted}
use Rattle.settle.proofs.settle.Goals as goal

pub returns : goal.returns
returns g c =
    let k = g.K.Facts.kind c.args.geometry in
    let r = viewed c.args.region.now in
    let taken : g.K.Facts.takes c.args.geometry ≡ true = sym c.takes.ensures ∙ c.if-not-takes.false in
    let can : settleable r (length c.args.states.now) ≡ true = sym c.is_settleable.ensures ∙ c.if-not-is_settleable.false in
    let good = accepted r (length c.args.states.now) can in
    let begins : c.begin.new.states ≡ set (replicate (length (take (length c.args.region.now.blocks.now) c.args.states.now)) k.nothing_yet) c.args.region.now.range.header c.args.entry =
    search rules in
    let made = settled_by k r c.args.entry c.args.states.now c.begin.new.states c.run.new.states c.run.result
    good.room begins c.run.ensures in
    record {
      outcome = outcome_accepted k (g.K.Facts.takes c.args.geometry) r c.args.entry c.args.states.now c.run.new.states c.run.result taken can made;
      few = λ n e. (let same : (settled k r c.args.entry).1 ≡ n = ap (λ p. p.1) made ∙ (cc) in
          subst (λ m. m ≤ length c.args.region.now.blocks.now * k.height + 1) same
          (ends (g.met.K.Facts.lawful c.args.geometry taken) r c.args.entry good.some good.fits).few);
    }
