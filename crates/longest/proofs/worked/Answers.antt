use Rattle.std.proofs.Common.{cond, eqb, refl}
use Rattle.tally.specs.Lawful.{cycles_lawful}
use Rattle.longest.specs.Nine.{nine, by_fetches}
use Rattle.longest.proofs.NineSound.{nine_sound}
use Rattle.longest.proofs.Theorem.{finds}
use Rattle.longest.proofs.worked.Goals as goal

pub returns : goal.returns
returns c = record {
  format = refl;
  sound = nine_sound;
  fetches = finds cycles_lawful (by_fetches (λ _. 0)) nine refl nine_sound;
  stays = finds cycles_lawful (by_fetches (λ i. cond (eqb i 0) 0 1000)) nine refl nine_sound;
}
