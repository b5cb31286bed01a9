use Rattle.std.proofs.Common.{refl}
use Rattle.std.specs.Fmt.{digits}
use Rattle.task.proofs.Instance.{example_sound}
use Rattle.report.proofs.Instances as instances
use Rattle.report.proofs.worked.worked.Goals as goal

pub returns : goal.returns
unfolding digits
returns c =
    record {
      a = refl;
      wide = refl;
      last_line = (refl, refl, refl);
      b = (refl, refl, refl, refl);
      c = (refl, refl, refl);
      calls = (refl, refl, refl);
      sound_a = (refl, instances.sound_a);
      sound_b = (refl, example_sound);
      sound_c = (refl, instances.sound_c);
    }
