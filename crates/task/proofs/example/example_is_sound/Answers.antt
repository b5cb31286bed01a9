use Rattle.std.proofs.Common.{refl}
use Rattle.task.specs.Example.{example}
use Rattle.task.proofs.Instance.{example_sound}
use Rattle.task.proofs.Laws.{laws}
use Rattle.task.proofs.example.example_is_sound.Goals as goal

pub returns : goal.returns
returns c = record { format = refl; sound = example_sound; laws = laws example refl example_sound }
