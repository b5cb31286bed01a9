use Rattle.categories.proofs.Charged.{charged_once}
use Rattle.categories.proofs.lines_charged_once.Goals as goal

pub returns : goal.returns
returns c = charged_once
