-- Where the open walk of a run stands.
use Rattle.run.specs.Run.{Run}
use Rattle.calls.specs.declared.call.Standing.{Standing}

abbrev pub standing : Run → Standing
standing r = record { block = r.block; cycles = r.cycles; misses = r.misses; fetches = r.fetches }
