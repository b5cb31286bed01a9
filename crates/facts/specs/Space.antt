-- Where blocks lie.
use Rattle.std.specs.Prelude.{◌+◌, ◌*◌, Bool, nat_le}
use Rattle.records.specs.declared.parts.Block.{Block}

-- the block ends in the address space
abbrev pub placed : Block → Bool
placed b = nat_le (b.address + 4 * b.fetches) 16777216
