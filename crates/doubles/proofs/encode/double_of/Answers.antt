-- `encode::double_of` meets its contract. Assumes nothing.
use Rattle.sheet.specs.Number.{value}
use Rattle.doubles.proofs.encode.double_of.Goals as goal

pub returns : goal.returns
unfolding value
returns c = c.encode.ensures
