-- `marks::operands::one` meets its contract. Assumes nothing.
use Rattle.marks.proofs.Arguments.{one}
use Rattle.marks.proofs.operands.one.Goals as goal

pub returns : goal.returns
returns c = one c.requires
