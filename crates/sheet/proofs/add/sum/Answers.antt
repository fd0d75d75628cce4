-- `sheet::add::sum` meets its contract. Assumes nothing.
use Rattle.sheet.proofs.add.sum.Goals as goal

pub total-requires : goal.total-requires
total-requires c = c.requires

pub returns : goal.returns
returns c = c.total.ensures
