-- `range::at_most` meets its contract. Assumes nothing.
use Rattle.doubles.proofs.Compare.{le_exact}
use Rattle.doubles.proofs.range.at_most.Goals as goal

pub returns : goal.returns
returns c = le_exact c.args.x c.args.y c.requires.x_finite c.requires.y_finite
