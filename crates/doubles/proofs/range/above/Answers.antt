-- `range::above` meets its contract. Assumes nothing.
use Rattle.doubles.proofs.Compare.{lt_exact}
use Rattle.doubles.proofs.range.above.Goals as goal

pub returns : goal.returns
returns c = lt_exact c.args.y c.args.x c.requires.y_finite c.requires.x_finite
