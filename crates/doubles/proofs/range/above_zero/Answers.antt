-- `range::above_zero` meets its contract: the literal is the limit. Assumes nothing.
use lib.Ieee.{of_bits}
use Rattle.exact.specs.Fraction.{nat, parts, leq}
use Rattle.doubles.specs.Double.{exact_of}
use Rattle.doubles.proofs.range.above_zero.Goals as goal

pub returns : goal.returns
unfolding of_bits exact_of nat parts leq
returns c = c.above.ensures
