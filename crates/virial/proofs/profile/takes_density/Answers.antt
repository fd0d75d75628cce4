-- `virial::profile::takes_density` meets its contract: the literals are the bounds. Assumes nothing.
use lib.Ieee.{of_bits}
use Rattle.exact.specs.Fraction.{nat, parts, leq}
use Rattle.doubles.specs.Double.{exact_of}
use Rattle.doubles.specs.Range.{within}
use Rattle.virial.proofs.profile.takes_density.Goals as goal

pub lies_within-requires : goal.lies_within-requires
unfolding of_bits
lies_within-requires c = record { low_finite = tt; high_finite = tt }

pub returns : goal.returns
unfolding of_bits exact_of nat parts leq within
returns c = c.lies_within.ensures
