-- `virial::polynomial::second_of` meets its contract. Assumes nothing.
use native.Mathlib.Omega.{arith}
use Rattle.virial.specs.Rules.{second_of}
use Rattle.virial.proofs.polynomial.second_of.Goals as goal

pub share-requires : goal.share-requires
share-requires c = (c.requires.held, omega arith, omega arith)

pub returns : goal.returns
unfolding second_of
returns c = c.share.ensures
