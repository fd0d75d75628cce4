-- `line::proposal::double` meets its contract: the test tells a NaN's pattern from the others. Assumes nothing.
use mathlib.Core.Path.{sym}
use lib.Ieee.{of_bits, div}
use Rattle.line.proofs.NotANumber.{nan_pattern, number-pattern}
use Rattle.line.proofs.proposal.double.Goals as goal

pub float_from_bits-result : goal.float_from_bits-result
float_from_bits-result c = number-pattern _ c.if-bits-gt9218868437227405312.false

pub returns-then-bits-gt9218868437227405312 : goal.returns-then-bits-gt9218868437227405312
unfolding div of_bits
returns-then-bits-gt9218868437227405312 c = sym (nan_pattern _ c.if-bits-gt9218868437227405312.true)
