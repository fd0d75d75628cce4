-- `bracket::add_last` meets its contract. Assumes nothing.
use Rattle.bracket.specs.Rules.{addlast}
use Rattle.bracket.proofs.sums.add_last.Goals as goal

pub returns : goal.returns
unfolding addlast
returns c = λ i. record { lo = c.args.s.lo; hi = c.sum-hi.ensures i }
