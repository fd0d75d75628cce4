-- `marks::exponentials::marks_exponential` is safe: the exponential takes what counts as its argument. Assumes nothing.
use Rattle.series.proofs.ExponentialSteps.{factor_taken}
use Rattle.marks.proofs.exponentials.marks_exponential.Goals as goal

pub expneg-r-requires : goal.expneg-r-requires
expneg-r-requires c = (c.argument.ensures.0, factor_taken c.argument.ensures.1)
