-- `series::ratio::ratio_z` meets its contract: the two ends' differences and sums with 1, and their quotient. Assumes nothing.
use lib.Dec.{lit≤}
use Rattle.bracket.proofs.Operands.{whole_held}
use Rattle.series.proofs.ExponentialSteps.{held-as}
use Rattle.series.proofs.RatioSteps.{less-is_held, more-is_held, more-is_above, z_is}
use Rattle.series.proofs.ratio.ratio_z.Goals as goal

pub difference-less-requires : goal.difference-less-requires
difference-less-requires c = (c.requires.held, held-as c.whole-one.ensures (whole_held c.requires.held.lo.width 1 (lit≤ tt)))

pub sum-more-requires : goal.sum-more-requires
sum-more-requires c = (c.requires.held, held-as c.whole-one.ensures (whole_held c.requires.held.lo.width 1 (lit≤ tt)))

pub quotient-requires : goal.quotient-requires
quotient-requires c =
    let n = c.requires in
    let i = c.whole-one.ensures in
    (less-is_held n i c.difference-less.ensures, more-is_held n i c.sum-more.ensures, more-is_above n i c.sum-more.ensures)

pub returns : goal.returns
returns c =
    z_is c.requires c.whole-one.ensures c.difference-less.ensures
    c.sum-more.ensures c.quotient.ensures
