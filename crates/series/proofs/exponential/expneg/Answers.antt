-- `series::exponential::expneg` meets its contract: 1 divided by the rule's total. Assumes nothing.
use lib.Dec.{lit≤}
use Rattle.bracket.proofs.Operands.{whole_held}
use Rattle.series.proofs.ExponentialSteps.{held-as, total-held, total-above, answer_is}
use Rattle.series.proofs.exponential.expneg.Goals as goal

pub quotient-requires : goal.quotient-requires
quotient-requires c =
    let f = c.requires.1 in
    let w = c.requires.0.lo.width in
    (held-as c.whole-one.ensures (whole_held w 1 (lit≤ tt)), total-held w f c.total.ensures, total-above w f c.total.ensures)

pub returns : goal.returns
returns c =
    let f = c.requires.1 in
    answer_is c.requires.0.lo.width f c.total.ensures c.whole-one.ensures c.quotient.ensures
