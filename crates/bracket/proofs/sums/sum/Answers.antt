-- `bracket::sum` meets its contract: the two sums are the least and the greatest of the four. Assumes nothing.
use Rattle.bracket.proofs.Signs.{over-plus}
use Rattle.bracket.proofs.Same.{rounded-is}
use Rattle.bracket.proofs.Ends.{held-ordered}
use Rattle.bracket.proofs.sums.sum.Goals as goal

pub returns : goal.returns
returns c =
    let h = c.requires in
    rounded-is c.args.v (over-plus (held-ordered h.0) (held-ordered h.1)) c.sum-lo.ensures c.sum-hi.ensures
