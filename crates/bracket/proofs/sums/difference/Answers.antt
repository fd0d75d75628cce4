-- `bracket::difference` meets its contract: the two differences are the least and the greatest of the four. Assumes nothing.
use Rattle.bracket.proofs.Signs.{over-minus}
use Rattle.bracket.proofs.Same.{rounded-is}
use Rattle.bracket.proofs.Ends.{held-ordered}
use Rattle.bracket.proofs.sums.difference.Goals as goal

pub returns : goal.returns
returns c =
    let h = c.requires in
    rounded-is c.args.v (over-minus (held-ordered h.0) (held-ordered h.1)) c.difference-lo.ensures c.difference-hi.ensures
