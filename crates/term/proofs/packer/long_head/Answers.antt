-- `term::packer::long_head` meets its contract. Assumes nothing.
use Rattle.term.specs.Long.{long_head}
use Rattle.term.proofs.packer.long_head.Goals as goal

pub returns : goal.returns
unfolding long_head
returns c = rw c.sign.ensures.0
