-- `term::packer::head` meets its contract. Assumes nothing.
use Rattle.term.specs.Pack.{head_of}
use Rattle.term.proofs.packer.head.Goals as goal

pub returns : goal.returns
unfolding head_of
returns c = rw c.sign.ensures.0
