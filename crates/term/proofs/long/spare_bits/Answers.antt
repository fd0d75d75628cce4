-- `term::long::spare_bits` meets its contract. Assumes nothing.
use Rattle.term.specs.Long.{spare_bits}
use Rattle.term.proofs.long.spare_bits.Goals as goal

pub returns : goal.returns
unfolding spare_bits
returns c = c.read_field.ensures
