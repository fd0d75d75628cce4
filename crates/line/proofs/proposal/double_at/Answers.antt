-- `line::proposal::double_at` meets its contract. Assumes nothing.
use mathlib.Core.Path.{ap, ◌∙◌}
use lib.Ieee.{of_bits, binary64}
use Rattle.line.specs.Proposal.{double_at}
use Rattle.line.proofs.proposal.double_at.Goals as goal

pub returns : goal.returns
unfolding double_at
returns c = c.double.ensures ∙ ap (of_bits binary64) c.word.ensures
