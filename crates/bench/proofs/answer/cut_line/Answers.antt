-- A cut proposal's line is the line of 12 and zeros. Assumes nothing.
use Rattle.bench.specs.Lines.{cut_line}
use Rattle.bench.proofs.answer.cut_line.Goals as goal

pub returns-clause-value : goal.returns-clause-value
unfolding cut_line
returns-clause-value c = c.of_answer.ensures.value
