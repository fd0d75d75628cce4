-- The line has the answer of the pair check, value by value. Assumes nothing.
use Rattle.std.proofs.Common.{ap, ◌∙◌, get_or}
use Rattle.line.specs.Line.{held, line_of}
use Rattle.reading.specs.Values.{check_values}
use Rattle.bench.specs.Lines.{answer_line, pair_of, proposal_line}
use Rattle.bench.proofs.answer.answer_line.Goals as goal

pub returns-clause-value : goal.returns-clause-value
unfolding proposal_line answer_line pair_of check_values
returns-clause-value c =
    let a = c.args in
    let answered = c.pair_check-answer.ensures.pair_stated ∙ ap (pair_of a.width a.kind a.table.now) c.read_proposal-p.ensures in
    c.of_answer.ensures.value
    ∙ ap (λ v. held (line_of a.count (get_or v 0 0) (get_or v 1 0) (get_or v 2 0) (get_or v 3 0)))
    (c.of_check-values.ensures ∙ ap check_values answered)
