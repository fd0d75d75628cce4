-- `row::reader::power_at` meets its contract. Assumes nothing.
use mathlib.Core.Path.{sym, ◌∙◌}
use Rattle.row.proofs.Parts.{power-minus, power-plain}
use Rattle.row.proofs.reader.power_at.Goals as goal

pub returns-then-byte_at-eq45 : goal.returns-then-byte_at-eq45
returns-then-byte_at-eq45 c =
    let a = c.args in
    c.saturating_sub.ensures ∙ sym (power-minus a.text.now a.at _ _ c.byte_at.ensures c.if-byte_at-eq45.true c.figure_at.ensures.value)

pub returns-else-byte_at-eq45 : goal.returns-else-byte_at-eq45
returns-else-byte_at-eq45 c =
    let a = c.args in
    sym (power-plain a.text.now a.at _ _ c.byte_at.ensures c.if-byte_at-eq45.false c.figure_at-else-byte_at-eq45.ensures.value)
