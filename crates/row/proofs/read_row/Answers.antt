-- `row::read_row` meets its contract. Assumes nothing.
use native.Mathlib.Omega.{arith}
use mathlib.Core.Path.{sym, subst, ◌∙◌}
use Rattle.row.specs.Standing.{Stands}
use Rattle.row.proofs.Reading.{test_good, read_yes, read_no, read_none}
use Rattle.row.proofs.read_row.Goals as goal

pub put_row-len-requires : goal.put_row-len-requires
put_row-len-requires c = test_good _ (sym c.good.ensures ∙ c.if-good.true)

pub returns-then-stands : goal.returns-then-stands
returns-then-stands c =
    let a = c.args in
    let good = test_good _ (sym c.good.ensures ∙ c.if-good.true) in
    read_yes a.text.now a.at _ good c.put_row-len.ensures.put (omega arith) (subst (Stands _ _ _) c.if-stands.true c.stands.ensures)

pub returns-else-stands : goal.returns-else-stands
returns-else-stands c =
    let a = c.args in
    read_no a.text.now a.at _ c.guess-row.ensures c.put_row-len.ensures.put (omega arith) (subst (Stands _ _ _) c.if-stands.false c.stands.ensures)

pub returns-else-good : goal.returns-else-good
returns-else-good c =
    let a = c.args in
    read_none a.text.now a.at _ c.guess-row.ensures (sym c.good.ensures ∙ c.if-good.false)
