-- `row::said::exact` meets its contract. Assumes nothing.
use Rattle.row.proofs.Saying.{exact_yes, exact_no}
use Rattle.row.proofs.said.exact.Goals as goal

pub returns-then-magnitude-unit-eq0 : goal.returns-then-magnitude-unit-eq0
returns-then-magnitude-unit-eq0 c = exact_yes _ _ c.requires c.if-magnitude-unit-eq0.true

pub returns-else-magnitude-unit-eq0 : goal.returns-else-magnitude-unit-eq0
returns-else-magnitude-unit-eq0 c = exact_no _ _ c.if-magnitude-unit-eq0.false
