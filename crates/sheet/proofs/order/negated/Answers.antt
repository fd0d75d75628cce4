-- `sheet::order::negated` meets its contract. Assumes nothing.
use Rattle.sheet.specs.Number.{negate_sheet}
use Rattle.sheet.proofs.order.negated.Goals as goal

pub returns : goal.returns
unfolding negate_sheet
returns c = c.signed.ensures
