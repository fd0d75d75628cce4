-- `lent::deliver` meets its contract: all of the front is put, or nothing. Assumes nothing.
use Rattle.lent.proofs.Steps.{delivered_all}
use Rattle.lent.proofs.deliver.Goals as goal

pub returns-clause-delivered : goal.returns-clause-delivered
returns-clause-delivered c = delivered_all c.if-out-from.false c.put_bytes.ensures
