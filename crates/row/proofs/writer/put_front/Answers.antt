-- `row::writer::put_front` meets its contract. Assumes nothing.
use Rattle.row.specs.Row.{front}
use Rattle.row.proofs.writer.put_front.Goals as goal

pub returns-then-negative-clause-put : goal.returns-then-negative-clause-put
unfolding front
returns-then-negative-clause-put c = rw c.if-negative.true c.put_bytes.ensures

pub returns-else-negative-clause-put : goal.returns-else-negative-clause-put
unfolding front
returns-else-negative-clause-put c = rw c.if-negative.false c.put_bytes-else-negative.ensures
