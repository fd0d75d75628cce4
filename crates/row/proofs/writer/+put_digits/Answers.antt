-- `row::writer::put_digits` meets its contract. Assumes nothing.
use native.Mathlib.Omega.{arith}
use Rattle.lent.proofs.Joined.{put_none, put_same, put_then}
use Rattle.row.proofs.Back.{digits-none, digits_more}
use Rattle.row.proofs.writer.+put_digits.Goals as goal

pub returns-then-k-eq0-clause-put : goal.returns-then-k-eq0-clause-put
returns-then-k-eq0-clause-put t c = put_none _ _ (digits-none _ _ c.if-k-eq0.true)

pub returns-clause-put : goal.returns-clause-put
returns-clause-put t c = put_same (digits_more _ _ (omega arith)) (put_then c.put_digits-end.ensures.put c.put_digit.ensures)
