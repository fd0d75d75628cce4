-- `line::digits::digits` meets its contract. Assumes nothing.
use native.Mathlib.Omega.{arith}
use mathlib.Core.Path.{sym, ◌∙◌}
use Rattle.lent.proofs.Joined.{put_none, put_same, put_then}
use Rattle.line.proofs.Spelt.{digits-none, digits_more, digits_last}
use Rattle.line.proofs.digits.+digits.Goals as goal

pub returns-then-most-eq0-clause-put : goal.returns-then-most-eq0-clause-put
returns-then-most-eq0-clause-put t c = put_none _ _ (digits-none _ _ _ _ c.if-most-eq0.true)

pub returns-then-more-clause-put : goal.returns-then-more-clause-put
returns-then-more-clause-put t c =
    put_same (digits_more _ _ _ _ (omega arith) (sym c.more.ensures ∙ c.if-more.true)) (put_then c.digits-end.ensures.put c.last.ensures)

pub returns-else-more-clause-put : goal.returns-else-more-clause-put
returns-else-more-clause-put t c = put_same (digits_last _ _ _ _ (omega arith) (sym c.more.ensures ∙ c.if-more.false)) c.last-else-more.ensures
