-- `term::plain::plain_factor` meets its contract. Assumes nothing.
use mathlib.Core.Path.{sym}
use Rattle.term.proofs.Rules.{factor_none, factor_whole}
use Rattle.term.proofs.plain.plain_factor.Goals as goal

pub returns-then-c-eq0 : goal.returns-then-c-eq0
returns-then-c-eq0 c = sym (factor_none _ c.if-c-eq0.true)

pub returns-else-c-eq0 : goal.returns-else-c-eq0
returns-else-c-eq0 c = sym (factor_whole _ c.if-c-eq0.false)
