-- `quick::own::pair_check` meets its contract. Assumes nothing.
use mathlib.Core.Path.{sym, subst, ◌∙◌}
use Rattle.quick.specs.Reading.{IsCheck}
use Rattle.quick.specs.Lent.{plain_reply}
use Rattle.quick.proofs.Held.{check-held}
use Rattle.quick.proofs.own.pair_check.Goals as goal

pub check_in-requires : goal.check_in-requires
unfolding plain_reply
check_in-requires c = subst IsCheck (sym c.ask_own.ensures.value.0) tt

pub returns-clause-pair_stated : goal.returns-clause-pair_stated
unfolding plain_reply
returns-clause-pair_stated c = check-held (sym c.check_in.ensures ∙ c.ask_own.ensures.value.0)
