-- `quick::own::state_sheet` meets its contract. Assumes nothing.
use mathlib.Core.Path.{sym, subst, ◌∙◌}
use Rattle.quick.specs.Reading.{IsSheet}
use Rattle.quick.specs.Lent.{plain_reply}
use Rattle.quick.proofs.Held.{sheet-held}
use Rattle.quick.proofs.own.state_sheet.Goals as goal

pub sheet_in-requires : goal.sheet_in-requires
unfolding plain_reply
sheet_in-requires c = subst IsSheet (sym c.ask_own.ensures.value.0) tt

pub returns-clause-state_stated : goal.returns-clause-state_stated
unfolding plain_reply
returns-clause-state_stated c = sheet-held (sym c.sheet_in.ensures ∙ c.ask_own.ensures.value.0)
