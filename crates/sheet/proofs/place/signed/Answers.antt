-- `sheet::place::signed` meets its contract. Assumes nothing.
use mathlib.Core.Path.{refl}
use Rattle.sheet.specs.Number.{signed}
use Rattle.sheet.proofs.place.signed.Goals as goal

pub returns-then-neg : goal.returns-then-neg
unfolding signed
returns-then-neg c = rw c.if-neg.true refl

pub returns-else-neg : goal.returns-else-neg
unfolding signed
returns-else-neg c = rw c.if-neg.false refl
