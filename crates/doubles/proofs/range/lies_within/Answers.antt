-- `range::lies_within` meets its contract. Assumes nothing.
use mathlib.Core.Path.{◌∙◌}
use Rattle.doubles.proofs.Within.{le_within}
use Rattle.doubles.proofs.range.lies_within.Goals as goal

pub returns-then-low-x : goal.returns-then-low-x
returns-then-low-x c =
    rw c.if-low-x.true at (le_within c.args.low c.args.high c.args.x c.requires.low_finite c.requires.high_finite)

pub returns-else-low-x : goal.returns-else-low-x
returns-else-low-x c =
    c.if-low-x.false
    ∙ rw c.if-low-x.false at (le_within c.args.low c.args.high c.args.x c.requires.low_finite c.requires.high_finite)
