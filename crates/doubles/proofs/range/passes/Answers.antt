-- `range::passes` meets its contract. Assumes nothing.
use mathlib.Core.Path.{◌∙◌}
use Rattle.doubles.proofs.Within.{le_tolerance}
use Rattle.doubles.proofs.range.passes.Goals as goal

pub returns-then-tolerance-lower : goal.returns-then-tolerance-lower
returns-then-tolerance-lower c =
    rw c.if-tolerance-lower.true at (le_tolerance c.args.lower c.args.upper c.args.tolerance c.requires.lower_finite c.requires.upper_finite c.requires.tolerance_finite)

pub returns-else-tolerance-lower : goal.returns-else-tolerance-lower
returns-else-tolerance-lower c =
    c.if-tolerance-lower.false
    ∙ rw c.if-tolerance-lower.false at (le_tolerance c.args.lower c.args.upper c.args.tolerance c.requires.lower_finite c.requires.upper_finite c.requires.tolerance_finite)
