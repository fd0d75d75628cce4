-- `series_lines::paired` meets its contract: accepted densities are finite. Assumes nothing.
use mathlib.Core.Path.{◌≡◌, sym, ◌∙◌, subst}
use mathlib.Core.Bool.{Bool, true}
use lib.Dec.{T}
use lib.Ieee.{Float}
use lib.Ieee.Scale.{finite}
use Rattle.kind.specs.Kind.{widest}
use Rattle.doubles.specs.Range.{accepted_density}
use Rattle.doubles.proofs.Limits.{density_inside}
use Rattle.series_lines.proofs.paired.Goals as goal

-- what a test found true
found : {r b : Bool} → r ≡ b → r ≡ true → T b
found e t = subst T (sym (sym e ∙ t)) tt

is_finite : (x : Float) → T (accepted_density widest x) → T (finite x)
is_finite x t = (density_inside widest x t).finite

pub at_most-requires-clause-x_finite : goal.at_most-requires-clause-x_finite
at_most-requires-clause-x_finite c =
    is_finite c.args.vapour (found c.accepts_density-else-not-accepts_density.ensures c.if-not-accepts_density-2.false)

pub at_most-requires-clause-y_finite : goal.at_most-requires-clause-y_finite
at_most-requires-clause-y_finite c = is_finite c.args.liquid (found c.accepts_density.ensures c.if-not-accepts_density.false)
