-- `range::accepts_pair_temperature` meets its contract: the limit lies between the literal and the f64 next below. Assumes nothing.
use mathlib.Core.Path.{refl, sym, subst, ◌∙◌}
use lib.Dec.{T, lit≤}
use lib.Ieee.{of_bits}
use Rattle.exact.specs.Fraction.{nat, parts, leq}
use Rattle.doubles.specs.Double.{exact_of}
use Rattle.doubles.specs.Range.{within}
use Rattle.doubles.proofs.Neighbours.{limit_decided}
use Rattle.doubles.proofs.range.accepts_pair_temperature.Goals as goal

pub lies_within-requires : goal.lies_within-requires
unfolding of_bits
lies_within-requires c = record { low_finite = tt; high_finite = tt }

pub returns : goal.returns
returns c =
    c.lies_within.ensures
    ∙ limit_decided _ 27316 100
    (record { plain = lit≤ tt; leading = lit≤ tt; number = lit≤ tt; inner = lit≤ tt; divisor = lit≤ tt; over = lit≤ tt; under = lit≤ tt })
    _ c.args.t (subst T (sym c.well_formed.0.1) tt)
    ∙ unfold of_bits exact_of nat parts leq within in refl
