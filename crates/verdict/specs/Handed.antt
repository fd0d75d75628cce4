-- What the code asks of what it works on: brackets whose two ends are exactly f64s, and inputs that passed their checks. Assumes nothing.
use Rattle.std.specs.Prelude.{ℕ, ◌^◌, ◌<◌, T, Float}
use Rattle.std.specs.Float.Ieee.Scale.{finite}
use Rattle.sheet.specs.Range.{Doubled}
use Rattle.exact.specs.Fraction.{◌≼◌}
use Rattle.doubles.specs.Double.{exact_of}
use Rattle.doubles.specs.Range.{accepted_temperature, accepted_density}
use Rattle.bracket.specs.declared.Bracket.{Bracket}
use Rattle.verdict.specs.declared.State.{State}

-- both ends are exactly f64s
pub record Handy (b : Bracket) : Type 0 where
  pub lower : Doubled b.lo
  pub lower_few : b.lo.m < 2 ^ 53
  pub upper : Doubled b.hi
  pub upper_few : b.hi.m < 2 ^ 53

-- both f64s are finite
pub record EndsFinite (lower upper : Float) : Type 0 where
  pub lower_finite : T (finite lower)
  pub upper_finite : T (finite upper)

-- a state in the kind's range
pub record Workable (kind : ℕ) (state : State) : Type 0 where
  pub temperature : T (accepted_temperature kind state.temperature)
  pub density : T (accepted_density kind state.density)

-- the same for a pair, with the densities on their own sides
pub record WorkablePair (kind : ℕ) (liquid : State) (vapour pressure_tolerance gibbs_tolerance : Float) : Type 0 where
  pub temperature : T (accepted_temperature kind liquid.temperature)
  pub liquid_density : T (accepted_density kind liquid.density)
  pub vapour_density : T (accepted_density kind vapour)
  pub pressure-tolerance : T (finite pressure_tolerance)
  pub gibbs-tolerance : T (finite gibbs_tolerance)
  pub above : exact_of vapour ≼ exact_of liquid.density
