-- An f64 that a kind accepts has an exact value in the range of its input. Assumes nothing.
use Prim.Native.Nat.{ℕ}
use lib.Dec.{T}
use lib.Ieee.{Float}
use lib.Ieee.Scale.{finite}
use Rattle.kind.specs.Kind.{widest}
use Rattle.doubles.specs.Double.{exact_of}
use Rattle.doubles.specs.Range.{accepted_temperature, accepted_density, accepted_target}
use Rattle.doubles.proofs.Limits.{temperature_inside, density_inside, target_inside}
use Rattle.equation.specs.Accepted.{Temperature, Density, Target}

module _ (kind : ℕ) (x : Float) where
  pub temperature_taken : T (accepted_temperature kind x) → Temperature (exact_of x)
  temperature_taken h = let i = temperature_inside kind x h in record { cold = i.above; hot = i.below }

  pub density_taken : T (accepted_density kind x) → Density (exact_of x)
  density_taken h = let i = density_inside kind x h in record { thin = i.above; dense = i.below }

  pub target_taken : T (accepted_target kind x) → Target (exact_of x)
  target_taken h = let i = target_inside kind x h in record { none = i.above; most = i.below }

-- the widest kind's, which the code here asks for
pub temperature_of : (t : Float) → T (accepted_temperature widest t) → Temperature (exact_of t)
temperature_of = temperature_taken widest

pub temperature_finite : (t : Float) → T (accepted_temperature widest t) → T (finite t)
temperature_finite t h = (temperature_inside widest t h).finite

pub density-of : (rho : Float) → T (accepted_density widest rho) → Density (exact_of rho)
density-of = density_taken widest

pub density_finite : (rho : Float) → T (accepted_density widest rho) → T (finite rho)
density_finite rho h = (density_inside widest rho h).finite

pub target_of : (p : Float) → T (accepted_target widest p) → Target (exact_of p)
target_of = target_taken widest

pub target_finite : (p : Float) → T (accepted_target widest p) → T (finite p)
target_finite p h = (target_inside widest p h).finite
