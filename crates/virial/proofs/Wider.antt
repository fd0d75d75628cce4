-- What the card's profile takes, the widest kind takes, and so every law of the equation's inputs holds of it. Assumes nothing.
use mathlib.Core.Bool.{false}
use native.Mathlib.Omega.{arith}
use lib.Dec.{T}
use lib.Ieee.{Float}
use Rattle.exact.specs.Fraction.{nat, parts}
use Rattle.exact.proofs.Fraction.Order.{≼_refl}
use Rattle.exact.proofs.Fraction.Parts.{nat-≼}
use Rattle.kind.specs.Kind.{by_kind, widest}
use Rattle.doubles.specs.Double.{exact_of}
use Rattle.doubles.specs.Range.{accepted_temperature, accepted_density}
use Rattle.doubles.proofs.Within.{from_wider}
use Rattle.equation.specs.Accepted.{Temperature, Density}
use Rattle.equation.proofs.Taken.{temperature_of, density-of}
use Rattle.virial.specs.Profile.{profile_temperature, profile_density}

pub temperature_wider : (t : Float) → T (profile_temperature t) → T (accepted_temperature widest t)
unfolding by_kind
temperature_wider t h = from_wider (nat 273) (nat 252) (nat 1123) (nat 1273) (nat-≼ (omega arith)) (nat-≼ (omega arith)) t h

pub density_wider : (rho : Float) → T (profile_density rho) → T (accepted_density widest rho)
unfolding by_kind
density_wider rho h = from_wider (parts false 1 1024) (parts false 1 1024) (nat 55) (nat 2576) (≼_refl (parts false 1 1024)) (nat-≼ (omega arith)) rho h

pub temperature_in : (t : Float) → T (profile_temperature t) → Temperature (exact_of t)
temperature_in t h = temperature_of t (temperature_wider t h)

pub density_in : (rho : Float) → T (profile_density rho) → Density (exact_of rho)
density_in rho h = density-of rho (density_wider rho h)
