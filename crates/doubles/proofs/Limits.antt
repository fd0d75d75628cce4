-- The limits of the inputs by kind: what an input keeps to that any kind accepts, and that the widest kind accepts it too. Assumes nothing.
use Prim.Native.Nat.{ℕ, ◌*◌, ◌^◌}
use mathlib.Core.Bool.{false}
use lib.Dec.{T}
use lib.Ieee.{Float}
use Rattle.kind.specs.Kind.{by_kind, widest, coldest, densest, highest}
use Rattle.kind.proofs.Either.{cold-widest, dense_widest, high_widest}
use Rattle.exact.specs.Fraction.{nat, parts}
use Rattle.exact.proofs.Fraction.Order.{≼_refl}
use Rattle.exact.proofs.Fraction.Parts.{nat-≼}
use Rattle.doubles.specs.Range.{accepted_temperature, accepted_density, accepted_target}
use Rattle.doubles.proofs.Within.{Inside, inside, from_wider}

-- ---- the widest kind

module _ (kind : ℕ) (x : Float) where
  pub temperature_widest : T (accepted_temperature kind x) → T (accepted_temperature widest x)
  temperature_widest h = from_wider (nat (coldest kind)) (nat (coldest widest)) (nat 1273) (nat 1273) (nat-≼ (cold-widest kind)) (≼_refl (nat 1273)) x h

  pub density_widest : T (accepted_density kind x) → T (accepted_density widest x)
  density_widest h =
      from_wider (parts false 1 1024) (parts false 1 1024) (nat (densest kind)) (nat (densest widest)) (≼_refl (parts false 1 1024)) (nat-≼ (dense_widest kind)) x h

  pub target_widest : T (accepted_target kind x) → T (accepted_target widest x)
  target_widest h = from_wider (nat 0) (nat 0) (nat (highest kind)) (nat (highest widest)) (≼_refl (nat 0)) (nat-≼ (high_widest kind)) x h

  -- ---- by numbers

  pub temperature_inside : T (accepted_temperature kind x) → Inside (nat 252) (nat 1273) x
  unfolding by_kind
  temperature_inside h = inside (nat 252) (nat 1273) x (temperature_widest h)

  pub density_inside : T (accepted_density kind x) → Inside (parts false 1 1024) (nat 2576) x
  unfolding by_kind
  density_inside h = inside (parts false 1 1024) (nat 2576) x (density_widest h)

  pub target_inside : T (accepted_target kind x) → Inside (nat 0) (nat (25 * 10 ^ 9)) x
  unfolding by_kind
  target_inside h = inside (nat 0) (nat (25 * 10 ^ 9)) x (target_widest h)
