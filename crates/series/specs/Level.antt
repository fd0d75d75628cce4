-- The logarithm of a density ratio at level N, on exact fractions (01, "The equation itself"): nothing here is rounded. Assumes nothing.
use Rattle.std.specs.Prelude.{ℕ, ◌^◌, false}
use Rattle.exact.specs.Fraction.{Fraction, nat, parts, ◌⊕◌, ◌⊖◌, ◌⊗◌, ◌⊘◌}
use Rattle.exact.specs.Series.{ln_at}
use Rattle.doubles.specs.Ratio.{ratio_exponent}

-- r and z of the exact densities
unfoldable pub r_at : (liquid vapour : Fraction) → ℕ → Fraction
r_at liquid vapour k = liquid ⊘ (vapour ⊗ nat (2 ^ k))

unfoldable pub z_at : Fraction → Fraction
z_at r = (r ⊖ nat 1) ⊘ (r ⊕ nat 1)

unfoldable pub ln_scaled_at : ℕ → (liquid vapour : Fraction) → ℕ → Fraction
ln_scaled_at N liquid vapour k = nat k ⊗ ln_at N (parts false 1 3) ⊕ ln_at N (z_at (r_at liquid vapour k))

unfoldable pub ln_ratio_at : ℕ → (liquid vapour : Fraction) → Fraction
ln_ratio_at N liquid vapour = ln_scaled_at N liquid vapour (ratio_exponent liquid vapour)
