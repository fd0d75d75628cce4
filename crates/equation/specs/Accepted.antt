-- The accepted inputs (document 01, "Inputs"; document 02, h) by their exact values, at the widest limits of a kind of table: what any kind
-- accepts lies within them. Assumes nothing.
use Rattle.std.specs.Prelude.{◌*◌, ◌^◌, false}
use Rattle.exact.specs.Fraction.{Fraction, nat, parts, ◌≼◌}

pub record Temperature (T : Fraction) : Type 0 where
  pub cold : nat 252 ≼ T
  pub hot : T ≼ nat 1273

pub record Density (rho : Fraction) : Type 0 where
  pub thin : parts false 1 1024 ≼ rho
  pub dense : rho ≼ nat 2576

pub record Target (p : Fraction) : Type 0 where
  pub none : nat 0 ≼ p
  pub most : p ≼ nat (25 * 10 ^ 9)
