-- A table and the longer one that it is lengthened to give the same sums, and so the same brackets of pressure, stiffness and Gibbs gap, bit
-- for bit, and the same readings of the equation itself. Assumes nothing.
use Prim.Native.Nat.{ℕ}
use mathlib.Core.Path.{◌≡◌}
use mathlib.Core.Bool.{true}
use mathlib.Core.List.{List}
use Rattle.exact.specs.Fraction.{Fraction}
use Rattle.term.specs.Sound.{sound_table}
use Rattle.convert.specs.Converts.{lengthened}
use Rattle.convert.proofs.Tables.{lengthened-at, lengthened-count}
use Rattle.equation.specs.Rules.{sums, pressure, stiffness, gibbs_gap}
use Rattle.equation.specs.Itself.{sums_at}
use Rattle.equation.proofs.Cases.{pressure-is, stiffness-is, gibbs_gap-is}
use Rattle.equation.proofs.Same.{same-sums, same-sums_at}
use mathlib.Core.Path.{refl}

module _ (table : List ℕ) (sound : sound_table 38 table ≡ true) (T : Fraction) where
  pub lengthened-sums : (w : ℕ) (rho : Fraction) → sums w 58 (lengthened table) T rho ≡ sums w 38 table T rho
  lengthened-sums w rho = same-sums w 58 38 (lengthened table) table T rho (lengthened-count table sound) (lengthened-at table sound)

  pub lengthened-sums_at : (N : ℕ) (rho : Fraction) → sums_at N 58 (lengthened table) T rho ≡ sums_at N 38 table T rho
  lengthened-sums_at N rho = same-sums_at N 58 38 (lengthened table) table T rho (lengthened-count table sound) (lengthened-at table sound)

  pub lengthened-pressure : (w : ℕ) (rho : Fraction) → pressure w 58 (lengthened table) T rho ≡ pressure w 38 table T rho
  unfolding pressure
  lengthened-pressure w rho = pressure-is w 38 table T rho (lengthened-sums w rho) refl

  pub lengthened-stiffness : (w : ℕ) (rho : Fraction) → stiffness w 58 (lengthened table) T rho ≡ stiffness w 38 table T rho
  unfolding stiffness
  lengthened-stiffness w rho = stiffness-is w 38 table T rho (lengthened-sums w rho) refl

  pub lengthened-gibbs_gap : (w : ℕ) (liquid vapour : Fraction) → gibbs_gap w 58 (lengthened table) T liquid vapour ≡ gibbs_gap w 38 table T liquid vapour
  unfolding gibbs_gap
  lengthened-gibbs_gap w liquid vapour = gibbs_gap-is w 38 table T liquid vapour (lengthened-sums w liquid) (lengthened-sums w vapour) refl
