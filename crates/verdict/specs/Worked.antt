-- A phase of the equation by the step rules: its sums, its pressure and its stiffness. Assumes nothing.
use Rattle.std.specs.Prelude.{ℕ, List}
use Rattle.exact.specs.Fraction.{Fraction}
use Rattle.equation.specs.Rules.{sums, pressure, stiffness}
use Rattle.verdict.specs.declared.phases.Phase.{Phase}

unfoldable pub phase_of : (w kind : ℕ) → List ℕ → (T rho : Fraction) → Phase
phase_of w kind table T rho = record { sums = sums w kind table T rho; pressure = pressure w kind table T rho; stiffness = stiffness w kind table T rho }
