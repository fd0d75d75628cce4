-- What B and C are the limits of, by the full equation, and how fast these are reached as the density falls. Assumes nothing.
use Rattle.std.specs.Prelude.{ℕ, zero, suc, ◌^◌, false, List}
use Rattle.exact.specs.Fraction.{Fraction, nat, parts, ◌⊕◌, ◌⊖◌, ◌⊗◌, ◌⊘◌}
use Rattle.exact.specs.Series.{power}
use Rattle.term.specs.declared.Term.{Term}
use Rattle.term.specs.Packed.{term_at, count_terms}
use Rattle.equation.specs.Constants.{critical_density, gas_constant}
use Rattle.equation.specs.Itself.{tau_at, pressure_at}

-- (p / (rho R T) - 1) / rho at level N
unfoldable pub excess_at : ℕ → List ℕ → (T rho : Fraction) → Fraction
excess_at N table T rho = (pressure_at N 38 table T rho ⊘ (rho ⊗ gas_constant ⊗ T) ⊖ nat 1) ⊘ rho

-- the sum of the coefficients' sizes times tau^t over the first n of some terms
unfoldable pub weight_first : (ℕ → Term) → Fraction → ℕ → Fraction
weight_first terms tau zero = nat 0
weight_first terms tau (suc n) = weight_first terms tau n ⊕ parts false (terms n).magnitude (10 ^ 16) ⊗ power tau (terms n).t

-- 18 times that sum over a table, by 322 three times; no term of nine bytes has d + c above 18
unfoldable pub third_rate : List ℕ → Fraction → Fraction
third_rate table T =
    nat 18 ⊗ weight_first (term_at 38 table) (tau_at T) (count_terms 38 table) ⊘ nat critical_density ⊘ nat critical_density ⊘ nat critical_density
