-- B, C and the pressure of their polynomial on exact fractions of the exact inputs (document 02, i). There is no series here, and so no level;
-- nothing is rounded, and no count of bits occurs. Assumes nothing.
use Rattle.std.specs.Prelude.{ℕ, zero, suc, cond, List}
use Rattle.exact.specs.Fraction.{Fraction, nat, ◌⊕◌, ◌⊖◌, ◌⊗◌, ◌⊘◌}
use Rattle.exact.specs.Series.{power}
use Rattle.term.specs.declared.Term.{Term}
use Rattle.term.specs.Packed.{term_at, count_terms}
use Rattle.equation.specs.Constants.{critical_density, gas_constant, exact_coefficient}
use Rattle.equation.specs.Itself.{tau_at}
use Rattle.virial.specs.declared.Pick.{Pick}
use Rattle.virial.specs.declared.Pick.TheVariants.{First, Second, FirstDamped}
use Rattle.virial.specs.Sums.{picks}

-- over the first n of some terms, from zero, left to right
unfoldable pub sum_first_at : Pick → (ℕ → Term) → Fraction → ℕ → Fraction
sum_first_at pick terms tau zero = nat 0
sum_first_at pick terms tau (suc n) =
    let s = sum_first_at pick terms tau n in
    cond (picks pick (terms n)) (s ⊕ exact_coefficient (terms n) ⊗ power tau (terms n).t) s

-- over a table of nine-byte terms
abbrev pub sum_over_at : Pick → List ℕ → Fraction → Fraction
sum_over_at pick table T = sum_first_at pick (term_at 38 table) (tau_at T) (count_terms 38 table)

-- B
unfoldable pub second_at : List ℕ → Fraction → Fraction
second_at table T = sum_over_at First table T ⊘ nat critical_density

-- C
unfoldable pub third_at : List ℕ → Fraction → Fraction
third_at table T = (nat 2 ⊗ (sum_over_at Second table T ⊖ sum_over_at FirstDamped table T)) ⊘ (nat critical_density ⊗ nat critical_density)

-- the pressure of the polynomial, not of the full equation
unfoldable pub virial_pressure_at : List ℕ → (T rho : Fraction) → Fraction
virial_pressure_at table T rho = rho ⊗ gas_constant ⊗ T ⊗ (nat 1 ⊕ second_at table T ⊗ rho ⊕ third_at table T ⊗ rho ⊗ rho)
