-- The brackets of the rules cover B, C and the pressure of their polynomial, at every count of bits. Assumes nothing.
use Prim.Native.Nat.{ℕ, zero, suc}
use native.Mathlib.Omega.{arith}
use mathlib.Core.Bool.{Bool, true, false, cond}
use mathlib.Core.List.{List}
use Rattle.exact.specs.Fraction.{Fraction, nat, ◌⊕◌, ◌⊗◌}
use Rattle.exact.proofs.Fraction.Parts.{nat-pos}
use Rattle.exact.specs.Series.{power as power_at}
use Rattle.term.specs.declared.Term.{Term}
use Rattle.term.specs.Packed.{term_at, count_terms}
use Rattle.bracket.specs.Span.{◌∈◌}
use Rattle.bracket.specs.declared.Bracket.{Bracket}
use Rattle.bracket.specs.Rules.{ends, plus}
use Rattle.bracket.proofs.Within.{in_point}
use Rattle.bracket.proofs.Inclusion.{given_in, plus-in, minus-in, times-in, divided-in, power_in}
use Rattle.equation.specs.Constants.{gas_constant, exact_coefficient}
use Rattle.equation.specs.Accepted.{Temperature}
use Rattle.equation.specs.Rules.{coefficient, density_heat}
use Rattle.equation.proofs.Covers.{tau-in}
use Rattle.virial.specs.declared.Pick.{Pick}
use Rattle.virial.specs.declared.Pick.TheVariants.{First, Second, FirstDamped}
use Rattle.virial.specs.Sums.{picks, addend, with_term, sum_first, sum_over}
use Rattle.virial.specs.Rules.{second_of, third_of, coefficients, polynomial, pressure_of}
use Rattle.virial.specs.Itself.{sum_first_at, sum_over_at, second_at, third_at, virial_pressure_at}
use Rattle.virial.proofs.Ranges.{square_above}

module _ (v : ℕ) where
  addend-in : (term : Term) {τ : Fraction} (b : Bracket) → τ ∈ ends b → exact_coefficient term ⊗ power_at τ term.t ∈ ends (addend (suc v) term b)
  unfolding addend coefficient
  addend-in term b h = times-in v (given_in v (exact_coefficient term)) (power_in v b h term.t)

  sum_first-in : (pick : Pick) (terms : ℕ → Term) {τ : Fraction} (b : Bracket) → τ ∈ ends b → (n : ℕ)
      → sum_first_at pick terms τ n ∈ ends (sum_first (suc v) pick terms b n)
  unfolding sum_first sum_first_at with_term
  sum_first-in pick terms b h zero = given_in v (nat 0)
  sum_first-in pick terms {τ} b h (suc n) = go (picks pick (terms n)) (sum_first-in pick terms b h n)
    where
      go : (p : Bool) → sum_first_at pick terms τ n ∈ ends (sum_first (suc v) pick terms b n)
          → cond p (sum_first_at pick terms τ n ⊕ exact_coefficient (terms n) ⊗ power_at τ (terms n).t) (sum_first_at pick terms τ n)
          ∈ ends (cond p (plus (suc v) (ends (sum_first (suc v) pick terms b n)) (ends (addend (suc v) (terms n) b))) (sum_first (suc v) pick terms b n))
      go true s = plus-in v s (addend-in (terms n) b h)
      go false s = s

  module _ (table : List ℕ) {T : Fraction} (t : Temperature T) where
    sum_over-in : (pick : Pick) → sum_over_at pick table T ∈ ends (sum_over (suc v) pick table T)
    sum_over-in pick = sum_first-in pick (term_at 38 table) _ (tau-in v t) (count_terms 38 table)

    pub covers_second : second_at table T ∈ ends (coefficients (suc v) table T).second
    unfolding coefficients second_of second_at
    covers_second = divided-in v (nat-pos (omega arith)) (sum_over-in First) (in_point (nat 322))

    pub covers_third : third_at table T ∈ ends (coefficients (suc v) table T).third
    unfolding coefficients third_of third_at
    covers_third =
        divided-in v (square_above v) (times-in v (in_point (nat 2)) (minus-in v (sum_over-in Second) (sum_over-in FirstDamped)))
        (times-in v (in_point (nat 322)) (in_point (nat 322)))

    pub covers_pressure : (rho : Fraction) → virial_pressure_at table T rho ∈ ends (pressure_of (suc v) T rho (coefficients (suc v) table T))
    unfolding pressure_of polynomial virial_pressure_at density_heat
    covers_pressure rho =
        times-in v
        (times-in v (times-in v (given_in v rho) (given_in v gas_constant)) (given_in v T))
        (plus-in v (plus-in v (in_point (nat 1)) (times-in v covers_second (given_in v rho)))
        (times-in v (times-in v covers_third (given_in v rho)) (given_in v rho)))
