-- The rules of document 02, i, over the count of bits w: B and C by their sums, and the pressure of their polynomial, each line in 02's
-- bracketing and order. T and rho are the exact values of the inputs. Assumes nothing.
use Rattle.std.specs.Prelude.{ℕ, List}
use Rattle.exact.specs.Fraction.{Fraction}
use Rattle.bracket.specs.Span.{whole}
use Rattle.bracket.specs.declared.Bracket.{Bracket}
use Rattle.bracket.specs.Rules.{ends, given, plus, minus, times, divided}
use Rattle.equation.specs.Constants.{critical_density}
use Rattle.equation.specs.Rules.{density_heat}
use Rattle.virial.specs.declared.Coefficients.{Coefficients}
use Rattle.virial.specs.declared.Pick.TheVariants.{First, Second, FirstDamped}
use Rattle.virial.specs.Sums.{sum_over}

-- B by the sum over d = 1: that, divided by 322
unfoldable pub second_of : ℕ → Bracket → Bracket
second_of w first = divided w (ends first) (whole critical_density)

-- 322 times 322
abbrev pub critical_square : ℕ → Bracket
critical_square w = times w (whole critical_density) (whole critical_density)

-- C by the sums over d = 2, and over d = 1 and c = 1: 2 times the first less the second, divided by 322 times 322
unfoldable pub third_of : ℕ → (second damped : Bracket) → Bracket
third_of w second damped = divided w (ends (times w (whole 2) (ends (minus w (ends second) (ends damped))))) (ends (critical_square w))

-- B and C of a table
unfoldable pub coefficients : ℕ → List ℕ → Fraction → Coefficients
coefficients w table T =
    record {
      second = second_of w (sum_over w First table T);
      third = third_of w (sum_over w Second table T) (sum_over w FirstDamped table T);
    }

-- (1 + (B times rho)) + ((C times rho) times rho)
unfoldable pub polynomial : ℕ → Fraction → Coefficients → Bracket
polynomial w rho x =
    plus w (ends (plus w (whole 1) (ends (times w (ends x.second) (ends (given w rho))))))
    (ends (times w (ends (times w (ends x.third) (ends (given w rho)))) (ends (given w rho))))

-- ((rho times R) times T) times the polynomial
unfoldable pub pressure_of : ℕ → (T rho : Fraction) → Coefficients → Bracket
pressure_of w T rho x = times w (ends (density_heat w T rho)) (ends (polynomial w rho x))
