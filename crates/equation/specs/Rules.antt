-- The rules of document 01, "The equation, step by step", with the factor and the clip of document 02, h, over the count of bits w: each line
-- in 01's bracketing and order. T, rho, liquid, vapour and target are the exact values of the inputs. Assumes nothing.
use Rattle.std.specs.Prelude.{ℕ, zero, suc, ◌*◌, cond, List}
use Rattle.exact.specs.Fraction.{Fraction, nat, leq, least}
use Rattle.sheet.specs.Number.{value, plain_zero}
use Rattle.term.specs.declared.Term.{Term}
use Rattle.term.specs.Packed.{term_at, count_terms}
use Rattle.bracket.specs.Span.{whole, point}
use Rattle.bracket.specs.declared.Bracket.{Bracket}
use Rattle.bracket.specs.Rules.{ends, given, plus, minus, times, divided, power}
use Rattle.series.specs.Exponential.{expneg}
use Rattle.series.specs.Logarithm.{ln_ratio}
use Rattle.equation.specs.declared.Sums.{Sums}
use Rattle.equation.specs.Constants.{critical_temperature, critical_density, gas_constant, hundredths, exact_coefficient}

unfoldable pub delta : ℕ → Fraction → Bracket
delta w rho = divided w (ends (given w rho)) (whole critical_density)

unfoldable pub tau : ℕ → Fraction → Bracket
tau w T = divided w (ends (given w critical_temperature)) (ends (given w T))

unfoldable pub coefficient : ℕ → Term → Bracket
coefficient w term = given w (exact_coefficient term)

-- g, the factor times delta to the power c; for c = 0 no factor enters
unfoldable pub scaled : ℕ → (c factor : ℕ) → Bracket → Bracket
scaled w zero factor b = b
scaled w (suc c) factor b = times w (ends (given w (hundredths factor))) (ends b)

abbrev pub g_of : ℕ → (c factor : ℕ) → Bracket → Bracket
g_of w c factor δ = scaled w c factor (power w δ c)

-- E where g's upper end is above 128: from 0 to the rule's upper end at the smaller of 128 and g's lower end
unfoldable pub clipped : ℕ → Bracket → Bracket
clipped w g = record { lo = plain_zero; hi = (expneg w (point (least (nat 128) (value g.lo)))).hi }

-- E of a term by its c and its g: for c = 0 there is no exponential, and g does not enter
unfoldable pub factor_e : ℕ → ℕ → Bracket → Bracket
factor_e w zero g = given w (nat 1)
factor_e w (suc c) g = cond (leq (value g.hi) (nat 128)) (expneg w (ends g)) (clipped w g)

-- V
unfoldable pub term_v : ℕ → Term → (δ τ e : Bracket) → Bracket
term_v w term δ τ e =
    times w (ends (times w (ends (times w (ends (coefficient w term)) (ends (power w δ term.d)))) (ends (power w τ term.t))))
    (ends e)

-- w of a term by its d and c
unfoldable pub term_w : ℕ → ℕ → ℕ → Bracket → Bracket
term_w w d zero g = given w (nat d)
term_w w d (suc c) g = minus w (whole d) (ends (times w (whole (suc c)) (ends g)))

-- w times (w less 1)
unfoldable pub factor_w : ℕ → Bracket → Bracket
factor_w w tw = times w (ends tw) (ends (minus w (ends tw) (whole 1)))

-- what V is multiplied by in S2: the last part is absent for c = 0
unfoldable pub factor_s2 : ℕ → ℕ → (g tw : Bracket) → Bracket
factor_s2 w zero g tw = factor_w w tw
factor_s2 w (suc c) g tw = minus w (ends (factor_w w tw)) (ends (times w (whole (suc c * suc c)) (ends g)))

-- one term's addends of S0, S1 and S2, by its c, its g, its V and its w
unfoldable pub addends_of : ℕ → ℕ → (g tv tw : Bracket) → Sums
addends_of w c g tv tw = record { s0 = tv; s1 = times w (ends tv) (ends tw); s2 = times w (ends tv) (ends (factor_s2 w c g tw)) }

-- the same with the term's own g
unfoldable pub addends : ℕ → Term → (δ τ : Bracket) → Sums
addends w term δ τ =
    let g = g_of w term.c term.factor δ in
    addends_of w term.c g (term_v w term δ τ (factor_e w term.c g)) (term_w w term.d term.c g)

unfoldable pub plus_each : ℕ → Sums → Sums → Sums
plus_each w s a =
    record { s0 = plus w (ends s.s0) (ends a.s0); s1 = plus w (ends s.s1) (ends a.s1); s2 = plus w (ends s.s2) (ends a.s2) }

unfoldable pub no_sums : ℕ → Sums
no_sums w = record { s0 = given w (nat 0); s1 = given w (nat 0); s2 = given w (nat 0) }

-- the sums over the first n of some terms, from zero, left to right
unfoldable pub sums_first : ℕ → (ℕ → Term) → (δ τ : Bracket) → ℕ → Sums
sums_first w terms δ τ zero = no_sums w
sums_first w terms δ τ (suc n) = plus_each w (sums_first w terms δ τ n) (addends w (terms n) δ τ)

-- the sums over a table of a kind
unfoldable pub sums : (w kind : ℕ) → List ℕ → (T rho : Fraction) → Sums
sums w kind table T rho = sums_first w (term_at kind table) (delta w rho) (tau w T) (count_terms kind table)

-- R times T
unfoldable pub gas_heat : ℕ → Fraction → Bracket
gas_heat w T = times w (ends (given w gas_constant)) (ends (given w T))

-- (rho times R) times T
unfoldable pub density_heat : ℕ → (T rho : Fraction) → Bracket
density_heat w T rho = times w (ends (times w (ends (given w rho)) (ends (given w gas_constant)))) (ends (given w T))

-- 1 + S1, and (1 + (2 times S1)) + S2
unfoldable pub pressure_factor : ℕ → Sums → Bracket
pressure_factor w s = plus w (whole 1) (ends s.s1)

unfoldable pub stiffness_factor : ℕ → Sums → Bracket
stiffness_factor w s = plus w (ends (plus w (whole 1) (ends (times w (whole 2) (ends s.s1))))) (ends s.s2)

-- (S0 + S1) of the liquid less (S0 + S1) of the vapour
unfoldable pub sums_apart : ℕ → (l g : Sums) → Bracket
sums_apart w l g = minus w (ends (plus w (ends l.s0) (ends l.s1))) (ends (plus w (ends g.s0) (ends g.s1)))

-- pressure, stiffness and Gibbs gap by the sums that they need
unfoldable pub pressure_of : ℕ → (T rho : Fraction) → Sums → Bracket
pressure_of w T rho s = times w (ends (density_heat w T rho)) (ends (pressure_factor w s))

unfoldable pub stiffness_of : ℕ → Fraction → Sums → Bracket
stiffness_of w T s = times w (ends (gas_heat w T)) (ends (stiffness_factor w s))

unfoldable pub gibbs_gap_of : ℕ → (T liquid vapour : Fraction) → (l g : Sums) → Bracket
gibbs_gap_of w T liquid vapour l g = times w (ends (gas_heat w T)) (ends (plus w (ends (ln_ratio w liquid vapour)) (ends (sums_apart w l g))))

unfoldable pub pressure : (w kind : ℕ) → List ℕ → (T rho : Fraction) → Bracket
pressure w kind table T rho = pressure_of w T rho (sums w kind table T rho)

unfoldable pub stiffness : (w kind : ℕ) → List ℕ → (T rho : Fraction) → Bracket
stiffness w kind table T rho = stiffness_of w T (sums w kind table T rho)

-- Gibbs energy of the liquid less that of the vapour
unfoldable pub gibbs_gap : (w kind : ℕ) → List ℕ → (T liquid vapour : Fraction) → Bracket
gibbs_gap w kind table T liquid vapour = gibbs_gap_of w T liquid vapour (sums w kind table T liquid) (sums w kind table T vapour)

-- the gaps of "Verdicts": pressure less target, and pressure of the liquid less that of the vapour
unfoldable pub target_gap : (w kind : ℕ) → List ℕ → (T rho target : Fraction) → Bracket
target_gap w kind table T rho target = minus w (ends (pressure w kind table T rho)) (ends (given w target))

unfoldable pub pressure_gap : (w kind : ℕ) → List ℕ → (T liquid vapour : Fraction) → Bracket
pressure_gap w kind table T liquid vapour = minus w (ends (pressure w kind table T liquid)) (ends (pressure w kind table T vapour))
