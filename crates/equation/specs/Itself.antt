-- The equation itself at a level N (document 01, "The equation itself"; document 02, h, for the factor): the formulas of "The equation, step
-- by step" on exact fractions of the exact inputs. Nothing here is rounded or clipped, and no count of bits occurs. Assumes nothing.
use Rattle.std.specs.Prelude.{ℕ, zero, suc, ◌*◌, List}
use Rattle.exact.specs.Fraction.{Fraction, nat, ◌⊕◌, ◌⊖◌, ◌⊗◌, ◌⊘◌}
use Rattle.exact.specs.Series.{power, expneg_at}
use Rattle.term.specs.declared.Term.{Term}
use Rattle.term.specs.Packed.{term_at, count_terms}
use Rattle.equation.specs.Constants.{critical_temperature, critical_density, gas_constant, hundredths, exact_coefficient}
use Rattle.series.specs.Level.{ln_ratio_at}

unfoldable pub delta_at : Fraction → Fraction
delta_at rho = rho ⊘ nat critical_density

unfoldable pub tau_at : Fraction → Fraction
tau_at T = critical_temperature ⊘ T

-- g, the factor times delta to the power c; for c = 0 no factor enters
unfoldable pub scaled_at : (c factor : ℕ) → Fraction → Fraction
scaled_at zero factor x = x
scaled_at (suc c) factor x = hundredths factor ⊗ x

abbrev pub g_at : (c factor : ℕ) → Fraction → Fraction
g_at c factor delta = scaled_at c factor (power delta c)

-- E of a term by its c and its g: for c = 0 there is no exponential
unfoldable pub factor_e_at : ℕ → ℕ → Fraction → Fraction
factor_e_at N zero g = nat 1
factor_e_at N (suc c) g = expneg_at N g

-- V
unfoldable pub term_v_at : Term → (delta tau e : Fraction) → Fraction
term_v_at term delta tau e = exact_coefficient term ⊗ power delta term.d ⊗ power tau term.t ⊗ e

-- w of a term by its d and c
unfoldable pub term_w_at : ℕ → ℕ → Fraction → Fraction
term_w_at d zero g = nat d
term_w_at d (suc c) g = nat d ⊖ nat (suc c) ⊗ g

-- what V is multiplied by in S2
unfoldable pub factor_s2_at : ℕ → (g w : Fraction) → Fraction
factor_s2_at zero g w = w ⊗ (w ⊖ nat 1)
factor_s2_at (suc c) g w = w ⊗ (w ⊖ nat 1) ⊖ nat (suc c * suc c) ⊗ g

-- the three sums, or one term's addend of each
pub record SumsAt : Type 0 where
  pub s0 : Fraction
  pub s1 : Fraction
  pub s2 : Fraction

unfoldable pub addends_at : ℕ → Term → (delta tau : Fraction) → SumsAt
addends_at N term delta tau =
    let g = g_at term.c term.factor delta in
    let v = term_v_at term delta tau (factor_e_at N term.c g) in
    let w = term_w_at term.d term.c g in
    record { s0 = v; s1 = v ⊗ w; s2 = v ⊗ factor_s2_at term.c g w }

-- the sums over the first n of some terms, from zero, left to right
unfoldable pub sums_first_at : ℕ → (ℕ → Term) → (delta tau : Fraction) → ℕ → SumsAt
sums_first_at N terms delta tau zero = record { s0 = nat 0; s1 = nat 0; s2 = nat 0 }
sums_first_at N terms delta tau (suc n) =
    let s = sums_first_at N terms delta tau n in
    let a = addends_at N (terms n) delta tau in
    record { s0 = s.s0 ⊕ a.s0; s1 = s.s1 ⊕ a.s1; s2 = s.s2 ⊕ a.s2 }

-- the sums over a table of a kind
unfoldable pub sums_at : (N kind : ℕ) → List ℕ → (T rho : Fraction) → SumsAt
sums_at N kind table T rho = sums_first_at N (term_at kind table) (delta_at rho) (tau_at T) (count_terms kind table)

unfoldable pub pressure_at : (N kind : ℕ) → List ℕ → (T rho : Fraction) → Fraction
pressure_at N kind table T rho = rho ⊗ gas_constant ⊗ T ⊗ (nat 1 ⊕ (sums_at N kind table T rho).s1)

-- pressure by density at fixed temperature
unfoldable pub stiffness_at : (N kind : ℕ) → List ℕ → (T rho : Fraction) → Fraction
stiffness_at N kind table T rho =
    let s = sums_at N kind table T rho in
    gas_constant ⊗ T ⊗ (nat 1 ⊕ nat 2 ⊗ s.s1 ⊕ s.s2)

-- Gibbs energy of the liquid less that of the vapour
unfoldable pub gibbs_gap_at : (N kind : ℕ) → List ℕ → (T liquid vapour : Fraction) → Fraction
gibbs_gap_at N kind table T liquid vapour =
    let l = sums_at N kind table T liquid in
    let g = sums_at N kind table T vapour in
    gas_constant ⊗ T ⊗ (ln_ratio_at N liquid vapour ⊕ ((l.s0 ⊕ l.s1) ⊖ (g.s0 ⊕ g.s1)))
