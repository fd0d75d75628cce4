-- Document 01's equation as it stood before document 02, h: no factor and no clip, for a table of nine-byte terms. The law `plain-sums` says
-- that kind 38 is this rule, bracket for bracket, and `plain-sums_at` that it is this equation. Assumes nothing.
use Rattle.std.specs.Prelude.{ℕ, zero, suc, List}
use Rattle.exact.specs.Fraction.{Fraction, nat, ◌⊕◌, ◌⊗◌}
use Rattle.exact.specs.Series.{power as power_at, expneg_at}
use Rattle.term.specs.declared.Term.{Term}
use Rattle.term.specs.Packed.{term_at, count_terms}
use Rattle.bracket.specs.declared.Bracket.{Bracket}
use Rattle.bracket.specs.Rules.{ends, given, power}
use Rattle.series.specs.Exponential.{expneg}
use Rattle.equation.specs.declared.Sums.{Sums}
use Rattle.equation.specs.Rules.{delta, tau, term_v, term_w, addends_of, plus_each, no_sums}
use Rattle.equation.specs.Itself.{delta_at, tau_at, term_v_at, term_w_at, factor_s2_at, SumsAt}

-- ---- the step rules

-- E of a term by its c, where g is delta to the power c
unfoldable pub plain_e : ℕ → ℕ → Bracket → Bracket
plain_e w zero g = given w (nat 1)
plain_e w (suc c) g = expneg w (ends g)

unfoldable pub plain_addends : ℕ → Term → (δ τ : Bracket) → Sums
plain_addends w term δ τ =
    let g = power w δ term.c in
    addends_of w term.c g (term_v w term δ τ (plain_e w term.c g)) (term_w w term.d term.c g)

unfoldable pub plain_first : ℕ → List ℕ → (δ τ : Bracket) → ℕ → Sums
plain_first w table δ τ zero = no_sums w
plain_first w table δ τ (suc n) = plus_each w (plain_first w table δ τ n) (plain_addends w (term_at 38 table n) δ τ)

unfoldable pub plain_sums : ℕ → List ℕ → (T rho : Fraction) → Sums
plain_sums w table T rho = plain_first w table (delta w rho) (tau w T) (count_terms 38 table)

-- ---- the equation itself

unfoldable pub plain_e_at : ℕ → ℕ → Fraction → Fraction
plain_e_at N zero g = nat 1
plain_e_at N (suc c) g = expneg_at N g

unfoldable pub plain_addends_at : ℕ → Term → (delta tau : Fraction) → SumsAt
plain_addends_at N term delta tau =
    let g = power_at delta term.c in
    let v = term_v_at term delta tau (plain_e_at N term.c g) in
    let w = term_w_at term.d term.c g in
    record { s0 = v; s1 = v ⊗ w; s2 = v ⊗ factor_s2_at term.c g w }

unfoldable pub plain_first_at : ℕ → List ℕ → (delta tau : Fraction) → ℕ → SumsAt
plain_first_at N table delta tau zero = record { s0 = nat 0; s1 = nat 0; s2 = nat 0 }
plain_first_at N table delta tau (suc n) =
    let s = plain_first_at N table delta tau n in
    let a = plain_addends_at N (term_at 38 table n) delta tau in
    record { s0 = s.s0 ⊕ a.s0; s1 = s.s1 ⊕ a.s1; s2 = s.s2 ⊕ a.s2 }

unfoldable pub plain_sums_at : ℕ → List ℕ → (T rho : Fraction) → SumsAt
plain_sums_at N table T rho = plain_first_at N table (delta_at rho) (tau_at T) (count_terms 38 table)
