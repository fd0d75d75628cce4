-- The rules as the code follows them: by whether c is 0, the sums from one term to the next, and
-- the readings of a table by its sums. E's cases stand in Clip. Assumes nothing.
use mathlib.Core.Path.{◌≡◌, refl, ap, ap₂, ◌∙◌}
use mathlib.Core.List.{List}
use Prim.Native.Nat.{ℕ, zero, suc, ◌+◌, ◌*◌, ◌<◌}
use native.Mathlib.Numerals.{add-one}
use native.Mathlib.Omega.{arith}
use Rattle.exact.specs.Fraction.{Fraction, nat}
use Rattle.term.specs.declared.Term.{Term}
use Rattle.term.specs.Packed.{term_at, count_terms}
use Rattle.bracket.specs.declared.Bracket.{Bracket}
use Rattle.bracket.specs.Span.{whole}
use Rattle.bracket.specs.Rules.{ends, given, minus, times}
use Rattle.equation.specs.declared.Sums.{Sums}
use Rattle.equation.specs.Rules.{delta, tau, term_w, factor_w, factor_s2, addends, plus_each, no_sums, sums_first, sums, pressure_of, stiffness_of, gibbs_gap_of, pressure, stiffness, gibbs_gap, target_gap, pressure_gap}

module _ (w c : ℕ) (g : Bracket) where
  pub term_w-none : (d : ℕ) → c ≡ 0 → given w (nat d) ≡ term_w w d c g
  unfolding term_w
  term_w-none d e = rw e

  pub factor_s2-none : (tw : Bracket) → c ≡ 0 → factor_w w tw ≡ factor_s2 w c g tw
  unfolding factor_s2
  factor_s2-none tw e = rw e

pub term_w-some : (w d c : ℕ) (g : Bracket) → 0 < c → minus w (whole d) (ends (times w (whole c) (ends g))) ≡ term_w w d c g
unfolding term_w
term_w-some w d zero g p = absurd (omega arith)
term_w-some w d (suc c) g p = refl

pub factor_s2-some : (w c : ℕ) (g tw : Bracket) → 0 < c → minus w (ends (factor_w w tw)) (ends (times w (whole (c * c)) (ends g))) ≡ factor_s2 w c g tw
unfolding factor_s2
factor_s2-some w zero g tw p = absurd (omega arith)
factor_s2-some w (suc c) g tw p = refl

pub sums_first-none : (w : ℕ) (terms : ℕ → Term) (a b : Bracket) → no_sums w ≡ sums_first w terms a b 0
unfolding sums_first
sums_first-none w terms a b = refl

pub sums_first-more : (w : ℕ) (terms : ℕ → Term) (a b : Bracket) (n : ℕ)
    → plus_each w (sums_first w terms a b n) (addends w (terms n) a b) ≡ sums_first w terms a b (n + 1)
unfolding sums_first
sums_first-more w terms a b n = rw add-one

pub sums-is : (w kind : ℕ) (table : List ℕ) (T rho : Fraction) → sums_first w (term_at kind table) (delta w rho) (tau w T) (count_terms kind table) ≡ sums w kind table T rho
unfolding sums
sums-is w kind table T rho = refl

-- ---- the readings of a table by its sums

module _ (w kind : ℕ) (table : List ℕ) (T : Fraction) where
  pub pressure-is : (rho : Fraction) {s : Sums} {r : Bracket} → s ≡ sums w kind table T rho → r ≡ pressure_of w T rho s → r ≡ pressure w kind table T rho
  unfolding pressure
  pressure-is rho p e = e ∙ ap (pressure_of w T rho) p

  pub stiffness-is : (rho : Fraction) {s : Sums} {r : Bracket} → s ≡ sums w kind table T rho → r ≡ stiffness_of w T s → r ≡ stiffness w kind table T rho
  unfolding stiffness
  stiffness-is rho p e = e ∙ ap (stiffness_of w T) p

  pub gibbs_gap-is : (liquid vapour : Fraction) {x y : Sums} {r : Bracket} → x ≡ sums w kind table T liquid → y ≡ sums w kind table T vapour
      → r ≡ gibbs_gap_of w T liquid vapour x y → r ≡ gibbs_gap w kind table T liquid vapour
  unfolding gibbs_gap
  gibbs_gap-is liquid vapour p q e = e ∙ ap₂ (gibbs_gap_of w T liquid vapour) p q

  pub pressure_gap-is : (liquid vapour : Fraction) {p q r : Bracket} → p ≡ pressure w kind table T liquid → q ≡ pressure w kind table T vapour
      → r ≡ minus w (ends p) (ends q) → r ≡ pressure_gap w kind table T liquid vapour
  unfolding pressure_gap
  pressure_gap-is liquid vapour i j e = e ∙ ap₂ (λ (x y : Bracket). minus w (ends x) (ends y)) i j

  pub target_gap-is : (rho target : Fraction) {p r : Bracket} → p ≡ pressure w kind table T rho → r ≡ minus w (ends p) (ends (given w target))
      → r ≡ target_gap w kind table T rho target
  unfolding target_gap
  target_gap-is rho target i e = e ∙ ap (λ (x : Bracket). minus w (ends x) (ends (given w target))) i
