-- The rule of the logarithm's series step by step, as the code counts, and what the code's operations are given. Assumes nothing.
use mathlib.Core.Path.{◌≡◌, refl, sym, ap, ap₂, ◌∙◌, subst}
use Prim.Native.Nat.{ℕ, suc, ◌+◌, ◌*◌, ◌≤◌}
use native.Mathlib.Numerals.{add-one}
use native.Mathlib.Omega.{arith}
use lib.Dec.{lit≤}
use Rattle.exact.specs.Fraction.{nat}
use Rattle.sheet.specs.Range.{Width}
use Rattle.sheet.proofs.Live.{few-digits}
use Rattle.bracket.specs.declared.Bracket.{Bracket}
use Rattle.bracket.specs.Span.{whole}
use Rattle.bracket.specs.Held.{Held}
use Rattle.bracket.specs.Rules.{ends, given, plus, times, divided, addlast}
use Rattle.bracket.proofs.Operands.{times-whole}
use Rattle.series.specs.Logarithm.{ln_power, ln_quotient, ln_sum, ln_total, ln_series}
use Rattle.series.specs.Powers.{Argument, Powers, powers_to}
use Rattle.series.proofs.ExponentialSteps.{held-as}
use Rattle.series.proofs.LogarithmHeld as held

-- ---- the rule
pub ln_power-first : (w : ℕ) (Z : Bracket) → ln_power w Z 0 ≡ Z
unfolding ln_power
ln_power-first w Z = refl

pub ln_power-next : (w : ℕ) (Z : Bracket) (j : ℕ) → ln_power w Z (j + 1) ≡ times w (ends (ln_power w Z j)) (ends (times w (ends Z) (ends Z)))
unfolding ln_power
ln_power-next w Z j = rw add-one

pub ln_quotient-is : (w : ℕ) (Z : Bracket) (j : ℕ) → ln_quotient w Z j ≡ divided w (ends (ln_power w Z j)) (whole (2 * j + 1))
unfolding ln_quotient
ln_quotient-is w Z j = refl

pub ln_sum-first : (w : ℕ) (Z : Bracket) → ln_sum w Z 0 ≡ divided w (ends Z) (whole 1)
unfolding ln_sum ln_quotient ln_power
ln_sum-first w Z = refl

pub ln_sum-next : (w : ℕ) (Z : Bracket) (j : ℕ) → ln_sum w Z (j + 1) ≡ plus w (ends (ln_sum w Z j)) (ends (ln_quotient w Z (j + 1)))
unfolding ln_sum
ln_sum-next w Z j = rw add-one

-- ---- one step: p, q and r are what the code's calls give
module _ (w : ℕ) (Z : Bracket) (j : ℕ) {s : Powers} (e : s ≡ powers_to w Z j) where
  pub power-next : {square p : Bracket} → square ≡ times w (ends Z) (ends Z) → p ≡ times w (ends s.power) (ends square) → p ≡ ln_power w Z (j + 1)
  power-next a d =
      d ∙ ap₂ (λ (b c : Bracket). times w (ends b) (ends c)) (ap (λ (s : Powers). s.power) e) a ∙ sym (ln_power-next w Z j)

  pub quotient-next : {p q : Bracket} → p ≡ ln_power w Z (j + 1) → q ≡ divided w (ends p) (whole (2 * (j + 1) + 1)) → q ≡ ln_quotient w Z (j + 1)
  quotient-next a d = d ∙ ap (λ (b : Bracket). divided w (ends b) (whole (2 * (j + 1) + 1))) a ∙ sym (ln_quotient-is w Z (j + 1))

  pub sum_next : {q r : Bracket} → q ≡ ln_quotient w Z (j + 1) → r ≡ plus w (ends s.sum) (ends q) → r ≡ ln_sum w Z (j + 1)
  sum_next a d =
      d ∙ ap₂ (λ (b c : Bracket). plus w (ends b) (ends c)) (ap (λ (s : Powers). s.sum) e) a ∙ sym (ln_sum-next w Z j)

-- ---- what the calls require
module _ {v : ℕ} {Z : Bracket} (a : Argument v Z) where
  w : Width v
  w = a.held.lo.width

  few : v + 3 ≤ 55
  few = omega (arith, w.high)

  pub square-held : {p : Bracket} → p ≡ times (suc v) (ends Z) (ends Z) → Held v p
  square-held e = held-as e (held.square-held w (v + 3) few Z a.held a.sized)

  pub power_held : {p : Bracket} (j : ℕ) → j ≤ 20 → p ≡ ln_power (suc v) Z j → Held v p
  power_held j h e = held-as e (held.power_held w (v + 3) few Z a.held a.sized j h)

  pub quotient-held : {p : Bracket} (j : ℕ) → j ≤ 20 → p ≡ ln_quotient (suc v) Z j → Held v p
  quotient-held j h e = held-as e (held.quotient-held w (v + 3) few Z a.held a.sized j h)

  pub sum_held : {p : Bracket} (j : ℕ) → j ≤ 20 → p ≡ ln_sum (suc v) Z j → Held v p
  sum_held j h e = held-as e (held.sum_held w (v + 3) few Z a.held a.sized j h)

  pub total-held : {p : Bracket} → p ≡ ln_total (suc v) Z → Held v p
  total-held e = held-as e (held.total-held w (v + 3) few Z a.held a.sized a.reach)

-- ---- the end of the loop
module _ (w : ℕ) (Z : Bracket) {j : ℕ} {s : Powers} (h : j ≤ 20) (l : 20 ≤ j) (e : s ≡ powers_to w Z j) where
  last : s ≡ powers_to w Z 20
  last = let n : j ≡ 20 = omega arith in subst (λ (j : ℕ). s ≡ powers_to w Z j) n e

  pub last-power : s.power ≡ ln_power w Z 20
  last-power = ap (λ (s : Powers). s.power) last

  pub last_sum : s.sum ≡ ln_sum w Z 20
  last_sum = ap (λ (s : Powers). s.sum) last

  pub last-quotient : {q : Bracket} → q ≡ divided w (ends s.power) (whole 41) → q ≡ ln_quotient w Z 20
  last-quotient d = d ∙ ap (λ (b : Bracket). divided w (ends b) (whole 41)) last-power ∙ sym (ln_quotient-is w Z 20)

  pub total-is : {q total : Bracket} → q ≡ divided w (ends s.power) (whole 41) → total ≡ addlast w s.sum q → total ≡ ln_total w Z
  unfolding ln_total
  total-is d i = i ∙ ap₂ (addlast w) last_sum (last-quotient d)

pub answer_is : {v : ℕ} → Width v → (Z : Bracket) {total two r : Bracket} → total ≡ ln_total (suc v) Z → two ≡ given (suc v) (nat 2) → r ≡ times (suc v) (ends two) (ends total) → r ≡ ln_series (suc v) Z
unfolding ln_series
answer_is {v} w Z {total} {two} a d i =
    i ∙ ap (λ (b : Bracket). times (suc v) (ends two) (ends b)) a ∙ times-whole v 2 (few-digits w (lit≤ tt)) d (ends (ln_total (suc v) Z))
