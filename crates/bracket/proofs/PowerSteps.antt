-- The steps of the power rule, as the code takes them. Assumes nothing.
use mathlib.Core.Path.{◌≡◌, refl, ap}
use Prim.Native.Nat.{ℕ, zero, suc, ◌-◌, ◌<◌}
use native.Mathlib.Numerals.{sub-one}
use native.Mathlib.Omega.{arith}
use Rattle.exact.specs.Fraction.{nat}
use Rattle.bracket.specs.declared.Bracket.{Bracket}
use Rattle.bracket.specs.Rules.{ends, given, times, power}

pub power_zero : (w : ℕ) (b : Bracket) → power w b 0 ≡ given w (nat 1)
unfolding power
power_zero w b = refl

pub power-suc : (w : ℕ) (b : Bracket) (n : ℕ) → power w b (suc n) ≡ times w (ends (power w b n)) (ends b)
unfolding power
power-suc w b n = refl

pub power-step : (w : ℕ) (b : Bracket) (n : ℕ) → 0 < n → times w (ends (power w b (n - 1))) (ends b) ≡ power w b n
unfolding power
power-step w b zero h = absurd (omega arith)
power-step w b (suc n) h = ap (λ (k : ℕ). times w (ends (power w b k)) (ends b)) (sub-one (suc n))
