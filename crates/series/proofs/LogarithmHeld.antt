-- What the logarithm's code works on: for z at most 1 in size and zero or at least 2^-(v + 3), every power, quotient and sum is a bracket that the
-- operations take. Assumes nothing.
use mathlib.Core.Bool.{true}
use Prim.Native.Nat.{ℕ, zero, suc, ◌+◌, ◌-◌, ◌*◌, ◌≤◌}
use native.Mathlib.Nat.{mul-le-mul}
use native.Mathlib.Omega.{arith}
use Rattle.exact.specs.Fraction.{nat, ◌⊕◌, ◌⊗◌, ◌⊘◌, ◌≼◌}
use Rattle.sheet.specs.Number.{bias, value, Spelled}
use Rattle.sheet.proofs.Laws.{round_spelled}
use Rattle.sheet.specs.Range.{Width}
use Rattle.sheet.proofs.Live.{range_spelled}
use Rattle.bracket.specs.declared.Bracket.{Bracket}
use Rattle.bracket.specs.Span.{Ordered, Each, whole, over}
use Rattle.bracket.specs.Held.{Ends, Held}
use Rattle.bracket.specs.Rules.{ends, times, addlast}
use Rattle.bracket.proofs.Corners.{over-ordered}
use Rattle.measure.specs.Measure.{Sized}
use Rattle.measure.proofs.Lift.{each_map}
use Rattle.measure.proofs.Measure.{fine_sized}
use Rattle.measure.proofs.Sizes.{held_of, digits-sized}
use Rattle.series.specs.Logarithm.{ln_power, ln_quotient, ln_sum, ln_total, ln_series}
use Rattle.bracket.proofs.Kept.{rounded-spelled}
use Rattle.series.proofs.Short.{bias-room}
use Rattle.series.proofs.Fits.{each_held}
use Rattle.series.proofs.Sign.{sum_ordered, total-ordered}
use Rattle.series.proofs.LogarithmRange.{grain, square-sized, power-sized, quotient-digited, sum_fine, total-fine, series_digited}

pub held-spelled : {v : ℕ} (b : Bracket) → Held v b → Ends (Spelled v) b
held-spelled b h = record { lo = range_spelled h.lo; hi = range_spelled h.hi }

module _ {v : ℕ} (w : Width v) (c : ℕ) (small : c ≤ 55) (Z : Bracket) (h : Held v Z) (z : Each (Sized (bias - c) bias) (ends Z)) where
  room : 41 * c + 6 + v ≤ bias
  room = omega (arith, bias-room)

  ordered : Ordered (ends Z)
  ordered = record { order = h.order }

  pub square-held : Held v (times (suc v) (ends Z) (ends Z))
  square-held =
      held_of w (omega (arith, bias-room)) (omega arith) (omega (arith, bias-room)) (over-ordered ◌⊗◌ (ends Z) (ends Z)) (square-sized v c Z z room)

  pub power_held : (j : ℕ) → j ≤ 20 → Held v (ln_power (suc v) Z j)
  unfolding ln_power
  power_held zero k = h
  power_held (suc j) k =
      let m : 2 * suc j + 1 ≤ 41 = omega arith in
      let n : c * (2 * suc j + 1) ≤ 55 * 41 = mul-le-mul small m in
      held_of w (omega (arith, bias-room)) (omega arith) (omega (arith, bias-room)) (over-ordered ◌⊗◌ (ends (ln_power (suc v) Z j)) (ends (times (suc v) (ends Z) (ends Z))))
      (power-sized v c Z z room (suc j) k)

  pub quotient-held : (j : ℕ) → j ≤ 20 → Held v (ln_quotient (suc v) Z j)
  unfolding ln_quotient
  quotient-held j k =
      held_of w (omega (arith, bias-room)) (omega arith) (omega (arith, bias-room)) (over-ordered ◌⊘◌ (ends (ln_power (suc v) Z j)) (whole (2 * j + 1)))
      (digits-sized (quotient-digited v c Z z room j k))

  sum_spelled : (j : ℕ) → Ends (Spelled v) (ln_sum (suc v) Z j)
  unfolding ln_sum ln_quotient
  sum_spelled zero = rounded-spelled v (over ◌⊘◌ (ends (ln_power (suc v) Z 0)) (whole 1))
  sum_spelled (suc j) = rounded-spelled v (over ◌⊕◌ (ends (ln_sum (suc v) Z j)) (ends (ln_quotient (suc v) Z (suc j))))

  pub sum_held : (j : ℕ) → j ≤ 20 → Held v (ln_sum (suc v) Z j)
  unfolding grain
  sum_held j k =
      each_held w (ln_sum (suc v) Z j) (sum_spelled j) (sum_ordered v Z ordered j) (each_map (λ x s. fine_sized s) (sum_fine v c Z z room j k))
      (omega (arith, bias-room)) (omega arith) (omega (arith, bias-room))

  total-spelled : Ends (Spelled v) (ln_total (suc v) Z)
  unfolding ln_total addlast
  total-spelled = record { lo = (sum_spelled 20).lo; hi = round_spelled true v _ }

  pub total-held : nat 0 ≼ value Z.hi → Held v (ln_total (suc v) Z)
  unfolding grain
  total-held n =
      each_held w (ln_total (suc v) Z) total-spelled (total-ordered v Z ordered n) (each_map (λ x s. fine_sized s) (total-fine v c Z z room))
      (omega (arith, bias-room)) (omega arith) (omega (arith, bias-room))

  pub series_held : Held v (ln_series (suc v) Z)
  unfolding ln_series
  series_held =
      held_of w (omega (arith, bias-room)) (omega arith) (omega (arith, bias-room)) (over-ordered ◌⊗◌ (whole 2) (ends (ln_total (suc v) Z)))
      (digits-sized (series_digited v c Z z room ordered (held-spelled Z h)))
