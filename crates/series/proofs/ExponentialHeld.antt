-- What the exponential's code works on, for X from 0 to 128 whose ends are zero or at least 2^-292. Assumes nothing.
use mathlib.Core.Bool.{true}
use Prim.Native.Nat.{ℕ, zero, suc, ◌≤◌}
use native.Mathlib.Omega.{arith}
use lib.Dec.{lit≤}
use Rattle.exact.specs.Fraction.{nat, ◌⊕◌, ◌⊗◌, ◌⊘◌, ◌≺◌}
use Rattle.sheet.specs.Number.{value, Spelled}
use Rattle.sheet.specs.Range.{Width}
use Rattle.bracket.specs.Span.{Span, Ordered, whole, over}
use Rattle.bracket.specs.Rules.{ends, times, addlast}
use Rattle.series.proofs.ExponentialCovers.{exp_sum-ordered, exp_term-ordered}
use Rattle.series.specs.Exponential.{exp_term, exp_sum, exp_total, expneg}
use Rattle.bracket.specs.Held.{Ends, Held}
use Rattle.sheet.proofs.Laws.{round_spelled}
use Rattle.series.proofs.Fits.{each_held}
use Rattle.bracket.proofs.Kept.{rounded-spelled}
use Rattle.series.proofs.Short.{bias-room}
use Rattle.bracket.proofs.Corners.{over-ordered}
use Rattle.measure.proofs.Sizes.{plus-sized, positive_sized, held_of}
use Rattle.series.specs.Terms.{Taken}
use Rattle.series.proofs.Rise.{rise-128}
use Rattle.series.proofs.ExponentialRange.{exp_term-sized, exp_product_sized, exp_sum-sized, exp_total-sized, exp_total-ordered, answer_plus}

-- ---- the spelling
module _ (v : ℕ) (X : Span) where
  pub exp_term-spelled : (k : ℕ) → Ends (Spelled v) (exp_term (suc v) X k)
  unfolding exp_term
  exp_term-spelled zero = rounded-spelled v (whole 1)
  exp_term-spelled (suc k) = rounded-spelled v (over ◌⊘◌ (ends (times (suc v) (ends (exp_term (suc v) X k)) X)) (whole (suc k)))

  pub exp_sum-spelled : (k : ℕ) → Ends (Spelled v) (exp_sum (suc v) X k)
  unfolding exp_sum
  exp_sum-spelled zero = exp_term-spelled zero
  exp_sum-spelled (suc k) = rounded-spelled v (over ◌⊕◌ (ends (exp_sum (suc v) X k)) (ends (exp_term (suc v) X (suc k))))

  pub exp_total-spelled : Ends (Spelled v) (exp_total (suc v) X)
  unfolding exp_total addlast
  exp_total-spelled = record { lo = (exp_sum-spelled 256).lo; hi = round_spelled true v _ }

-- ---- brackets that the operations take
module _ {v : ℕ} (w : Width v) {X : Span} (q : Taken X) where
  o : Ordered X
  o = record { order = q.order }

  pub exp_term-held : (k : ℕ) → k ≤ 256 → Held v (exp_term (suc v) X k)
  exp_term-held k h =
      each_held w (exp_term (suc v) X k) (exp_term-spelled v X k) (exp_term-ordered v o q.above k) (exp_term-sized v 7 247 o q.above q.sized rise-128 k h)
      (omega (arith, bias-room)) (omega arith) (omega (arith, bias-room))

  pub exp_product_held : (k : ℕ) → k ≤ 256 → Held v (times (suc v) (ends (exp_term (suc v) X k)) X)
  exp_product_held k h =
      held_of w (omega (arith, bias-room)) (omega arith) (omega (arith, bias-room)) (over-ordered ◌⊗◌ (ends (exp_term (suc v) X k)) X)
      (exp_product_sized v 7 247 o q.above q.sized rise-128 k h)

  pub exp_sum-held : (k : ℕ) → k ≤ 256 → Held v (exp_sum (suc v) X k)
  exp_sum-held k h =
      each_held w (exp_sum (suc v) X k) (exp_sum-spelled v X k) (exp_sum-ordered v o q.above k)
      (positive_sized (exp_sum-sized v 7 247 o q.above q.sized rise-128 (omega arith) k h)) (omega arith) (omega arith) (omega (arith, bias-room))

  pub total-ordered : Ordered (ends (exp_total (suc v) X))
  total-ordered = exp_total-ordered v 7 247 o q.above q.sized rise-128

  pub total-above : nat 0 ≺ value (exp_total (suc v) X).lo
  total-above = (exp_total-sized v 7 247 o q.above q.sized rise-128 (omega arith)).low.above

  pub exp_total-held : Held v (exp_total (suc v) X)
  exp_total-held =
      each_held w (exp_total (suc v) X) (exp_total-spelled v X) total-ordered
      (positive_sized (exp_total-sized v 7 247 o q.above q.sized rise-128 (omega arith))) (omega arith) (omega arith) (omega (arith, bias-room))

  pub expneg-held : Held v (expneg (suc v) X)
  unfolding expneg
  expneg-held =
      held_of w (omega (arith, bias-room)) (omega arith) (omega (arith, bias-room)) (over-ordered ◌⊘◌ (whole 1) (ends (exp_total (suc v) X)))
      (plus-sized (answer_plus v 7 247 o q.above q.sized rise-128 (omega arith) (lit≤ tt)))
