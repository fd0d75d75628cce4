-- What the code of the density ratio works on: the brackets of r, z and their parts are brackets that the operations take.
-- Assumes nothing.
use mathlib.Core.Path.{◌≡◌, ap, ◌∙◌}
use mathlib.Core.Bool.{false}
use Prim.Native.Nat.{ℕ, suc, ◌+◌, ◌-◌, ◌*◌, ◌^◌, ◌≤◌}
use native.Mathlib.Omega.{arith}
use lib.Dec.{lit≤}
use lib.Pow.{pow_pos, pow_mono, pow-add}
use Rattle.exact.specs.Fraction.{Fraction, nat, parts, ◌⊕◌, ◌⊖◌, ◌⊗◌, ◌≼◌, ◌≺◌}
use Rattle.exact.proofs.Fraction.Order.{≈-sym, ≈-≼-trans, ≼-≈-trans}
use Rattle.exact.proofs.Fraction.Parts.{parts-nat}
use Rattle.sheet.specs.Number.{bias, value}
use Rattle.sheet.specs.Range.{Width}
use Rattle.doubles.specs.Ratio.{IsLargest}
use Rattle.bracket.specs.declared.Bracket.{Bracket}
use Rattle.bracket.specs.Span.{whole}
use Rattle.bracket.specs.Rules.{ends, given, plus, minus, times}
use Rattle.bracket.specs.Held.{Held}
use Rattle.bracket.proofs.Within.{point-ordered}
use Rattle.bracket.proofs.Corners.{over-ordered}
use Rattle.measure.specs.Measure.{Sized}
use Rattle.measure.proofs.Lift.{each_map}
use Rattle.measure.proofs.Measure.{between-sized, fine_sized}
use Rattle.measure.proofs.Sizes.{given_sized, times-sized, digits-sized, positive_sized, held_of}
use Rattle.series.specs.Logarithm.{ratio_r, ln_two, ln_scaled, ln_ratio}
use Rattle.series.specs.Pair.{NearOne}
use Rattle.series.proofs.Short.{short, unit, bias-room}
use Rattle.series.proofs.Units.{unit-part, short-part}
use Rattle.series.proofs.Fits.{each_held}
use Rattle.series.proofs.Tight.{powers-between}
use Rattle.series.proofs.RatioRange.{r_least, r_most}
use Rattle.series.proofs.ZRange.{r_digited, less-sized, more-positive}
use Rattle.series.proofs.LogarithmHeld.{held-spelled}
use Rattle.series.proofs.LnRatioRange.{ratio_r-spelled, ratio_r-ordered, multiple_summed, ln_ratio-summed}

-- ---- densities
density_sized : {x : Fraction} → parts false 1 1024 ≼ x → x ≼ nat 2576 → Sized (bias - 10) (bias + 12) x
density_sized l h =
    let e : 2 ^ bias ≡ 2 ^ (bias - 10) * 1024 = ap (λ (i : ℕ). 2 ^ i) (omega (arith, bias-room)) ∙ pow-add 2 (bias - 10) 10 in
    let f = pow-add 2 bias 12 in
    between-sized 1 1024 2576 1 (lit≤ tt) (lit≤ tt) (lit≤ tt) l (≼-≈-trans h (≈-sym (parts-nat 2576))) (omega arith) (omega arith)

pub density_held : {v : ℕ} → Width v → {x : Fraction} → parts false 1 1024 ≼ x → x ≼ nat 2576 → Held v (given (suc v) x)
density_held {v} w {x} l h =
    held_of w (omega (arith, bias-room)) (omega arith) (omega (arith, bias-room)) (point-ordered x) (digits-sized (given_sized v (density_sized l h)))

-- vapour times 2^k
pub divisor-held : {v : ℕ} → Width v → {x : Fraction} (k : ℕ) → k ≤ 21 → parts false 1 1024 ≼ x → x ≼ nat 2576 → Held v (times (suc v) (ends (given (suc v) x)) (whole (2 ^ k)))
divisor-held {v} w {x} k n l h =
    held_of {l = bias - 10} {h = bias + 33} w (omega (arith, bias-room)) (omega arith) (omega (arith, bias-room)) (over-ordered ◌⊗◌ (ends (given (suc v) x)) (whole (2 ^ k)))
    (digits-sized (times-sized v (omega arith) (omega arith) (digits-sized (given_sized v (density_sized l h)))
    (positive_sized (powers-between (2 ^ k) 0 21 (pow_pos k) (pow_pos k) (pow_mono n)))))

-- ---- r
pub r_near : {v : ℕ} → Width v → {liquid vapour : Fraction} (k : ℕ) → parts false 1 1024 ≼ vapour → IsLargest liquid vapour k → NearOne v (ratio_r (suc v) liquid vapour k)
r_near {v} w {liquid} {vapour} k g l =
    let R = ratio_r (suc v) liquid vapour k in
    let low = r_least v (omega (arith, w.low)) (omega (arith, bias-room)) g l in
    let high = r_most v (omega (arith, w.low)) (omega (arith, bias-room)) g l in
    let o = ratio_r-ordered v liquid vapour k in
    let p = ratio_r-spelled v liquid vapour k in
    record {
      held =
          each_held w R p o (digits-sized (r_digited v (omega (arith, w.low)) R low o.order high p (omega (arith, bias-room)))) (omega (arith, bias-room)) (omega arith)
          (omega (arith, bias-room));
      least = ≈-≼-trans (≈-sym (unit-part 1 (omega (arith, bias-room)))) low;
      most = ≼-≈-trans high (short-part 5 1 (omega (arith, bias-room)));
    }

-- ---- r - 1 and r + 1
module _ {v : ℕ} {R : Bracket} (n : NearOne v R) where
  w : Width v
  w = n.held.lo.width

  low : unit (bias - 1) ≼ value R.lo
  low = ≈-≼-trans (unit-part 1 (omega (arith, bias-room))) n.least

  high : value R.hi ≼ short 5 (bias - 1)
  high = ≼-≈-trans n.most (≈-sym (short-part 5 1 (omega (arith, bias-room))))

  pub less-held : Held v (minus (suc v) (ends R) (whole 1))
  less-held =
      held_of w (omega (arith, bias-room)) (omega arith) (omega (arith, bias-room)) (over-ordered ◌⊖◌ (ends R) (whole 1))
      (less-sized v (omega (arith, w.low)) R low n.held.order high (held-spelled R n.held) (omega (arith, bias-room)))

  pub more-held : Held v (plus (suc v) (ends R) (whole 1))
  more-held =
      held_of w (omega arith) (omega arith) (omega (arith, bias-room)) (over-ordered ◌⊕◌ (ends R) (whole 1))
      (positive_sized (more-positive v (omega (arith, w.low)) R low n.held.order high (held-spelled R n.held) (omega (arith, bias-room))))

  pub more-above : nat 0 ≺ value (plus (suc v) (ends R) (whole 1)).lo
  more-above = (more-positive v (omega (arith, w.low)) R low n.held.order high (held-spelled R n.held) (omega (arith, bias-room))).low.above

-- ---- k times ln 2
pub multiple_held : {v : ℕ} → Width v → (k : ℕ) → k ≤ 21 → Held v (times (suc v) (whole k) (ends (ln_two (suc v))))
multiple_held {v} w k h =
    held_of w (omega (arith, bias-room)) (omega arith) (omega (arith, bias-room)) (over-ordered ◌⊗◌ (whole k) (ends (ln_two (suc v))))
    (each_map (λ x s. fine_sized s.fine) (multiple_summed v (omega (arith, w.low)) (omega (arith, bias-room)) k h))

-- ---- the answer
pub ln_ratio-held : {v : ℕ} → Width v → {liquid vapour : Fraction} → parts false 1 1024 ≼ vapour → liquid ≼ nat 2576 → vapour ≼ liquid → Held v (ln_ratio (suc v) liquid vapour)
unfolding ln_ratio ln_scaled
ln_ratio-held {v} w {liquid} {vapour} g d h =
    held_of w (omega (arith, bias-room)) (omega arith) (omega (arith, bias-room)) (over-ordered ◌⊕◌ _ _)
    (each_map (λ x s. fine_sized s.fine) (ln_ratio-summed v (omega (arith, w.low)) (omega (arith, bias-room)) g d h))
