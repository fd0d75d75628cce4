-- The two arguments that the logarithm's series is taken at, 1/3 and the z of accepted densities, are what its code asks for. Assumes nothing.
use Prim.Native.Nat.{ℕ, suc, ◌+◌}
use mathlib.Core.Bool.{false}
use native.Mathlib.Omega.{arith}
use lib.Dec.{lit≤}
use Rattle.exact.specs.Fraction.{Fraction, nat, parts, ◌≼◌}
use Rattle.exact.proofs.Fraction.Order.{≼_trans, ≺-≼-trans}
use Rattle.exact.proofs.Fraction.Parts.{parts-nonneg, parts-pos}
use Rattle.sheet.specs.Range.{Width}
use Rattle.doubles.specs.Ratio.{IsLargest}
use Rattle.bracket.specs.declared.Bracket.{Bracket}
use Rattle.bracket.specs.Rules.{given}
use Rattle.bracket.specs.Held.{Held}
use Rattle.bracket.proofs.Within.{point-ordered}
use Rattle.bracket.proofs.Inclusion.{given_in}
use Rattle.measure.proofs.Lift.{each_map}
use Rattle.measure.proofs.Measure.{sized_in, digited_sized}
use Rattle.measure.proofs.Sizes.{given_sized, held_of}
use Rattle.series.specs.Logarithm.{ratio_r, ratio_z, ln_series, ln_two}
use Rattle.series.specs.Powers.{Argument}
use Rattle.series.proofs.Short.{bias-room}
use Rattle.series.proofs.LogarithmHeld as held
use Rattle.series.proofs.Fits.{each_held}
use Rattle.series.proofs.RatioCovers.{ratio_r-in, ratio_r-above, ratio_z-in, z_at-nonneg, r_at-least}
use Rattle.series.proofs.LnRatioRange.{third, third-sized, z_measured, ratio_z-spelled, ratio_z-ordered}

pub third-argument : {v : ℕ} → Width v → Argument v (given (suc v) (parts false 1 3))
third-argument {v} w =
    let s = each_map (λ x d. digited_sized d) (given_sized v (third-sized v (omega (arith, w.low)) (omega (arith, bias-room)))) in
    record {
      held = held_of w (omega (arith, bias-room)) (omega arith) (omega (arith, bias-room)) (point-ordered third) s;
      sized = each_map (λ x k. sized_in (omega arith) (omega arith) k) s;
      reach = ≼_trans (parts-nonneg 1 3) (given_in v third).under;
    }

pub z_argument : {v : ℕ} → Width v → {liquid vapour : Fraction} (k : ℕ) → parts false 1 1024 ≼ vapour → nat 0 ≼ liquid → IsLargest liquid vapour k
    → Argument v (ratio_z (suc v) (ratio_r (suc v) liquid vapour k))
z_argument {v} w {liquid} {vapour} k g p l =
    let R = ratio_r (suc v) liquid vapour k in
    let s = z_measured v (omega (arith, w.low)) (omega (arith, bias-room)) g l in
    record {
      held = each_held w (ratio_z (suc v) R) (ratio_z-spelled v R) (ratio_z-ordered v R) s (omega (arith, bias-room)) (omega arith) (omega (arith, bias-room));
      sized = s;
      reach =
          ≼_trans (z_at-nonneg (r_at-least (≺-≼-trans (parts-pos 1 1024 (lit≤ tt)) g) l))
          (ratio_z-in v R (ratio_r-above v k g p) (ratio_r-in v k g liquid)).under;
    }

-- ---- the answers
pub series_held : {v : ℕ} {Z : Bracket} → Argument v Z → Held v (ln_series (suc v) Z)
series_held {v} {Z} a = let w = a.held.lo.width in held.series_held w (v + 3) (omega (arith, w.high)) Z a.held a.sized

pub ln_two-held : {v : ℕ} → Width v → Held v (ln_two (suc v))
unfolding ln_two
ln_two-held w = series_held (third-argument w)
