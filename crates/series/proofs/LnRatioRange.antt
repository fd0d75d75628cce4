-- The range of the logarithm of a density ratio: for accepted densities every end is a multiple of 2^-(2v + 2) and at most 2^28 in size. Over the
-- count of bits suc v, from five bits on. Assumes nothing.
use mathlib.Core.Path.{◌≡◌, ap, ◌∙◌}
use mathlib.Core.Bool.{false}
use Prim.Native.Nat.{ℕ, suc, ◌+◌, ◌-◌, ◌*◌, ◌^◌, ◌≤◌}
use native.Mathlib.Nat.{le_trans}
use native.Mathlib.Omega.{arith}
use lib.Dec.{lit≤}
use lib.Pow.{pow-add}
use Rattle.exact.specs.Fraction.{Fraction, nat, parts, leq, ◌⊘◌, ◌≼◌}
use Rattle.exact.proofs.Fraction.Order.{≼-by}
use Rattle.sheet.specs.Number.{bias, Spelled}
use Rattle.doubles.specs.Ratio.{ratio_exponent, IsLargest}
use Rattle.doubles.proofs.Largest.{ratio_largest, few-doublings}
use Rattle.bracket.specs.declared.Bracket.{Bracket}
use Rattle.bracket.specs.Span.{Ordered, Each, whole, point}
use Rattle.bracket.specs.Held.{Ends}
use Rattle.bracket.specs.Rules.{ends, given, times}
use Rattle.bracket.proofs.Inclusion.{given_ordered, combined-ordered}
use Rattle.measure.specs.Measure.{Sized, Digited}
use Rattle.measure.proofs.Lift.{each_map}
use Rattle.measure.proofs.Measure.{between-sized, digited_sized, digited_fine, digited_in, fine_in}
use Rattle.measure.proofs.Sizes.{Summed, given_sized, whole_times_summed, plus-summed}
use Rattle.series.specs.Logarithm.{ln_series, ln_two, ratio_r, ratio_z, ln_scaled, ln_ratio}
use Rattle.bracket.proofs.Kept.{rounded-spelled}
use Rattle.series.proofs.RatioRange.{r_least, r_most}
use Rattle.series.proofs.ZRange.{z_sized}
use Rattle.series.proofs.LogarithmRange.{series_digited}

-- ---- r and z are roundings
module _ (v : ℕ) where
  pub ratio_r-spelled : (liquid vapour : Fraction) (k : ℕ) → Ends (Spelled v) (ratio_r (suc v) liquid vapour k)
  unfolding ratio_r
  ratio_r-spelled liquid vapour k = rounded-spelled v _

  pub ratio_r-ordered : (liquid vapour : Fraction) (k : ℕ) → Ordered (ends (ratio_r (suc v) liquid vapour k))
  unfolding ratio_r
  ratio_r-ordered liquid vapour k = combined-ordered v ◌⊘◌ _ _

  pub ratio_z-spelled : (R : Bracket) → Ends (Spelled v) (ratio_z (suc v) R)
  unfolding ratio_z
  ratio_z-spelled R = rounded-spelled v _

  pub ratio_z-ordered : (R : Bracket) → Ordered (ends (ratio_z (suc v) R))
  unfolding ratio_z
  ratio_z-ordered R = combined-ordered v ◌⊘◌ _ _

abbrev pub third : Fraction
third = parts false 1 3

quarter : parts false 1 4 ≼ third
unfolding leq parts
quarter = ≼-by (parts false 1 4) third tt

under_one : third ≼ parts false 1 1
unfolding leq parts
under_one = ≼-by third (parts false 1 1) tt

module _ (v : ℕ) (four : 4 ≤ v) (room : 42 * v + 129 ≤ bias) where
  -- ---- ln 2
  pub third-sized : Sized (bias - 2) bias third
  third-sized =
      let e : 2 ^ bias ≡ 2 ^ (bias - 2) * 4 = ap (λ (i : ℕ). 2 ^ i) (omega arith) ∙ pow-add 2 (bias - 2) 2 in
      between-sized 1 4 1 1 (lit≤ tt) (lit≤ tt) (lit≤ tt) quarter under_one (omega arith) (omega arith)

  pub ln_two-digited : Each (Digited v (bias - 1) (bias + 22)) (ends (ln_two (suc v)))
  unfolding ln_two
  ln_two-digited =
      each_map (λ x d. digited_in (omega arith) (omega arith) d)
      (series_digited v 2 (given (suc v) third) (each_map (λ x d. digited_sized d) (given_sized v third-sized)) (omega arith) (given_ordered v third)
      (rounded-spelled v (point third)))

  -- k times ln 2
  pub multiple_summed : (k : ℕ) → k ≤ 21 → Each (Summed v (bias - (2 * v + 2)) (5 + (bias + 22))) (ends (times (suc v) (whole k) (ends (ln_two (suc v)))))
  multiple_summed k h =
      whole_times_summed v 5 k (le_trans h (lit≤ tt)) (each_map (λ x d. digited_fine (omega arith) d) ln_two-digited)

  module _ {liquid vapour : Fraction} {k : ℕ} (g : parts false 1 1024 ≼ vapour) (l : IsLargest liquid vapour k) where
    -- ---- ln r
    pub z_measured : Each (Sized (bias - (v + 3)) bias) (ends (ratio_z (suc v) (ratio_r (suc v) liquid vapour k)))
    z_measured =
        z_sized v (omega arith) (ratio_r (suc v) liquid vapour k) (r_least v four (omega arith) g l) (ratio_r-ordered v liquid vapour k).order
        (r_most v four (omega arith) g l) (ratio_r-spelled v liquid vapour k) (omega arith)

    pub ln_r_digited : Each (Digited v (bias - (v + 3) + 1) (bias + 22)) (ends (ln_series (suc v) (ratio_z (suc v) (ratio_r (suc v) liquid vapour k))))
    ln_r_digited =
        let R = ratio_r (suc v) liquid vapour k in
        series_digited v (v + 3) (ratio_z (suc v) R) z_measured (omega arith) (ratio_z-ordered v R) (ratio_z-spelled v R)

    -- ---- (k times ln 2) + ln r
    pub ln_scaled-summed : k ≤ 21 → Each (Summed v (bias - (2 * v + 2)) (suc (bias + 27))) (ends (ln_scaled (suc v) liquid vapour k))
    unfolding ln_scaled
    ln_scaled-summed h =
        plus-summed v (each_map (λ x s. fine_in (omega arith) (omega arith) s.fine) (multiple_summed k h))
        (each_map (λ x d. fine_in (omega arith) (omega arith) (digited_fine {g = bias - (2 * v + 2)} (omega arith) d)) ln_r_digited)

pub ln_ratio-summed : (v : ℕ) → 4 ≤ v → 42 * v + 129 ≤ bias → {liquid vapour : Fraction} → parts false 1 1024 ≼ vapour → liquid ≼ nat 2576 → vapour ≼ liquid
    → Each (Summed v (bias - (2 * v + 2)) (suc (bias + 27))) (ends (ln_ratio (suc v) liquid vapour))
unfolding ln_ratio
ln_ratio-summed v four room {liquid} {vapour} g d h =
    let l = ratio_largest liquid vapour g d h in
    ln_scaled-summed v four room g l (few-doublings liquid vapour (ratio_exponent liquid vapour) g d l.within)
