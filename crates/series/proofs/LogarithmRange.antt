-- The range of the logarithm's series, for z at most 1 in size and zero or at least 2^-c: every power, quotient and sum on the way, and that
-- an end of the answer is zero or at least 2^(1 - c) in size. Over the count of bits suc v. Assumes nothing.
use mathlib.Core.Bool.{true}
use Prim.Native.Nat.{ℕ, zero, suc, ◌+◌, ◌-◌, ◌*◌, ◌≤◌}
use native.Mathlib.Nat.{mul-le-mul_left}
use native.Mathlib.Omega.{arith}
use lib.Pow.{pow-add}
use Rattle.exact.specs.Fraction.{nat, ◌⊘◌}
use Rattle.sheet.specs.Number.{bias, Spelled}
use Rattle.bracket.specs.declared.Bracket.{Bracket}
use Rattle.bracket.specs.Span.{Ordered, Each, whole}
use Rattle.bracket.specs.Held.{Ends}
use Rattle.bracket.specs.Rules.{ends, times, addlast}
use Rattle.measure.specs.Measure.{Sized, Fine, Digited}
use Rattle.measure.proofs.Lift.{each_map, over-both, rounded-both}
use Rattle.measure.proofs.Measure.{⊘-sized, ⊕-fine, round_sized, round_fine, digited_fine, sized_in, fine_in, fine_sized, nat-sized}
use Rattle.measure.proofs.Sizes.{Positive, times-sized, plus-summed, digits-sized}
use Rattle.series.specs.Logarithm.{ln_power, ln_quotient, ln_sum, ln_total, ln_series}
use Rattle.series.proofs.Sign.{total-low, total-high}
use Rattle.series.proofs.Tight.{grown_sized, powers-between}

-- the grain of all quotients and sums
unfoldable pub grain : ℕ → ℕ → ℕ
grain v c = bias - 41 * c - 6 - v

module _ (v c : ℕ) (Z : Bracket) (z : Each (Sized (bias - c) bias) (ends Z)) (room : 41 * c + 6 + v ≤ bias) where
  pub square-sized : Each (Sized (bias - 2 * c) bias) (ends (times (suc v) (ends Z) (ends Z)))
  square-sized = digits-sized (times-sized v (omega arith) (omega arith) z z)

  pub power-sized : (j : ℕ) → j ≤ 20 → Each (Sized (bias - c * (2 * j + 1)) bias) (ends (ln_power (suc v) Z j))
  unfolding ln_power
  power-sized zero h = each_map (λ x s. sized_in (omega arith) (omega arith) s) z
  power-sized (suc j) h =
      let n : c * (2 * suc j + 1) ≤ c * 41 = mul-le-mul_left c (omega arith) in
      digits-sized (times-sized v (omega arith) (omega arith) (power-sized j (omega arith)) square-sized)

  pub quotient-digited : (j : ℕ) → j ≤ 20 → Each (Digited v (bias - 41 * c - 6) bias) (ends (ln_quotient (suc v) Z j))
  unfolding ln_quotient
  quotient-digited j h =
      let n : c * (2 * j + 1) ≤ c * 41 = mul-le-mul_left c (omega arith) in
      rounded-both (suc v) (λ up x k. round_sized up v k)
      (over-both {P = Sized (bias - c * (2 * j + 1)) bias} {Q = Positive (bias + 0) (bias + 6)} {R = Sized (bias - 41 * c - 6) bias} ◌⊘◌
      (λ x y s t. ⊘-sized (omega arith) (omega arith) t.above s t.sized) (power-sized j h) (powers-between (2 * j + 1) 0 6 (omega arith) (omega arith) (omega arith)))

  quotient-fine : (j : ℕ) → j ≤ 20 → Each (Fine (grain v c) bias) (ends (ln_quotient (suc v) Z j))
  unfolding grain
  quotient-fine j h = each_map (λ x d. digited_fine (omega arith) d) (quotient-digited j h)

  pub sum_fine : (j : ℕ) → j ≤ 20 → Each (Fine (grain v c) (bias + j)) (ends (ln_sum (suc v) Z j))
  unfolding ln_sum
  sum_fine zero h = each_map (λ x s. fine_in (omega arith) (omega arith) s) (quotient-fine 0 h)
  sum_fine (suc j) h =
      each_map (λ x s. fine_in (omega arith) (omega arith) s.fine)
      (plus-summed v (sum_fine j (omega arith)) (each_map (λ x s. fine_in (omega arith) (omega arith) s) (quotient-fine (suc j) h)))

  pub total-fine : Each (Fine (grain v c) (bias + 21)) (ends (ln_total (suc v) Z))
  unfolding ln_total addlast
  total-fine =
      record {
        low = fine_in (omega arith) (omega arith) (sum_fine 20 (omega arith)).low;
        high =
            fine_in (omega arith) (omega arith)
            (round_fine true v
            (⊕-fine (sum_fine 20 (omega arith)).high (fine_in {h' = bias + 20} (omega arith) (omega arith) (quotient-fine 20 (omega arith)).high)));
      }

  -- nothing cancels
  module _ (o : Ordered (ends Z)) (p : Ends (Spelled v) Z) where
    pub total-sized : Each (Sized (bias - c) (bias + 21)) (ends (ln_total (suc v) Z))
    total-sized =
        record {
          low = grown_sized (total-low v Z o p.lo) z.low (fine_sized total-fine.low);
          high = grown_sized (total-high v Z o p.hi) z.high (fine_sized total-fine.high);
        }

    pub series_digited : Each (Digited v (bias - c + 1) (bias + 22)) (ends (ln_series (suc v) Z))
    unfolding ln_series
    series_digited = times-sized v (omega arith) (omega arith) two total-sized
      where
        two : Each (Sized (bias + 1) (bias + 1)) (whole 2)
        two =
            let e = pow-add 2 bias 1 in
            let s : Sized (bias + 1) (bias + 1) (nat 2) = nat-sized (bias + 1) (bias + 1) 2 (omega arith) (omega arith) in
            record { low = s; high = s }
