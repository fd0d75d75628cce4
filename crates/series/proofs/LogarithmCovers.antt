-- Inclusion: the logarithm's series at every level from 20 on lies in the bracket of the step rules, for z from 0 to 1/3. Assumes nothing.
use Prim.Native.Nat.{ℕ, zero, suc, ◌+◌, ◌*◌, ◌≤◌}
use mathlib.Core.Bool.{false}
use native.Mathlib.Omega.{arith}
use Rattle.exact.specs.Fraction.{Fraction, nat, parts, ◌≼◌}
use Rattle.exact.proofs.Fraction.Order.{≼_refl, ≈-sym}
use Rattle.exact.proofs.Fraction.Parts.{nat-pos, parts-nonneg}
use Rattle.exact.specs.Series.{power, partial, ln_term, ln_at}
use Rattle.exact.proofs.Power.{power-one}
use Rattle.exact.proofs.Series.{power-odd}
use Rattle.exact.proofs.Tail.{ln_tail_20}
use Rattle.bracket.specs.Span.{◌∈◌}
use Rattle.bracket.proofs.Within.{in_point, in_≈}
use Rattle.bracket.specs.declared.Bracket.{Bracket}
use Rattle.bracket.specs.Rules.{ends, given}
use Rattle.bracket.proofs.Inclusion.{plus-in, times-in, divided-in, given_in}
use Rattle.series.specs.Logarithm.{ln_power, ln_quotient, ln_sum, ln_total, ln_series, ln_two}
use Rattle.series.proofs.Between.{between}

module _ (v : ℕ) (Z : Bracket) {z : Fraction} (h : z ∈ ends Z) where
  pub ln_power-in : (j : ℕ) → power z (2 * j + 1) ∈ ends (ln_power (suc v) Z j)
  unfolding ln_power
  ln_power-in zero = in_≈ (≈-sym (power-one z)) h
  ln_power-in (suc j) = in_≈ (≈-sym (power-odd z j)) (times-in v (ln_power-in j) (times-in v h h))

  pub ln_quotient-in : (j : ℕ) → ln_term z j ∈ ends (ln_quotient (suc v) Z j)
  unfolding ln_quotient ln_term
  ln_quotient-in j = divided-in v (nat-pos (omega arith)) (ln_power-in j) (in_point (nat (2 * j + 1)))

  pub ln_sum-in : (j : ℕ) → partial (ln_term z) j ∈ ends (ln_sum (suc v) Z j)
  unfolding ln_sum partial
  ln_sum-in zero = ln_quotient-in zero
  ln_sum-in (suc j) = plus-in v (ln_sum-in j) (ln_quotient-in (suc j))

  pub ln_series-in : (N : ℕ) → 20 ≤ N → nat 0 ≼ z → z ≼ parts false 1 3 → ln_at N z ∈ ends (ln_series (suc v) Z)
  unfolding ln_series ln_total ln_at
  ln_series-in N n l u =
      let tail = ln_tail_20 N l u n in
      times-in v (in_point (nat 2)) (between v (ln_sum (suc v) Z 20) (ln_quotient (suc v) Z 20) (ln_sum-in 20) (ln_quotient-in 20) tail)

pub ln_two-in : (v N : ℕ) → 20 ≤ N → ln_at N (parts false 1 3) ∈ ends (ln_two (suc v))
unfolding ln_two
ln_two-in v N n =
    ln_series-in v (given (suc v) (parts false 1 3)) (given_in v (parts false 1 3)) N n (parts-nonneg 1 3) (≼_refl (parts false 1 3))
