-- The rest of the exponential's sum at once: from where a term lies below one unit of the last place of the sum's lower end, and the terms
-- no longer grow, every step leaves the lower end where it is and moves the upper end one sheet number on. Assumes nothing.
use mathlib.Core.Path.{◌≡◌, sym, ap, ◌∙◌, subst}
use mathlib.Core.Bool.{true, false}
use Prim.Native.Nat.{ℕ, zero, suc, ◌+◌, ◌-◌, ◌^◌, ◌≤◌, ◌<◌}
use native.Mathlib.Nat.{le_trans, lt_of_le_of_lt, zero-lt-suc}
use native.Mathlib.Omega.{arith}
use lib.Dec.{lit≤}
use lib.Pow.{pow-lt, pow_mono}
use Rattle.exact.specs.Fraction.{nat, ◌⊗◌, ◌⊘◌, ◌≼◌, ◌≺◌}
use Rattle.exact.proofs.Fraction.Order.{≼_trans, ≼_refl, ≺-≼-trans, ≼-≈-trans, ≈-≼-trans, ≈-sym}
use Rattle.exact.proofs.Fraction.Product.{⊗-mono, ⊗-pos}
use Rattle.exact.proofs.Fraction.Quotient.{⊘-pos, ⊘-≼}
use Rattle.exact.proofs.Fraction.Parts.{nat-pos, nat-nonneg, nat-≼}
use Rattle.sheet.specs.Number.{value}
use Rattle.sheet.specs.Range.{extent}
use Rattle.bracket.specs.declared.Bracket.{Bracket}
use Rattle.bracket.specs.Span.{Span, Ordered, Each, Sign, whole, over}
use Rattle.bracket.specs.Rules.{ends, times, stretched}
use Rattle.bracket.proofs.Inclusion.{combined-ordered}
use Rattle.bracket.proofs.Kept.{corner-high, high_out}
use Rattle.bracket.proofs.Signs.{over-times, over-divided}
use Rattle.bracket.proofs.Slight.{Nonneg, high_plain, stretched-none, stretched-next, plus-slight, addlast-slight}
use Rattle.series.specs.Exponential.{exp_term, exp_sum, exp_total}
use Rattle.series.proofs.Short.{unit, high_short, high_unit}
use Rattle.series.proofs.Units.{unit-times}
use Rattle.series.proofs.Fits.{value-most}
use Rattle.series.proofs.ExponentialCovers.{times_above, exp_term-above, exp_term-ordered, exp_sum-ordered, exp_sum-least}
use Rattle.series.proofs.ExponentialHeld.{exp_term-spelled, exp_sum-spelled}

-- the terms after k are slight: X's upper end is above zero and at most k + 1, so that a power of two that bounds term k bounds every later
-- one, and that power lies below one unit of the last place of the sum's lower end
pub record Stretching (v : ℕ) (X : Span) (k : ℕ) : Type 0 where
  pub some : nat 0 ≺ X.high
  pub falls : X.high ≼ nat (suc k)
  pub power : ℕ
  pub small : value (exp_term (suc v) X k).hi ≼ unit power
  pub below : power < (exp_sum (suc v) X k).lo.e

module _ (v : ℕ) {X : Span} (o : Ordered X) (above : nat 0 ≼ X.low) where
  high_above : nat 0 ≼ X.high
  high_above = ≼_trans above o.order

  term-nonneg : (n : ℕ) → Nonneg v (exp_term (suc v) X n)
  term-nonneg n =
      record { spelled = exp_term-spelled v X n; ordered = exp_term-ordered v o above n; above = (exp_term-above v o above n).low }

  sum_nonneg : (n : ℕ) → Nonneg v (exp_sum (suc v) X n)
  sum_nonneg n =
      record { spelled = exp_sum-spelled v X n; ordered = exp_sum-ordered v o above n; above = ≼_trans (nat-nonneg 1) (exp_sum-least v o above n) }

  -- a power of two that bounds a term bounds the next one, for X at most its count
  term-under : (q n : ℕ) → suc n < 2 ^ suc v → X.high ≼ nat (suc n) → value (exp_term (suc v) X n).hi ≼ unit q → value (exp_term (suc v) X (suc n)).hi ≼ unit q
  unfolding exp_term
  term-under q n few falls h =
      let A = ends (exp_term (suc v) X n) in
      let P = ends (times (suc v) A X) in
      let a = exp_term-above v o above n in
      let r : Each (Sign false) P = times_above v a (record { low = above; high = high_above }) in
      let p : P.high ≼ unit q ⊗ nat (suc n) =
      ≼-≈-trans
      (high_short v (suc n) q (over ◌⊗◌ A X) (zero-lt-suc n) few
      (≈-≼-trans (over-times false false false A X (exp_term-ordered v o above n) o above a.low a.high).high
      (≼-≈-trans (⊗-mono a.high high_above h falls) (unit-times q (suc n)))))
      (≈-sym (unit-times q (suc n))) in
      high_unit v q (over ◌⊘◌ P (whole (suc n)))
      (≈-≼-trans
      (over-divided false false P (whole (suc n)) (combined-ordered v ◌⊗◌ A X) (record { order = ≼_refl (nat (suc n)) }) (nat-pos (zero-lt-suc n))
      r.low r.high).high
      (⊘-≼ (nat-pos (zero-lt-suc n)) p))

  -- a term's upper end is above zero where X's is
  term-some : nat 0 ≺ X.high → (n : ℕ) → nat 0 ≺ value (exp_term (suc v) X n).hi
  unfolding exp_term
  term-some some zero = ≺-≼-trans (nat-pos (lit≤ tt)) (high_out v (whole 1))
  term-some some (suc n) =
      let A = ends (exp_term (suc v) X n) in
      let P = ends (times (suc v) A X) in
      ≺-≼-trans (⊘-pos (nat (suc n)) (≺-≼-trans (⊗-pos (term-some some n) some) (corner-high true true ◌⊗◌ v A X)))
      (corner-high true true ◌⊘◌ v P (whole (suc n)))

  module _ (w : 8 ≤ v) {k : ℕ} (s : Stretching v X k) where
    abbrev S : Bracket
    S = exp_sum (suc v) X k

    -- the sum to n is the sum to k stretched by j, and the power still bounds the term
    record Rest (j n : ℕ) : Type 0 where
      is : exp_sum (suc v) X n ≡ stretched (suc v) j S
      under : value (exp_term (suc v) X n).hi ≼ unit s.power

    -- so that term m is slight beside it
    slight : (j n m : ℕ) → exp_sum (suc v) X n ≡ stretched (suc v) j S → value (exp_term (suc v) X m).hi ≼ unit s.power
        → extent (exp_term (suc v) X m).hi < 2 ^ (exp_sum (suc v) X n).lo.e
    slight j n m e h =
        lt_of_le_of_lt (value-most (exp_term (suc v) X m).hi s.power (high_plain (term-nonneg m)) h)
        (pow-lt (subst (λ (b : Bracket). s.power < b.lo.e) (sym e) s.below))

    step : (j n : ℕ) → k ≤ n → n < 256 → Rest j n → Rest (suc j) (suc n)
    unfolding exp_sum
    step j n l h r =
        let t =
        term-under s.power n (le_trans (omega arith) (pow_mono {i = 9} {j = suc v} (omega arith))) (≼_trans s.falls (nat-≼ (omega arith))) r.under in
        let e = plus-slight (sum_nonneg n) (term-nonneg (suc n)) (term-some s.some (suc n)) (slight j n (suc n) r.is t) in
        record { is = e ∙ ap (stretched (suc v) 1) r.is ∙ stretched-next (suc v) j S; under = t }

    rest : (j : ℕ) → k + j ≤ 256 → Rest j (k + j)
    rest zero h = subst (λ (n : ℕ). Rest 0 n) (let z : k ≡ k + 0 = omega arith in z) (record { is = sym (stretched-none (suc v) S); under = s.small })
    rest (suc j) h =
        subst (λ (n : ℕ). Rest (suc j) n) (let z : suc (k + j) ≡ k + suc j = omega arith in z) (step j (k + j) (omega arith) (omega arith) (rest j (omega arith)))

    -- one step for each term after k, and one for the last term's upper end once more
    pub total-rest : k ≤ 256 → exp_total (suc v) X ≡ stretched (suc v) (257 - k) (exp_sum (suc v) X k)
    unfolding exp_total
    total-rest h =
        let j = 256 - k in
        let r : Rest j 256 = subst (λ (n : ℕ). Rest j n) (let z : k + (256 - k) ≡ 256 = omega arith in z) (rest j (omega arith)) in
        addlast-slight (sum_nonneg 256) (term-nonneg 256) (term-some s.some 256) (slight j 256 256 r.is r.under)
        ∙ ap (stretched (suc v) 1) r.is ∙ stretched-next (suc v) j S
        ∙ ap (λ (n : ℕ). stretched (suc v) n S) (let z : suc (256 - k) ≡ 257 - k = omega arith in z)
