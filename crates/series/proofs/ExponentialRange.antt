-- The exponential's range, for X from 0 to 2^p whose ends are zero or at least 2^-292, where no term passes 2^t: the terms, the sum, from 1 to
-- 2^(t + 9), and the answer, from 2^-(t + 9) to 1. Over the count of bits suc v. Assumes nothing.
use mathlib.Core.Path.{◌≡◌, ap, ◌∙◌}
use Prim.Native.Nat.{ℕ, zero, suc, ◌+◌, ◌-◌, ◌*◌, ◌^◌, ◌≤◌, ◌<◌}
use native.Mathlib.Nat.{mul-le-mul_right, le_trans, le_refl, zero-lt-suc}
use native.Mathlib.Omega.{arith}
use lib.Dec.{lit≤}
use lib.Pow.{pow_mono, pow-add}
use Rattle.exact.specs.Fraction.{Fraction, nat, ◌⊕◌, ◌⊘◌, ◌≼◌}
use Rattle.exact.proofs.Fraction.Order.{≼_trans, ≺→≼, ≺-≼-trans, ≈-≼-trans}
use Rattle.exact.proofs.Fraction.Sum.{⊕-mono}
use Rattle.sheet.specs.Number.{bias, value}
use Rattle.bracket.specs.declared.Bracket.{Bracket}
use Rattle.bracket.specs.Span.{Span, Ordered, whole, point, over}
use Rattle.bracket.specs.Rules.{ends, times, divided, addlast, rounded}
use Rattle.bracket.proofs.Inclusion.{addlast-ordered}
use Rattle.bracket.proofs.Signs.{over-plus}
use Rattle.series.proofs.ExponentialCovers.{exp_sum-ordered, exp_sum-least, exp_term-above, exp_term-ordered}
use Rattle.series.specs.Exponential.{exp_term, exp_sum, exp_total, expneg}
use Rattle.series.proofs.Short.{short, unit, bias-room, unit-one, high_short}
use Rattle.series.proofs.Units.{short-sum, short-le}
use Rattle.series.proofs.Tight.{units-sized, sized_under, powers-between}
use Rattle.bracket.specs.Span.{Each}
use Rattle.measure.specs.Measure.{Sized}
use Rattle.measure.proofs.Lift.{each_map}
use Rattle.measure.proofs.Measure.{nat-sized, sized_in}
use Rattle.measure.proofs.Sizes.{Positive, Plus, divided-plus}
use Rattle.exact.proofs.Fraction.Parts.{nat-pos}
use Rattle.series.proofs.Rise.{log, log-least, rise, rise-1, rise-128}
use Rattle.measure.proofs.Lift.{over-both, rounded-both}
use Rattle.measure.proofs.Measure.{⊘-sized, round_sized, digited_sized}
use Rattle.measure.proofs.Sizes.{given_sized, times-sized, digits-sized}

-- 512 times 2^t is 2^(t + 9)
many : (t n : ℕ) → n ≤ 512 → short n (bias + t) ≼ unit (bias + (t + 9))
many t n h =
    let e : 2 ^ (bias + (t + 9)) ≡ 2 ^ (bias + t) * 512 = ap (λ (i : ℕ). 2 ^ i) (omega arith) ∙ pow-add 2 (bias + t) 9 in
    short-le n (bias + t) 1 (bias + (t + 9)) (omega (arith, mul-le-mul_right (2 ^ (bias + t)) h))

-- k + 1 terms and one more
more : (t : ℕ) {x y : Fraction} (k : ℕ) → x ≼ short (suc k) (bias + t) → y ≼ unit (bias + t) → x ⊕ y ≼ short (suc (suc k)) (bias + t)
more t k p q =
    ≼_trans (⊕-mono p q) (≈-≼-trans (short-sum (suc k) 1 (bias + t)) (short-le (suc k + 1) (bias + t) (suc (suc k)) (bias + t) (omega arith)))

few : (v : ℕ) → 8 ≤ v → (k : ℕ) → k ≤ 256 → suc (suc k) < 2 ^ suc v
few v w k h = le_trans (omega arith) (pow_mono {i = 9} (omega arith))

-- a quotient by a whole number
divided-whole : (v : ℕ) {la ha lb hb l h : ℕ} {A B : Span} → l + hb ≤ la + bias → ha + bias ≤ h + lb → Each (Sized la ha) A → Each (Positive lb hb) B
    → Each (Sized l h) (ends (divided (suc v) A B))
divided-whole v {la} {ha} {lb} {hb} {l} {h} i j a b =
    rounded-both (suc v) (λ up x k. digited_sized (round_sized up v k))
    (over-both {P = Sized la ha} {Q = Positive lb hb} {R = Sized l h} ◌⊘◌ (λ x y s t. ⊘-sized i j t.above s t.sized) a b)

one-sized : Sized bias (bias + 0) (nat 1)
one-sized = nat-sized bias (bias + 0) 1 (omega arith) (let h = pow_mono {i = bias} {j = bias + 0} (omega arith) in omega arith)

module _ (v p t : ℕ) {X : Span} (o : Ordered X) (above : nat 0 ≼ X.low) (x : Each (Sized (bias - 292) (bias + p)) X) (peak : (k : ℕ) → k ≤ 256 → rise p k ≤ t) where
  -- ---- terms: each step falls by at most 300 places
  product_from : {T : Span} (k r : ℕ) → k ≤ 256 → Each (Sized (bias - 300 * k) (bias + r)) T → Each (Sized (bias - 300 * k - 292) (bias + r + p)) (ends (times (suc v) T X))
  product_from k r h s = digits-sized (times-sized v (omega (arith, bias-room)) (omega arith) s x)

  term-from : {P : Span} (k r : ℕ) → k < 256 → Each (Sized (bias - 300 * k - 292) (bias + r + p)) P
      → Each (Sized (bias - 300 * suc k) (bias + (r + p - log (suc k)))) (ends (divided (suc v) P (whole (suc k))))
  term-from k r h s =
      divided-whole v (omega (arith, bias-room)) (omega arith) s
      (powers-between (suc k) (log (suc k)) 8 (zero-lt-suc k) (log-least (suc k) (zero-lt-suc k)) h)

  exp_term-grown : (k : ℕ) → k ≤ 256 → Each (Sized (bias - 300 * k) (bias + rise p k)) (ends (exp_term (suc v) X k))
  unfolding exp_term rise
  exp_term-grown zero h = each_map (λ y d. sized_in (omega arith) (omega arith) (digited_sized d)) (given_sized v one-sized)
  exp_term-grown (suc k) h = term-from k (rise p k) h (product_from k (rise p k) (omega arith) (exp_term-grown k (omega arith)))

  pub exp_term-sized : (k : ℕ) → k ≤ 256 → Each (Sized (bias - 76800) (bias + t)) (ends (exp_term (suc v) X k))
  exp_term-sized k h = each_map (λ y s. sized_in (omega arith) (omega (arith, peak k h)) s) (exp_term-grown k h)

  pub exp_product_sized : (k : ℕ) → k ≤ 256 → Each (Sized (bias - 77092) (bias + t + p)) (ends (times (suc v) (ends (exp_term (suc v) X k)) X))
  exp_product_sized k h =
      each_map (λ y s. sized_in (omega arith) (omega (arith, peak k h)) s) (product_from k (rise p k) h (exp_term-grown k h))

  term-top : (k : ℕ) → k ≤ 256 → value (exp_term (suc v) X k).hi ≼ unit (bias + t)
  term-top k h = sized_under (exp_term-sized k h).high

  -- ---- sums
  sum_top : 8 ≤ v → (k : ℕ) → k ≤ 256 → value (exp_sum (suc v) X k).hi ≼ short (suc k) (bias + t)
  unfolding exp_sum
  sum_top w zero h = term-top 0 h
  sum_top w (suc k) h =
      let S = ends (exp_sum (suc v) X k) in
      let T = ends (exp_term (suc v) X (suc k)) in
      high_short v (suc (suc k)) (bias + t) (over ◌⊕◌ S T) (zero-lt-suc (suc k)) (few v w k (omega arith))
      (≈-≼-trans (over-plus (exp_sum-ordered v o above k) (exp_term-ordered v o above (suc k))).high
      (more t k (sum_top w k (omega arith)) (term-top (suc k) h)))

  from_one : (b : Bracket) → nat 1 ≼ value b.lo → value b.lo ≼ value b.hi → value b.hi ≼ unit (bias + (t + 9)) → Each (Positive bias (bias + (t + 9))) (ends b)
  from_one b l m h =
      let q = ≺-≼-trans (nat-pos (lit≤ tt)) l in
      let u = ≈-≼-trans unit-one l in
      record {
        low = record { above = q; sized = units-sized u (≼_trans m h) };
        high = record { above = ≺-≼-trans q m; sized = units-sized (≼_trans u m) h };
      }

  pub exp_sum-sized : 8 ≤ v → (k : ℕ) → k ≤ 256 → Each (Positive bias (bias + (t + 9))) (ends (exp_sum (suc v) X k))
  exp_sum-sized w k h =
      from_one (exp_sum (suc v) X k) (exp_sum-least v o above k) (exp_sum-ordered v o above k).order
      (≼_trans (sum_top w k h) (many t (suc k) (omega arith)))

  pub exp_total-ordered : Ordered (ends (exp_total (suc v) X))
  unfolding exp_total
  exp_total-ordered = addlast-ordered v (exp_sum (suc v) X 256) (exp_term (suc v) X 256) (exp_sum-ordered v o above 256) (exp_term-above v o above 256).high

  pub exp_total-sized : 8 ≤ v → Each (Positive bias (bias + (t + 9))) (ends (exp_total (suc v) X))
  unfolding exp_total addlast rounded
  exp_total-sized w =
      let S = exp_sum (suc v) X 256 in
      let T = exp_term (suc v) X 256 in
      from_one (exp_total (suc v) X) (exp_sum-least v o above 256)
      (addlast-ordered v S T (exp_sum-ordered v o above 256) (exp_term-above v o above 256).high).order
      (≼_trans
      (high_short v 258 (bias + t) (point (value S.hi ⊕ value T.hi)) (lit≤ tt) (few v w 256 (le_refl 256))
      (more t 256 (sum_top w 256 (le_refl 256)) (term-top 256 (le_refl 256))))
      (many t 258 (lit≤ tt)))

  -- ---- the answer
  pub answer_plus : 8 ≤ v → t ≤ 247 → Each (Plus v (bias - (t + 9)) bias) (ends (expneg (suc v) X))
  unfolding expneg
  answer_plus w m = divided-plus v (omega (arith, bias-room)) (omega arith) (powers-between 1 0 0 (lit≤ tt) (lit≤ tt) (lit≤ tt)) (exp_total-sized w)

-- for x from 2^-292 to 128: from 2^-256 to 1
pub expneg-plus : (v : ℕ) {X : Span} → Ordered X → Each (Positive (bias - 292) (bias + 7)) X → 8 ≤ v → Each (Plus v (bias - 256) bias) (ends (expneg (suc v) X))
expneg-plus v o x w = answer_plus v 7 247 o (≺→≼ x.low.above) (each_map (λ y s. s.sized) x) rise-128 w (lit≤ tt)

-- for x from 2^-292 to 1: from 2^-9 to 1
pub expneg-small : (v : ℕ) {X : Span} → Ordered X → Each (Positive (bias - 292) bias) X → 8 ≤ v → Each (Plus v (bias - 9) bias) (ends (expneg (suc v) X))
expneg-small v o x w =
    answer_plus v 0 0 o (≺→≼ x.low.above) (each_map (λ y s. sized_in (le_refl _) (omega arith) s.sized) x) rise-1 w (lit≤ tt)
