-- The range of w and of the factor of S2, over the count of bits suc v: by the least g, and where delta is thin away from zero. Assumes nothing.
use mathlib.Core.Path.{◌≡◌, ap, ◌∙◌}
use Prim.Native.Nat.{ℕ, zero, suc, ◌+◌, ◌-◌, ◌*◌, ◌^◌, ◌≤◌, ◌<◌}
use native.Mathlib.Nat.{le_refl, mul-le-mul, mul-le-mul_right}
use native.Mathlib.Omega.{arith}
use lib.Pow.{pow-add}
use Rattle.sheet.specs.Number.{bias}
use Rattle.bracket.specs.declared.Bracket.{Bracket}
use Rattle.bracket.specs.Span.{whole, Each}
use Rattle.bracket.specs.Rules.{ends, minus, times}
use Rattle.measure.specs.Measure.{Digited}
use Rattle.measure.proofs.Measure.{nat-sized}
use Rattle.measure.proofs.Sizes.{Plus, plus-positive, digits-sized, given_sized, times-plus, times-sized, minus-summed, whole_minus, minus-whole}
use Rattle.equation.specs.Rules.{term_w, factor_w, factor_s2}
use Rattle.equation.proofs.Room.{room}
use Rattle.equation.proofs.Weaker.{plus-in, digits_in, digits-fine, summed_digits, plus-digits}
use Rattle.equation.proofs.Ranges.{small-whole}
use Rattle.equation.proofs.Quarters.{AtLeast, whole_least, any-least, less-least, times-least, last-least, half-digits, quarter-most}

-- ---- for c = 0, and w times (w less 1): g is not looked at

module _ (v : ℕ) (bits : v ≤ 62) where
  pub plain_w : (d : ℕ) → 0 < d → d ≤ 31 → (g : Bracket) → Each (Digited v (bias - suc v) (bias + 69)) (ends (term_w (suc v) d zero g))
  unfolding term_w
  plain_w d some few g =
      let r = room in
      digits_in (omega arith) (omega arith) (given_sized v (nat-sized bias (bias + 5) d (omega (arith, mul-le-mul_right (2 ^ bias) some)) (rw (pow-add 2 bias 5) (omega (arith, mul-le-mul_right (2 ^ bias) few)))))

  module _ (tw : Bracket) (q : Each (Digited v (bias - suc v) (bias + 69)) (ends tw)) where
    pub less_one : Each (Digited v (bias - suc v) (bias + 70)) (ends (minus (suc v) (ends tw) (whole 1)))
    less_one =
        let r = room in
        digits_in (omega arith) (omega arith)
        (minus-whole v {k = bias - suc v} {h = bias + 69} 1 (omega arith) (omega arith) (rw (pow-add 2 bias 69) (omega arith)) q)

    pub factor_w-sized : Each (Digited v (bias - (2 * v + 2)) (bias + 139)) (ends (factor_w (suc v) tw))
    unfolding factor_w
    factor_w-sized = let r = room in times-sized v (omega arith) (omega arith) (digits-sized q) (digits-sized less_one)

    pub plain_s2 : (g : Bracket) → Each (Digited v (bias - (2 * v + 2)) (bias + 139)) (ends (factor_s2 (suc v) zero g tw))
    unfolding factor_s2
    plain_s2 g = factor_w-sized

-- ---- by the least g, 2^-n: a number of few digits near a whole number is zero or at least 2^-(v + 1)

module _ (v : ℕ) (bits : v ≤ 62) (n : ℕ) (two : 2 ≤ n) (least-g : n ≤ 292) (g : Bracket) (p : Each (Plus v (bias - n) (bias + 64)) (ends g)) where
  -- c times g, c² times g
  pub whole_g : (h k : ℕ) → 0 < k → k ≤ 2 ^ h → Each (Plus v (bias - n) (bias + 64 + h)) (ends (times (suc v) (whole k) (ends g)))
  whole_g h k some few = let r = room in times-plus v (omega arith) (omega arith) (small-whole v h k some few) (plus-positive p)

  pub term_w-sized : (d c : ℕ) → 0 < d → d ≤ 31 → c ≤ 15 → Each (Digited v (bias - suc v) (bias + 69)) (ends (term_w (suc v) d c g))
  unfolding term_w
  term_w-sized d zero some few most = plain_w v bits d some few g
  term_w-sized d (suc c) some few most =
      let r = room in
      digits_in (omega arith) (omega arith)
      (whole_minus v {k = bias - suc v} {h = bias + 68} {l = bias - n} d (omega arith) some (rw (pow-add 2 bias 68) (omega (arith, mul-le-mul_right (2 ^ bias) few)))
      (digits_in (omega arith) (omega arith) (plus-digits (whole_g 4 (suc c) (omega arith) (omega arith)))))

  pub factor_s2-sized : (tw : Bracket) → Each (Digited v (bias - suc v) (bias + 69)) (ends tw) → (c : ℕ) → c ≤ 15
      → Each (Digited v (bias - (3 * v + n)) (bias + 140)) (ends (factor_s2 (suc v) c g tw))
  unfolding factor_s2
  factor_s2-sized tw q zero most = let r = room in digits_in (omega arith) (omega arith) (factor_w-sized v bits tw q)
  factor_s2-sized tw q (suc c) most =
      let r = room in
      digits_in (omega arith) (omega arith)
      (summed_digits
      (minus-summed v {g = bias - (3 * v + n)} {h = bias + 139} (digits-fine (omega arith) (omega arith) (factor_w-sized v bits tw q))
      (digits-fine (omega arith) (omega arith) (plus-digits (whole_g 8 (suc c * suc c) (omega arith) (square c most))))))
    where
      square : (c : ℕ) → suc c ≤ 15 → suc c * suc c ≤ 2 ^ 8
      square c most = omega (arith, mul-le-mul most most)

-- ---- thin: c g and c² g are at most 1/4, so that w is at least 3/4, and the factor of S2 too for d from 2 on

-- (c + 1)² is at most 2^(6 c)
squares : (c : ℕ) → suc c * suc c ≤ 2 ^ (6 * c)
squares zero = omega arith
squares (suc c) =
    let e : 2 ^ (6 * suc c) ≡ 2 ^ (6 * c) * 64 = ap (λ (k : ℕ). 2 ^ k) (omega arith) ∙ pow-add 2 (6 * c) 6 in
    let h = squares c in
    rw e (omega arith)

module _ (v : ℕ) (digits : 8 ≤ v) (bits : v ≤ 62) (c : ℕ) (most : suc c ≤ 15) (g : Bracket) (p : Each (Plus v (bias - 292) (bias - (2 + 6 * c))) (ends g)) where
  small_times : (k : ℕ) → 0 < k → k ≤ 2 ^ (6 * c) → Each (Plus v (bias - 292) (bias - 2)) (ends (times (suc v) (whole k) (ends g)))
  small_times k some few = let r = room in times-plus v (omega arith) (omega arith) (small-whole v (6 * c) k some few) (plus-positive p)

  g-wide : Each (Plus v (bias - 292) (bias + 64)) (ends g)
  g-wide = let r = room in plus-in (le_refl _) (omega arith) p

  w-rough : (d : ℕ) → 0 < d → d ≤ 31 → Each (Digited v (bias - suc v) (bias + 69)) (ends (term_w (suc v) d (suc c) g))
  w-rough d some few = term_w-sized v bits 292 (omega arith) (omega arith) g g-wide d (suc c) some few most

  once : suc c ≤ 2 ^ (6 * c)
  once = let h = squares c in let m = mul-le-mul_right {m = 1} {n = suc c} (suc c) (omega arith) in omega arith

  w-any : (d : ℕ) → 0 < d → Each (AtLeast 3) (ends (term_w (suc v) d (suc c) g))
  unfolding term_w
  w-any d some = any-least v digits d some (quarter-most (plus-digits (small_times (suc c) (omega arith) once)))

  w-two : (d : ℕ) → 2 ≤ d → Each (AtLeast 7) (ends (term_w (suc v) d (suc c) g))
  unfolding term_w
  w-two d two = whole_least v digits d two (quarter-most (plus-digits (small_times (suc c) (omega arith) once)))

  pub w-away : (d : ℕ) → 0 < d → d ≤ 31 → Each (Digited v (bias - 1) (bias + 69)) (ends (term_w (suc v) d (suc c) g))
  w-away d some few = half-digits (w-any d some) (w-rough d some few)

  pub s2_away : (d : ℕ) → 2 ≤ d → d ≤ 31 → Each (Digited v (bias - 1) (bias + 140)) (ends (factor_s2 (suc v) (suc c) g (term_w (suc v) d (suc c) g)))
  unfolding factor_s2 factor_w
  s2_away d two few =
      half-digits
      (last-least v digits (times-least v digits (w-two d two) (less-least v digits (w-two d two)))
      (quarter-most (plus-digits (small_times (suc c * suc c) (omega arith) (squares c)))))
      (factor_s2-sized v bits 292 (omega arith) (omega arith) g g-wide (term_w (suc v) d (suc c) g) (w-rough d (omega arith) few) (suc c) most)
