-- The logarithm's signs: each end of every power, quotient and sum has the sign of that end of z, so nothing cancels, and an end of the
-- sum is zero or at least as far from zero as that end of z. Assumes nothing.
use mathlib.Core.Path.{◌≡◌, refl}
use mathlib.Core.Bool.{true, false}
use Prim.Native.Nat.{ℕ, zero, suc, ◌+◌, ◌*◌}
use Rattle.exact.specs.Fraction.{Fraction, nat, ◌⊕◌, ◌⊗◌, ◌⊘◌, ◌≼◌}
use Rattle.exact.proofs.Fraction.Order.{≼_refl, ≼_trans, ≈-sym, ≈-≼-trans, ≼-≈-trans}
use Rattle.exact.proofs.Fraction.Sum.{⊕-mono, ⊕-zero}
use Rattle.exact.proofs.Fraction.Product.{⊗-nonneg, ⊗-square, zero_⊗, ⊗-anti-left, ⊗-mono-left}
use Rattle.exact.proofs.Fraction.Quotient.{⊘-mono-left, zero_⊘, ⊘-nonneg, ⊘-one}
use Rattle.sheet.specs.Number.{value, Spelled}
use Rattle.sheet.proofs.Laws.{up_ge, up_least}
use Rattle.bracket.specs.Span.{Ordered, Each, Sign, whole, over}
use Rattle.bracket.proofs.Corners.{over-ordered}
use Rattle.bracket.specs.declared.Bracket.{Bracket}
use Rattle.bracket.specs.Rules.{ends, addlast, times}
use Rattle.bracket.proofs.Inclusion.{combined-ordered, addlast-ordered}
use Rattle.series.specs.Logarithm.{ln_power, ln_quotient, ln_sum, ln_total}
use Rattle.bracket.proofs.Kept.{low_keeps, high_keeps, rounded-sign, corner-low, corner-high}
use Rattle.measure.proofs.Lift.{over-both}

-- b is at least as far from zero as a, on a's side, and zero where a is zero
pub record Grown (a b : Fraction) : Type 0 where
  pub rise : nat 0 ≼ a → a ≼ b
  pub fall : a ≼ nat 0 → b ≼ a

⊗-nonpos : {x y : Fraction} → x ≼ nat 0 → nat 0 ≼ y → x ⊗ y ≼ nat 0
⊗-nonpos {x} {y} h k = ≼-≈-trans (⊗-mono-left k h) (zero_⊗ y)

⊗-both : {x y : Fraction} → x ≼ nat 0 → y ≼ nat 0 → nat 0 ≼ x ⊗ y
⊗-both {x} {y} h k = ≈-≼-trans (≈-sym (zero_⊗ y)) (⊗-anti-left k h)

⊘-nonpos : {x : Fraction} (y : Fraction) → x ≼ nat 0 → x ⊘ y ≼ nat 0
⊘-nonpos y h = ≼-≈-trans (⊘-mono-left y h) (zero_⊘ y)

module _ (v : ℕ) (Z : Bracket) (o : Ordered (ends Z)) where
  all_above : nat 0 ≼ value Z.lo → Each (Sign false) (ends Z)
  all_above h = record { low = h; high = ≼_trans h o.order }

  all_below : value Z.hi ≼ nat 0 → Each (Sign true) (ends Z)
  all_below h = record { low = ≼_trans o.order h; high = h }

  -- z times z: its upper end is never below zero, its lower end only where z reaches across zero
  square : Bracket
  square = times (suc v) (ends Z) (ends Z)

  square-high : nat 0 ≼ value square.hi
  unfolding square
  square-high = ≼_trans (⊗-square (value Z.lo)) (corner-high false false ◌⊗◌ v (ends Z) (ends Z))

  square_above : nat 0 ≼ value Z.lo → Each (Sign false) (ends square)
  unfolding square
  square_above h =
      rounded-sign false v (over ◌⊗◌ (ends Z) (ends Z)) (over-ordered ◌⊗◌ (ends Z) (ends Z))
      (over-both {R = Sign false} ◌⊗◌ (λ x y a b. ⊗-nonneg a b) (all_above h) (all_above h))

  square-below : value Z.hi ≼ nat 0 → Each (Sign false) (ends square)
  unfolding square
  square-below h =
      rounded-sign false v (over ◌⊗◌ (ends Z) (ends Z)) (over-ordered ◌⊗◌ (ends Z) (ends Z))
      (over-both {R = Sign false} ◌⊗◌ (λ x y a b. ⊗-both a b) (all_below h) (all_below h))

  -- ---- powers
  power-ordered : (j : ℕ) → Ordered (ends (ln_power (suc v) Z j))
  unfolding ln_power
  power-ordered zero = o
  power-ordered (suc j) = combined-ordered v ◌⊗◌ (ends (ln_power (suc v) Z j)) (ends (times (suc v) (ends Z) (ends Z)))

  power-above : nat 0 ≼ value Z.lo → (j : ℕ) → Each (Sign false) (ends (ln_power (suc v) Z j))
  unfolding ln_power square
  power-above h zero = all_above h
  power-above h (suc j) =
      rounded-sign false v (over ◌⊗◌ (ends (ln_power (suc v) Z j)) (ends square)) (over-ordered ◌⊗◌ (ends (ln_power (suc v) Z j)) (ends square))
      (over-both {R = Sign false} ◌⊗◌ (λ x y a b. ⊗-nonneg a b) (power-above h j) (square_above h))

  power_below : value Z.hi ≼ nat 0 → (j : ℕ) → Each (Sign true) (ends (ln_power (suc v) Z j))
  unfolding ln_power square
  power_below h zero = all_below h
  power_below h (suc j) =
      rounded-sign true v (over ◌⊗◌ (ends (ln_power (suc v) Z j)) (ends square)) (over-ordered ◌⊗◌ (ends (ln_power (suc v) Z j)) (ends square))
      (over-both {R = Sign true} ◌⊗◌ (λ x y a b. ⊗-nonpos a b) (power_below h j) (square-below h))

  power-low : value Z.lo ≼ nat 0 → (j : ℕ) → value (ln_power (suc v) Z j).lo ≼ nat 0
  unfolding ln_power square
  power-low h zero = h
  power-low h (suc j) =
      ≼_trans (corner-low false true ◌⊗◌ v (ends (ln_power (suc v) Z j)) (ends square)) (⊗-nonpos (power-low h j) square-high)

  power-high : nat 0 ≼ value Z.hi → (j : ℕ) → nat 0 ≼ value (ln_power (suc v) Z j).hi
  unfolding ln_power square
  power-high h zero = h
  power-high h (suc j) =
      ≼_trans (⊗-nonneg (power-high h j) square-high) (corner-high true true ◌⊗◌ v (ends (ln_power (suc v) Z j)) (ends square))

  -- ---- quotients by 2j + 1
  quotient-above : nat 0 ≼ value Z.lo → (j : ℕ) → Each (Sign false) (ends (ln_quotient (suc v) Z j))
  unfolding ln_quotient
  quotient-above h j =
      rounded-sign false v (over ◌⊘◌ (ends (ln_power (suc v) Z j)) (whole (2 * j + 1))) (over-ordered ◌⊘◌ (ends (ln_power (suc v) Z j)) (whole (2 * j + 1)))
      (over-both {Q = λ (y : Fraction). Unit {0}} {R = Sign false} ◌⊘◌ (λ x y a b. ⊘-nonneg y a) (power-above h j) (record { low = tt; high = tt }))

  quotient-below : value Z.hi ≼ nat 0 → (j : ℕ) → Each (Sign true) (ends (ln_quotient (suc v) Z j))
  unfolding ln_quotient
  quotient-below h j =
      rounded-sign true v (over ◌⊘◌ (ends (ln_power (suc v) Z j)) (whole (2 * j + 1))) (over-ordered ◌⊘◌ (ends (ln_power (suc v) Z j)) (whole (2 * j + 1)))
      (over-both {Q = λ (y : Fraction). Unit {0}} {R = Sign true} ◌⊘◌ (λ x y a b. ⊘-nonpos y a) (power_below h j) (record { low = tt; high = tt }))

  quotient-low : value Z.lo ≼ nat 0 → (j : ℕ) → value (ln_quotient (suc v) Z j).lo ≼ nat 0
  unfolding ln_quotient
  quotient-low h j =
      ≼_trans (corner-low false false ◌⊘◌ v (ends (ln_power (suc v) Z j)) (whole (2 * j + 1))) (⊘-nonpos (nat (2 * j + 1)) (power-low h j))

  quotient-high : nat 0 ≼ value Z.hi → (j : ℕ) → nat 0 ≼ value (ln_quotient (suc v) Z j).hi
  unfolding ln_quotient
  quotient-high h j =
      ≼_trans (⊘-nonneg (nat (2 * j + 1)) (power-high h j)) (corner-high true false ◌⊘◌ v (ends (ln_power (suc v) Z j)) (whole (2 * j + 1)))

  quotient-ordered : (j : ℕ) → Ordered (ends (ln_quotient (suc v) Z j))
  unfolding ln_quotient
  quotient-ordered j = combined-ordered v ◌⊘◌ (ends (ln_power (suc v) Z j)) (whole (2 * j + 1))

  pub sum_ordered : (j : ℕ) → Ordered (ends (ln_sum (suc v) Z j))
  unfolding ln_sum
  sum_ordered zero = quotient-ordered 0
  sum_ordered (suc j) = combined-ordered v ◌⊕◌ (ends (ln_sum (suc v) Z j)) (ends (ln_quotient (suc v) Z (suc j)))

  -- ---- sums: what is added has the sign of what is there
  more : {x y : Fraction} (a : Fraction) → a ≼ x → nat 0 ≼ y → a ≼ x ⊕ y
  more a h k = ≈-≼-trans (≈-sym (⊕-zero a)) (⊕-mono h k)

  less : {x y : Fraction} (a : Fraction) → x ≼ a → y ≼ nat 0 → x ⊕ y ≼ a
  less a h k = ≼-≈-trans (⊕-mono h k) (⊕-zero a)

  divisor : Each (λ (y : Fraction). y ≡ nat 1) (whole 1)
  divisor = record { low = refl; high = refl }

  -- lower ends
  low-rise : Spelled v Z.lo → nat 0 ≼ value Z.lo → (j : ℕ) → value Z.lo ≼ value (ln_sum (suc v) Z j).lo
  unfolding ln_sum ln_quotient ln_power
  low-rise p h zero =
      let a = value Z.lo in
      low_keeps v (over ◌⊘◌ (ends Z) (whole 1)) Z.lo p
      (over-both {P = λ (x : Fraction). a ≼ x} {Q = λ (y : Fraction). y ≡ nat 1} {R = λ (x : Fraction). a ≼ x} ◌⊘◌
      (λ x y k e. rw e (≼-≈-trans k (≈-sym (⊘-one x)))) (record { low = ≼_refl a; high = o.order }) divisor).low
  low-rise p h (suc j) =
      let a = value Z.lo in
      let r = low-rise p h j in
      low_keeps v (over ◌⊕◌ (ends (ln_sum (suc v) Z j)) (ends (ln_quotient (suc v) Z (suc j)))) Z.lo p
      (over-both {P = λ (x : Fraction). a ≼ x} {Q = Sign false} {R = λ (x : Fraction). a ≼ x} ◌⊕◌ (λ x y k l. more a k l)
      (record { low = r; high = ≼_trans r (sum_ordered j).order }) (quotient-above h (suc j))).low

  low-fall : value Z.lo ≼ nat 0 → (j : ℕ) → value (ln_sum (suc v) Z j).lo ≼ value Z.lo
  unfolding ln_sum ln_quotient ln_power
  low-fall h zero = ≼-≈-trans (corner-low false false ◌⊘◌ v (ends Z) (whole 1)) (⊘-one (value Z.lo))
  low-fall h (suc j) =
      ≼_trans (corner-low false false ◌⊕◌ v (ends (ln_sum (suc v) Z j)) (ends (ln_quotient (suc v) Z (suc j))))
      (less (value Z.lo) (low-fall h j) (quotient-low h (suc j)))

  -- upper ends
  high_rise : nat 0 ≼ value Z.hi → (j : ℕ) → value Z.hi ≼ value (ln_sum (suc v) Z j).hi
  unfolding ln_sum ln_quotient ln_power
  high_rise h zero = ≈-≼-trans (≈-sym (⊘-one (value Z.hi))) (corner-high true false ◌⊘◌ v (ends Z) (whole 1))
  high_rise h (suc j) =
      ≼_trans (more (value Z.hi) (high_rise h j) (quotient-high h (suc j)))
      (corner-high true true ◌⊕◌ v (ends (ln_sum (suc v) Z j)) (ends (ln_quotient (suc v) Z (suc j))))

  high_fall : Spelled v Z.hi → value Z.hi ≼ nat 0 → (j : ℕ) → value (ln_sum (suc v) Z j).hi ≼ value Z.hi
  unfolding ln_sum ln_quotient ln_power
  high_fall p h zero =
      let a = value Z.hi in
      high_keeps v (over ◌⊘◌ (ends Z) (whole 1)) Z.hi p
      (over-both {P = λ (x : Fraction). x ≼ a} {Q = λ (y : Fraction). y ≡ nat 1} {R = λ (x : Fraction). x ≼ a} ◌⊘◌
      (λ x y k e. rw e (≈-≼-trans (⊘-one x) k)) (record { low = o.order; high = ≼_refl a }) divisor).high
  high_fall p h (suc j) =
      let a = value Z.hi in
      let r = high_fall p h j in
      high_keeps v (over ◌⊕◌ (ends (ln_sum (suc v) Z j)) (ends (ln_quotient (suc v) Z (suc j)))) Z.hi p
      (over-both {P = λ (x : Fraction). x ≼ a} {Q = Sign true} {R = λ (x : Fraction). x ≼ a} ◌⊕◌ (λ x y k l. less a k l)
      (record { low = ≼_trans (sum_ordered j).order r; high = r }) (quotient-below h (suc j))).high

  -- ---- the sum with its last quotient once more
  pub total-low : Spelled v Z.lo → Grown (value Z.lo) (value (ln_total (suc v) Z).lo)
  unfolding ln_total addlast
  total-low p = record { rise = λ h. low-rise p h 20; fall = λ h. low-fall h 20 }

  pub total-high : Spelled v Z.hi → Grown (value Z.hi) (value (ln_total (suc v) Z).hi)
  unfolding ln_total addlast
  total-high p =
      let s = value (ln_sum (suc v) Z 20).hi in
      let q = value (ln_quotient (suc v) Z 20).hi in
      record {
        rise = λ h. ≼_trans (more (value Z.hi) (high_rise h 20) (quotient-high h 20)) (up_ge v (s ⊕ q));
        fall = λ h. up_least v (s ⊕ q) Z.hi p (less (value Z.hi) (high_fall p h 20) (quotient-below h 20).high);
      }

  pub total-ordered : nat 0 ≼ value Z.hi → Ordered (ends (ln_total (suc v) Z))
  unfolding ln_total
  total-ordered h = addlast-ordered v (ln_sum (suc v) Z 20) (ln_quotient (suc v) Z 20) (sum_ordered 20) (quotient-high h 20)
