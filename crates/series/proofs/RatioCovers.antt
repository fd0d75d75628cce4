-- Inclusion: the logarithm of the ratio of two accepted densities at every level from 20 on lies in the bracket of the step rules.
-- Assumes nothing.
use Prim.Native.Nat.{ℕ, suc, ◌+◌, ◌-◌, ◌^◌, ◌≤◌}
use mathlib.Core.Path.{ap}
use mathlib.Core.Bool.{false}
use mathlib.Core.Logic.{inl, inr}
use native.Mathlib.Omega.{arith}
use Rattle.exact.specs.Fraction.{Fraction, nat, parts, ◌⊕◌, ◌⊖◌, ◌⊗◌, ◌⊘◌, leq, ◌≼◌, ◌≺◌, ◌≈◌}
use Rattle.exact.proofs.Fraction.Order.{≼_refl, ≼_trans, ≺→≼, ≺-≼-trans, ≼-or-≺, ≺-≈-trans, ≈-refl, ≈-sym, ≈-trans, ≈-of-≡, ≈→≼, ≈-≼-trans, ≼-≈-trans, ≈-by, ≼-by}
use Rattle.exact.proofs.Fraction.Sum.{≼-⊕-right, ⊕-comm, ⊕-mono-right, ⊕-pos, ⊕-assoc, ⊕-cong, ⊖-≼, ⊖-nonneg}
use Rattle.exact.proofs.Fraction.Product.{⊗-one, ⊗-pos, one-⊗, ⊗-cong, ⊗-assoc, ⊗-comm, ⊕-⊗, ⊗-⊕, ⊗-mono-right}
use Rattle.exact.proofs.Fraction.Quotient.{≼-⊘, ⊘-≼, ⊘-nonneg}
use Rattle.exact.proofs.Fraction.Parts.{nat-≼, nat-pos, nat-nonneg, parts-nonneg, parts-pos, nat-⊗}
use lib.Dec.{lit<}
use lib.Pow.{pow_pos, pow-add}
use Rattle.doubles.specs.Ratio.{ratio_exponent, IsLargest}
use Rattle.doubles.proofs.Largest.{ratio_largest}
use Rattle.bracket.specs.Span.{Each, Sign, over, whole, point, ◌∈◌}
use Rattle.bracket.proofs.Corners.{over-ordered}
use Rattle.bracket.proofs.Within.{point-ordered, in_point}
use Rattle.sheet.specs.Number.{bias, value}
use Rattle.bracket.specs.declared.Bracket.{Bracket}
use Rattle.bracket.specs.Rules.{ends, given, plus, times}
use Rattle.bracket.proofs.Inclusion.{plus-in, minus-in, times-in, divided-in, given_in, given_ordered}
use Rattle.bracket.proofs.Kept.{rounded-sign}
use Rattle.measure.proofs.Lift.{over-both}
use Rattle.series.proofs.Units.{unit-part}
use Rattle.series.proofs.Short.{unit, bias-room, low-unit, low-one}
use Rattle.series.specs.Logarithm.{ratio_r, ratio_z, ln_scaled, ln_ratio}
use Rattle.series.specs.Level.{r_at, z_at, ln_scaled_at, ln_ratio_at}
use Rattle.series.proofs.LogarithmCovers.{ln_series-in, ln_two-in}

-- ---- the ratio: r lies from 1 to 2, so z from 0 to 1/3
-- 1/3 of r and 2/3 of r are r, and 2/3 of 2 is 4/3
third : Fraction
third = parts false 1 3

thirds : third ⊕ parts false 2 3 ≈ nat 1
unfolding third leq parts nat ◌⊕◌
thirds = ≈-by (third ⊕ parts false 2 3) (nat 1) tt

four-thirds : parts false 2 3 ⊗ nat 2 ≼ third ⊗ nat 1 ⊕ nat 1
unfolding third leq parts nat ◌⊕◌ ◌⊗◌
four-thirds = ≼-by (parts false 2 3 ⊗ nat 2) (third ⊗ nat 1 ⊕ nat 1) tt

third_of : {r : Fraction} → r ≼ nat 2 → r ⊖ nat 1 ≼ third ⊗ (r ⊕ nat 1)
third_of {r} h =
    ⊖-≼ (nat 1)
    (≈-≼-trans (≈-trans (≈-sym (one-⊗ r)) (≈-trans (⊗-cong (≈-sym thirds) (≈-refl r)) (⊕-⊗ third (parts false 2 3) r)))
    (≼-≈-trans (⊕-mono-right (third ⊗ r) (≼_trans (⊗-mono-right (parts-nonneg 2 3) h) four-thirds))
    (≈-trans (≈-sym (⊕-assoc (third ⊗ r) (third ⊗ nat 1) (nat 1))) (⊕-cong (≈-sym (⊗-⊕ third r (nat 1))) (≈-refl (nat 1))))))

pub z_at-nonneg : {r : Fraction} → nat 1 ≼ r → nat 0 ≼ z_at r
unfolding z_at
z_at-nonneg {r} h = ⊘-nonneg (r ⊕ nat 1) (⊖-nonneg h)

pub z_at-most : {r : Fraction} → nat 1 ≼ r → r ≼ nat 2 → z_at r ≼ parts false 1 3
unfolding z_at third
z_at-most {r} g h = ⊘-≼ (⊕-pos (≺-≼-trans (nat-pos (omega arith)) g) (nat-nonneg 1)) (third_of h)

module _ {liquid vapour : Fraction} {k : ℕ} (v : nat 0 ≺ vapour) (l : IsLargest liquid vapour k) where
  pub divisor-pos : nat 0 ≺ vapour ⊗ nat (2 ^ k)
  divisor-pos = ⊗-pos v (nat-pos (pow_pos k))

  next-above : liquid ≼ vapour ⊗ nat (2 ^ (k + 1))
  next-above =
      elim (≼-or-≺ liquid (vapour ⊗ nat (2 ^ (k + 1)))) [
        | inl h ↦ h
        | inr h ↦ absurd (let n : k + 1 ≤ k = l.largest (k + 1) (≺→≼ h) in omega arith)
      ]

  divisor-twice : vapour ⊗ nat (2 ^ (k + 1)) ≈ nat 2 ⊗ (vapour ⊗ nat (2 ^ k))
  divisor-twice =
      let two : nat (2 ^ (k + 1)) ≈ nat (2 ^ k) ⊗ nat 2 = ≈-trans (≈-of-≡ (ap nat (pow-add 2 k 1))) (nat-⊗ (2 ^ k) 2) in
      ≈-trans (⊗-cong (≈-refl vapour) two)
      (≈-trans (≈-sym (⊗-assoc vapour (nat (2 ^ k)) (nat 2))) (⊗-comm (vapour ⊗ nat (2 ^ k)) (nat 2)))

  pub liquid_most : liquid ≼ nat 2 ⊗ (vapour ⊗ nat (2 ^ k))
  liquid_most = ≼_trans next-above (≈→≼ divisor-twice)

  pub r_at-least : nat 1 ≼ r_at liquid vapour k
  unfolding r_at
  r_at-least = ≼-⊘ divisor-pos (≼_trans (≈→≼ (one-⊗ (vapour ⊗ nat (2 ^ k)))) l.within)

  pub r_at-most : r_at liquid vapour k ≼ nat 2
  unfolding r_at
  r_at-most = ⊘-≼ divisor-pos (≼_trans (next-above) (≈→≼ divisor-twice))

-- ---- the brackets of r and z
-- 1/1024 is a power of two
thin_unit : parts false 1 1024 ≈ unit (bias - 10)
thin_unit = ≈-sym (unit-part 10 (omega (arith, bias-room)))

-- vapour times 2^k
divisor : ℕ → Fraction → ℕ → Bracket
divisor w vapour k = times w (ends (given w vapour)) (whole (2 ^ k))

module _ (v k : ℕ) {vapour : Fraction} (g : parts false 1 1024 ≼ vapour) where
  divisor-least : unit (bias - 10) ≼ value (divisor (suc v) vapour k).lo
  unfolding divisor
  divisor-least =
      let G = given (suc v) vapour in
      let low : unit (bias - 10) ≼ value G.lo = low-unit v (bias - 10) (point vapour) (≈-≼-trans (≈-sym thin_unit) g) in
      low-unit v (bias - 10) (over ◌⊗◌ (ends G) (whole (2 ^ k)))
      (over-both {P = λ (x : Fraction). unit (bias - 10) ≼ x} {Q = λ (y : Fraction). nat 1 ≼ y} {R = λ (x : Fraction). unit (bias - 10) ≼ x} ◌⊗◌
      (λ x y a b. ≼_trans a (≈-≼-trans (≈-sym (⊗-one x)) (⊗-mono-right (≼_trans unit-nonneg a) b)))
      (record { low = low; high = ≼_trans low (given_ordered v vapour).order }) (record { low = nat-≼ (pow_pos k); high = nat-≼ (pow_pos k) })).low
    where
      unit-nonneg : nat 0 ≼ unit (bias - 10)
      unit-nonneg = ≼-≈-trans (parts-nonneg 1 1024) thin_unit

  divisor-above : nat 0 ≺ value (divisor (suc v) vapour k).lo
  divisor-above = ≺-≼-trans (≺-≈-trans (parts-pos 1 1024 (lit< tt)) thin_unit) divisor-least

  pub divisor-positive : nat 0 ≺ value (times (suc v) (ends (given (suc v) vapour)) (whole (2 ^ k))).lo
  unfolding divisor
  divisor-positive = divisor-above

  pub ratio_r-in : (liquid : Fraction) → r_at liquid vapour k ∈ ends (ratio_r (suc v) liquid vapour k)
  unfolding ratio_r r_at divisor
  ratio_r-in liquid =
      divided-in v divisor-above (given_in v liquid) (times-in v (given_in v vapour) (in_point (nat (2 ^ k))))

  pub ratio_r-above : {liquid : Fraction} → nat 0 ≼ liquid → Each (Sign false) (ends (ratio_r (suc v) liquid vapour k))
  unfolding ratio_r
  ratio_r-above {liquid} h =
      let L = ends (given (suc v) liquid) in
      let D = ends (times (suc v) (ends (given (suc v) vapour)) (whole (2 ^ k))) in
      rounded-sign false v (over ◌⊘◌ L D) (over-ordered ◌⊘◌ L D)
      (over-both {P = Sign false} {Q = λ (y : Fraction). Unit {0}} {R = Sign false} ◌⊘◌ (λ x y a b. ⊘-nonneg y a)
      (rounded-sign false v (point liquid) (point-ordered liquid) (record { low = h; high = h })) (record { low = tt; high = tt }))

-- r + 1 is at least 1
pub plus-one_least : (v : ℕ) (R : Bracket) → Each (Sign false) (ends R) → nat 1 ≼ value (plus (suc v) (ends R) (whole 1)).lo
plus-one_least v R h =
    low-one v (over ◌⊕◌ (ends R) (whole 1))
    (over-both {P = Sign false} {Q = λ (y : Fraction). nat 1 ≼ y} {R = λ (x : Fraction). nat 1 ≼ x} ◌⊕◌
    (λ x y a b. ≼_trans b (≼-≈-trans (≼-⊕-right a) (⊕-comm y x))) h (record { low = ≼_refl (nat 1); high = ≼_refl (nat 1) })).low

pub ratio_z-in : (v : ℕ) (R : Bracket) {r : Fraction} → Each (Sign false) (ends R) → r ∈ ends R → z_at r ∈ ends (ratio_z (suc v) R)
unfolding ratio_z z_at
ratio_z-in v R p h =
    divided-in v (≺-≼-trans (nat-pos (lit< tt)) (plus-one_least v R p)) (minus-in v h (in_point (nat 1))) (plus-in v h (in_point (nat 1)))

-- ---- the logarithm of accepted densities at every level from 20 on
pub ln_scaled-in : (v N k : ℕ) {liquid vapour : Fraction} → 20 ≤ N → parts false 1 1024 ≼ vapour → IsLargest liquid vapour k → nat 0 ≼ liquid
    → ln_scaled_at N liquid vapour k ∈ ends (ln_scaled (suc v) liquid vapour k)
unfolding ln_scaled ln_scaled_at
ln_scaled-in v N k {liquid} {vapour} n g l p =
    let pos : nat 0 ≺ vapour = ≺-≼-trans (parts-pos 1 1024 (lit< tt)) g in
    let R = ratio_r (suc v) liquid vapour k in
    let r = r_at-least pos l in
    plus-in v (times-in v (in_point (nat k)) (ln_two-in v N n))
    (ln_series-in v (ratio_z (suc v) R) (ratio_z-in v R (ratio_r-above v k g p) (ratio_r-in v k g liquid)) N n (z_at-nonneg r) (z_at-most r (r_at-most pos l)))

pub ln_ratio-in : (v N : ℕ) {liquid vapour : Fraction} → 20 ≤ N → parts false 1 1024 ≼ vapour → liquid ≼ nat 2576 → vapour ≼ liquid
    → ln_ratio_at N liquid vapour ∈ ends (ln_ratio (suc v) liquid vapour)
unfolding ln_ratio ln_ratio_at
ln_ratio-in v N {liquid} {vapour} n g d h =
    ln_scaled-in v N (ratio_exponent liquid vapour) n g (ratio_largest liquid vapour g d h) (≼_trans (parts-nonneg 1 1024) (≼_trans g h))
