-- The rule of the density ratio step by step, as the code calls, and what the code's operations are given. Assumes nothing.
use mathlib.Core.Path.{◌≡◌, sym, ap, ap₂, ◌∙◌, subst}
use mathlib.Core.Bool.{false}
use Prim.Native.Nat.{ℕ, suc, ◌^◌, ◌≤◌, ◌<◌}
use native.Mathlib.Omega.{arith}
use lib.Dec.{T, lit≤}
use lib.Ieee.{Float}
use lib.Ieee.Scale.{finite}
use lib.Pow.{pow-lt}
use Rattle.exact.specs.Fraction.{Fraction, nat, parts, ◌≼◌, ◌≺◌}
use Rattle.exact.proofs.Fraction.Order.{≼-by, ≼_trans}
use Rattle.exact.proofs.Fraction.Parts.{parts-nonneg}
use Rattle.sheet.specs.Number.{value}
use Rattle.sheet.specs.Range.{Width}
use Rattle.sheet.proofs.Live.{few-digits}
use Rattle.doubles.specs.Double.{exact_of}
use Rattle.doubles.specs.Ratio.{ratio_exponent, IsLargest}
use Rattle.kind.specs.Kind.{widest}
use Rattle.doubles.proofs.Within.{Inside}
use Rattle.doubles.proofs.Limits.{density_inside}
use Rattle.doubles.proofs.Largest.{ratio_largest, few-doublings}
use Rattle.bracket.specs.declared.Bracket.{Bracket}
use Rattle.bracket.specs.Span.{whole}
use Rattle.bracket.specs.Held.{Held}
use Rattle.bracket.specs.Rules.{ends, given, plus, minus, times, divided}
use Rattle.bracket.proofs.Operands.{given_whole, minus-whole, times-whole}
use Rattle.bracket.proofs.Same.{≃-refl, times-≃, plus-≃}
use Rattle.series.specs.Logarithm.{ln_series, ln_two, ratio_r, ratio_z, ln_scaled, ln_ratio}
use Rattle.series.specs.Pair.{Pair, NearOne}
use Rattle.series.proofs.ExponentialSteps.{held-as}
use Rattle.series.proofs.RatioHeld.{divisor-held, less-held, more-held, more-above}
use Rattle.series.proofs.RatioCovers.{divisor-positive}

-- ---- the densities
module _ {liquid vapour : Float} (p : Pair liquid vapour) where
  liquid_inside : Inside (parts false 1 1024) (nat 2576) liquid
  liquid_inside = density_inside widest liquid p.dense

  vapour_inside : Inside (parts false 1 1024) (nat 2576) vapour
  vapour_inside = density_inside widest vapour p.thin

  pub liquid_finite : T (finite liquid)
  liquid_finite = liquid_inside.finite

  pub vapour_finite : T (finite vapour)
  vapour_finite = vapour_inside.finite

  pub liquid_least : parts false 1 1024 ≼ exact_of liquid
  liquid_least = liquid_inside.above

  pub liquid_most : exact_of liquid ≼ nat 2576
  liquid_most = liquid_inside.below

  pub vapour_least : parts false 1 1024 ≼ exact_of vapour
  vapour_least = vapour_inside.above

  pub vapour_most : exact_of vapour ≼ nat 2576
  vapour_most = vapour_inside.below

  pub liquid_nonneg : nat 0 ≼ exact_of liquid
  liquid_nonneg = ≼_trans (parts-nonneg 1 1024) liquid_least

  pub exponent_largest : IsLargest (exact_of liquid) (exact_of vapour) (ratio_exponent (exact_of liquid) (exact_of vapour))
  exponent_largest = ratio_largest (exact_of liquid) (exact_of vapour) vapour_least liquid_most (≼-by (exact_of vapour) (exact_of liquid) p.order)

  pub exponent_few : ratio_exponent (exact_of liquid) (exact_of vapour) ≤ 21
  exponent_few = few-doublings (exact_of liquid) (exact_of vapour) _ vapour_least liquid_most exponent_largest.within

pub small_power : (k : ℕ) → k ≤ 21 → 2 ^ k < 2 ^ 32
small_power k h = pow-lt {i = k} {j = 32} (omega arith)

-- ---- r: g, w, d and r are what the code's calls give
module _ {v : ℕ} (width : Width v) (liquid vapour : Fraction) (k : ℕ) (few : k ≤ 21) {g w d : Bracket} (a : g ≡ given (suc v) vapour) (b : w ≡ given (suc v) (nat (2 ^ k)))
    (e : d ≡ times (suc v) (ends g) (ends w)) where
  divisor-is : d ≡ times (suc v) (ends (given (suc v) vapour)) (whole (2 ^ k))
  divisor-is =
      e ∙ ap₂ (λ (g w : Bracket). times (suc v) (ends g) (ends w)) a b
      ∙ times-≃ v (≃-refl (ends (given (suc v) vapour))) (given_whole v (2 ^ k) (few-digits width (small_power k few)))

  pub divisor-is_held : parts false 1 1024 ≼ vapour → vapour ≼ nat 2576 → Held v d
  divisor-is_held l h = held-as divisor-is (divisor-held width k few l h)

  pub divisor-is_above : parts false 1 1024 ≼ vapour → nat 0 ≺ value d.lo
  divisor-is_above l = subst (λ (b : Bracket). nat 0 ≺ value b.lo) (sym divisor-is) (divisor-positive v k l)

  pub r_is : {l r : Bracket} → l ≡ given (suc v) liquid → r ≡ divided (suc v) (ends l) (ends d) → r ≡ ratio_r (suc v) liquid vapour k
  unfolding ratio_r
  r_is c f = f ∙ ap₂ (λ (l d : Bracket). divided (suc v) (ends l) (ends d)) c divisor-is

-- ---- z
module _ {v : ℕ} {R one : Bracket} (n : NearOne v R) (i : one ≡ given (suc v) (nat 1)) where
  one-small : 1 < 2 ^ suc v
  one-small = few-digits n.held.lo.width (lit≤ tt)

  less-is : {m : Bracket} → m ≡ minus (suc v) (ends R) (ends one) → m ≡ minus (suc v) (ends R) (whole 1)
  less-is e = e ∙ minus-whole v 1 one-small i (ends R)

  more-is : {m : Bracket} → m ≡ plus (suc v) (ends R) (ends one) → m ≡ plus (suc v) (ends R) (whole 1)
  more-is e =
      e ∙ ap (λ (o : Bracket). plus (suc v) (ends R) (ends o)) i ∙ plus-≃ v (≃-refl (ends R)) (given_whole v 1 one-small)

  pub less-is_held : {m : Bracket} → m ≡ minus (suc v) (ends R) (ends one) → Held v m
  less-is_held e = held-as (less-is e) (less-held n)

  pub more-is_held : {m : Bracket} → m ≡ plus (suc v) (ends R) (ends one) → Held v m
  more-is_held e = held-as (more-is e) (more-held n)

  pub more-is_above : {m : Bracket} → m ≡ plus (suc v) (ends R) (ends one) → nat 0 ≺ value m.lo
  more-is_above e = subst (λ (b : Bracket). nat 0 ≺ value b.lo) (sym (more-is e)) (more-above n)

  pub z_is : {a b z : Bracket} → a ≡ minus (suc v) (ends R) (ends one) → b ≡ plus (suc v) (ends R) (ends one) → z ≡ divided (suc v) (ends a) (ends b) → z ≡ ratio_z (suc v) R
  unfolding ratio_z
  z_is p q e = e ∙ ap₂ (λ (a b : Bracket). divided (suc v) (ends a) (ends b)) (less-is p) (more-is q)

-- ---- the answer
pub ln_r_is : (w : ℕ) (liquid vapour : Fraction) (k : ℕ) {r z l : Bracket} → r ≡ ratio_r w liquid vapour k → z ≡ ratio_z w r → l ≡ ln_series w z
    → l ≡ ln_series w (ratio_z w (ratio_r w liquid vapour k))
ln_r_is w liquid vapour k a b e = e ∙ ap (ln_series w) (b ∙ ap (ratio_z w) a)

pub multiple_is : {v : ℕ} → Width v → (k : ℕ) {n t m : Bracket} → k ≤ 21 → n ≡ given (suc v) (nat k) → t ≡ ln_two (suc v) → m ≡ times (suc v) (ends n) (ends t)
    → m ≡ times (suc v) (whole k) (ends (ln_two (suc v)))
multiple_is {v} w k {n} h a b e =
    e ∙ ap (λ (t : Bracket). times (suc v) (ends n) (ends t)) b ∙ times-whole v k (few-digits w (omega arith)) a (ends (ln_two (suc v)))

pub ln_is : (w : ℕ) (liquid vapour : Fraction) {m l r : Bracket} → m ≡ times w (whole (ratio_exponent liquid vapour)) (ends (ln_two w))
    → l ≡ ln_series w (ratio_z w (ratio_r w liquid vapour (ratio_exponent liquid vapour))) → r ≡ plus w (ends m) (ends l) → r ≡ ln_ratio w liquid vapour
unfolding ln_ratio ln_scaled
ln_is w liquid vapour a b e = e ∙ ap₂ (λ (m l : Bracket). plus w (ends m) (ends l)) a b
