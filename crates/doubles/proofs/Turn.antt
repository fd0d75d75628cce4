-- The turns of the loop that doubles the vapour's density: how it starts, what a turn keeps, and what holds where it ends. Assumes nothing.
use Prim.Native.Nat.{ℕ, zero, suc, ◌+◌, ◌*◌, ◌^◌, ◌≤◌}
use mathlib.Core.Path.{◌≡◌, sym, ap, ◌∙◌, subst}
use mathlib.Core.Bool.{true, false}
use native.Mathlib.Omega.{arith}
use native.Mathlib.Nat.{zero-mul}
use lib.Dec.{T, lit<, lt→ltb}
use lib.Pow.{pow-add}
use lib.Ieee.{Float, nan, inf, fin, up, down, binary64, mul, le, fits}
use lib.Ieee.Fits.{mul-fits}
use lib.Ieee.Positive.{positive, positive-finite}
use lib.Ieee.Scale.{finite}
use Rattle.exact.specs.Fraction.{nat, parts, ◌⊗◌, ◌≼◌, ◌≺◌, ◌≈◌, leq}
use Rattle.exact.proofs.Fraction.Order.{≈-refl, ≈-sym, ≈-trans, ≈-of-≡, ≈→≼, ≈→≽, ≼_trans, ≼-not-≺, ≺-≼-trans, ≺-≈-trans, ≼-by, leq-true, leq-false}
use Rattle.exact.proofs.Fraction.Parts.{nat-⊗, parts-zero, parts-pos, parts-nonneg, parts-nonpos}
use Rattle.exact.proofs.Fraction.Product.{⊗-assoc, ⊗-cong, ⊗-cong-left, ⊗-one}
use Rattle.kind.specs.Kind.{widest}
use Rattle.doubles.specs.Double.{exact_of}
use Rattle.doubles.specs.Range.{accepted_density}
use Rattle.doubles.specs.Ratio.{ratio_exponent}
use Rattle.doubles.proofs.Compare.{le_exact}
use Rattle.doubles.proofs.Within.{Inside}
use Rattle.doubles.proofs.Limits.{density_inside}
use Rattle.doubles.proofs.Doubling.{two, doubling}
use Rattle.doubles.proofs.Largest.{largest_unique, largest_of_next, few-doublings, ratio_largest}

pub positive_of_exact : (x : Float) → nat 0 ≺ exact_of x → T (positive x)
unfolding exact_of
positive_of_exact nan h = absurd (≼-not-≺ (≈→≼ (≈-refl (nat 0))) h)
positive_of_exact (inf s) h = absurd (≼-not-≺ (≈→≼ (≈-refl (nat 0))) h)
positive_of_exact (fin true m e) h = absurd (≼-not-≺ (parts-nonpos (m * up e) (down e)) h)
positive_of_exact (fin false zero e) h = absurd (≼-not-≺ (≈→≼ (subst (λ (n : ℕ). parts false n (down e) ≈ nat 0) (sym (zero-mul (up e))) (parts-zero false (down e)))) h)
positive_of_exact (fin false (suc m) e) h = lt→ltb 0 (suc m) (omega arith)

-- v is the vapour's density doubled k times, and not above the liquid's
pub record Held (liquid vapour v : Float) (k : ℕ) : Type 0 where
  pub holds : T (fits binary64 v)
  pub above : T (positive v)
  pub value : exact_of v ≈ exact_of vapour ⊗ nat (2 ^ k)
  pub below : exact_of v ≼ exact_of liquid
  pub few : k ≤ 21

module _ (liquid vapour : Float) (l : T (accepted_density widest liquid)) (g : T (accepted_density widest vapour)) where
  L : Inside (parts false 1 1024) (nat 2576) liquid
  L = density_inside widest liquid l

  G : Inside (parts false 1 1024) (nat 2576) vapour
  G = density_inside widest vapour g

  pub first : T (fits binary64 vapour) → T (leq (exact_of vapour) (exact_of liquid)) → Held liquid vapour vapour 0
  first h k =
      record {
        holds = h;
        above = positive_of_exact vapour (≺-≼-trans (parts-pos 1 1024 (lit< tt)) G.above);
        value = ≈-sym (⊗-one (exact_of vapour));
        below = ≼-by (exact_of vapour) (exact_of liquid) k;
        few = omega arith;
      }

  twice : (v : Float) (k : ℕ) → Held liquid vapour v k → T (positive (mul binary64 v two)) × (exact_of (mul binary64 v two) ≈ exact_of v ⊗ nat 2)
  twice v k h = doubling v h.holds h.above (≼_trans h.below L.below)

  step : (v : Float) (k : ℕ) → Held liquid vapour v k → exact_of (mul binary64 v two) ≈ exact_of vapour ⊗ nat (2 ^ (k + 1))
  step v k h =
      ≈-trans (twice v k h).1
      (≈-trans (⊗-cong-left (nat 2) h.value)
      (≈-trans (⊗-assoc (exact_of vapour) (nat (2 ^ k)) (nat 2))
      (⊗-cong (≈-refl (exact_of vapour)) (≈-trans (≈-sym (nat-⊗ (2 ^ k) 2)) (≈-of-≡ (ap nat (sym (pow-add 2 k 1))))))))

  finite_twice : (v : Float) (k : ℕ) → Held liquid vapour v k → T (finite (mul binary64 v two))
  finite_twice v k h = positive-finite (mul binary64 v two) (twice v k h).0

  pub next : (v : Float) (k : ℕ) → Held liquid vapour v k → le (mul binary64 v two) liquid ≡ true → Held liquid vapour (mul binary64 v two) (k + 1)
  next v k h t =
      let w = mul binary64 v two in
      let small : exact_of w ≼ exact_of liquid = leq-true (exact_of w) (exact_of liquid) (sym (le_exact w liquid (finite_twice v k h) L.finite) ∙ t) in
      record {
        holds = mul-fits binary64 v two;
        above = (twice v k h).0;
        value = step v k h;
        below = small;
        few = few-doublings (exact_of liquid) (exact_of vapour) (k + 1) G.above L.below (≼_trans (≈→≽ (step v k h)) small);
      }

  pub last : (v : Float) (k : ℕ) → Held liquid vapour v k → T (leq (exact_of vapour) (exact_of liquid)) → le (mul binary64 v two) liquid ≡ false
      → k ≡ ratio_exponent (exact_of liquid) (exact_of vapour)
  last v k h o t =
      let w = mul binary64 v two in
      let large : exact_of liquid ≺ exact_of w = leq-false (exact_of w) (exact_of liquid) (sym (le_exact w liquid (finite_twice v k h) L.finite) ∙ t) in
      largest_unique
      (largest_of_next (≼_trans (parts-nonneg 1 1024) G.above) (≼_trans (≈→≽ h.value) h.below) (≺-≈-trans large (step v k h)))
      (ratio_largest (exact_of liquid) (exact_of vapour) G.above L.below (≼-by (exact_of vapour) (exact_of liquid) o))
