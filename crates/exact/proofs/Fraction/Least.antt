-- The least and the greatest of two exact fractions: which of the two each is, that they bound both, and that what holds of both
-- holds of either. Assumes nothing.
use Rattle.std.specs.Prelude.{◌≡◌}
use Rattle.std.proofs.Math.Path.{subst⁻¹}
use Rattle.std.proofs.Common.{inl, inr}
use Rattle.exact.specs.Fraction.{Fraction, least, greatest, ◌≼◌, ◌≺◌, ◌≈◌}
use Rattle.exact.proofs.Fraction.Order.{≼_refl, ≼_trans, ≺→≼, ≼-or-≺, ≼-antisym, ≈→≼, ≈→≽, ≼-leq, ≺-leq}

-- which of the two
pub least_first : {x y : Fraction} → x ≼ y → least x y ≡ x
unfolding least
least_first h = rw (least, ≼-leq h)

pub least-second : {x y : Fraction} → y ≺ x → least x y ≡ y
unfolding least
least-second h = rw (least, ≺-leq h)

pub greatest-second : {x y : Fraction} → x ≼ y → greatest x y ≡ y
unfolding greatest
greatest-second h = rw (greatest, ≼-leq h)

pub greatest-first : {x y : Fraction} → y ≺ x → greatest x y ≡ x
unfolding greatest
greatest-first h = rw (greatest, ≺-leq h)

-- what holds of both
pub least-elim {ℓ} : (P : Fraction → Type ℓ) {x y : Fraction} → P x → P y → P (least x y)
least-elim P {x} {y} h k =
    elim (≼-or-≺ x y) [ inl o ↦ subst⁻¹ P (least_first o) h | inr o ↦ subst⁻¹ P (least-second o) k ]

pub greatest-elim {ℓ} : (P : Fraction → Type ℓ) {x y : Fraction} → P x → P y → P (greatest x y)
greatest-elim P {x} {y} h k =
    elim (≼-or-≺ x y) [ inl o ↦ subst⁻¹ P (greatest-second o) k | inr o ↦ subst⁻¹ P (greatest-first o) h ]

-- they bound both
pub least-left : (x y : Fraction) → least x y ≼ x
least-left x y = elim (≼-or-≺ x y) [ inl o ↦ rw (least_first o) (≼_refl x) | inr o ↦ rw (least-second o) (≺→≼ o) ]

pub least-right : (x y : Fraction) → least x y ≼ y
least-right x y = elim (≼-or-≺ x y) [ inl o ↦ rw (least_first o) o | inr o ↦ rw (least-second o) (≼_refl y) ]

pub greatest-left : (x y : Fraction) → x ≼ greatest x y
greatest-left x y = elim (≼-or-≺ x y) [ inl o ↦ rw (greatest-second o) o | inr o ↦ rw (greatest-first o) (≼_refl x) ]

pub greatest-right : (x y : Fraction) → y ≼ greatest x y
greatest-right x y = elim (≼-or-≺ x y) [ inl o ↦ rw (greatest-second o) (≼_refl y) | inr o ↦ rw (greatest-first o) (≺→≼ o) ]

pub ≼-least : {x y z : Fraction} → z ≼ x → z ≼ y → z ≼ least x y
≼-least {x} {y} {z} h k = least-elim (λ (v : Fraction). z ≼ v) h k

pub greatest-≼ : {x y z : Fraction} → x ≼ z → y ≼ z → greatest x y ≼ z
greatest-≼ {x} {y} {z} h k = greatest-elim (λ (v : Fraction). v ≼ z) h k

pub ≺-least : {x y z : Fraction} → z ≺ x → z ≺ y → z ≺ least x y
≺-least {x} {y} {z} h k = least-elim (λ (v : Fraction). z ≺ v) h k

pub greatest-≺ : {x y z : Fraction} → x ≺ z → y ≺ z → greatest x y ≺ z
greatest-≺ {x} {y} {z} h k = greatest-elim (λ (v : Fraction). v ≺ z) h k

pub least-mono : {x u y v : Fraction} → x ≼ u → y ≼ v → least x y ≼ least u v
least-mono {x} {u} {y} {v} h k = ≼-least (≼_trans (least-left x y) h) (≼_trans (least-right x y) k)

pub greatest-mono : {x u y v : Fraction} → x ≼ u → y ≼ v → greatest x y ≼ greatest u v
greatest-mono {x} {u} {y} {v} h k = greatest-≼ (≼_trans h (greatest-left u v)) (≼_trans k (greatest-right u v))

pub least-cong : {x u y v : Fraction} → x ≈ u → y ≈ v → least x y ≈ least u v
least-cong e f = ≼-antisym (least-mono (≈→≼ e) (≈→≼ f)) (least-mono (≈→≽ e) (≈→≽ f))

pub greatest-cong : {x u y v : Fraction} → x ≈ u → y ≈ v → greatest x y ≈ greatest u v
greatest-cong e f = ≼-antisym (greatest-mono (≈→≼ e) (≈→≼ f)) (greatest-mono (≈→≽ e) (≈→≽ f))
