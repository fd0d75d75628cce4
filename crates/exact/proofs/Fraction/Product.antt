-- The product of exact fractions: the laws of a commutative ring as `◌≈◌`, and the order through a factor of known sign.
-- Assumes nothing.
use Rattle.std.specs.Prelude.{ℕ, ◌+◌, ◌*◌, ◌≤◌, ◌<◌, ◌≡◌}
use Rattle.std.proofs.Common.{subst, inl, inr, arith, mul-le-mul_right, mul-le-mul_left, mul-lt-mul_of_pos_right}
use Rattle.std.proofs.Math.Nat.{le_dest}
use Rattle.exact.specs.Fraction.{Fraction, nat, negate, ◌⊕◌, ◌⊖◌, ◌⊗◌, ◌≼◌, ◌≺◌, ◌≈◌}
use Rattle.exact.proofs.Fraction.Order.{≼_trans, ≼-≺-trans, ≺→≼, ≼-antisym, ≈→≼, ≈→≽, ≈-refl, ≈-sym, ≈-trans, ≼-resp, ≺-resp, ≼-or-≺, ≼-not-≺}
use Rattle.exact.proofs.Fraction.Sum.{⊖-cong, ⊖-⊖-⊖}

pub ⊗-comm : (x y : Fraction) → x ⊗ y ≈ y ⊗ x
unfolding ◌⊗◌
⊗-comm x y = omega arith

pub ⊗-assoc : (x y z : Fraction) → (x ⊗ y) ⊗ z ≈ x ⊗ (y ⊗ z)
unfolding ◌⊗◌
⊗-assoc x y z = omega arith

pub ⊗-swap : (x y z : Fraction) → x ⊗ (y ⊗ z) ≈ y ⊗ (x ⊗ z)
unfolding ◌⊗◌
⊗-swap x y z = omega arith

pub ⊗-one : (x : Fraction) → x ⊗ nat 1 ≈ x
unfolding ◌⊗◌ nat
⊗-one x = omega arith

pub one-⊗ : (x : Fraction) → nat 1 ⊗ x ≈ x
unfolding ◌⊗◌ nat
one-⊗ x = omega arith

pub ⊗-zero : (x : Fraction) → x ⊗ nat 0 ≈ nat 0
unfolding ◌⊗◌ nat
⊗-zero x = omega arith

pub zero_⊗ : (x : Fraction) → nat 0 ⊗ x ≈ nat 0
unfolding ◌⊗◌ nat
zero_⊗ x = omega arith

pub negate-⊗ : (x y : Fraction) → negate x ⊗ y ≈ negate (x ⊗ y)
unfolding ◌⊗◌ negate
negate-⊗ x y = omega arith

pub ⊗-negate : (x y : Fraction) → x ⊗ negate y ≈ negate (x ⊗ y)
unfolding ◌⊗◌ negate
⊗-negate x y = omega arith

-- two spellings with one value, part by part
cross : {x y : Fraction} → x.p * y.d ≡ y.p * x.d → x.n * y.d ≡ y.n * x.d → x ≈ y
cross e f = omega arith

pub ⊗-⊕ : (x y z : Fraction) → x ⊗ (y ⊕ z) ≈ (x ⊗ y) ⊕ (x ⊗ z)
unfolding ◌⊗◌ ◌⊕◌
⊗-⊕ x y z = cross (omega arith) (omega arith)

pub ⊕-⊗ : (x y z : Fraction) → (x ⊕ y) ⊗ z ≈ (x ⊗ z) ⊕ (y ⊗ z)
unfolding ◌⊗◌ ◌⊕◌
⊕-⊗ x y z = cross (omega arith) (omega arith)

pub ⊗-⊖ : (x y z : Fraction) → x ⊗ (y ⊖ z) ≈ (x ⊗ y) ⊖ (x ⊗ z)
unfolding ◌⊗◌ ◌⊖◌ ◌⊕◌ negate
⊗-⊖ x y z = cross (omega arith) (omega arith)

pub ⊖-⊗ : (x y z : Fraction) → (x ⊖ y) ⊗ z ≈ (x ⊗ z) ⊖ (y ⊗ z)
unfolding ◌⊗◌ ◌⊖◌ ◌⊕◌ negate
⊖-⊗ x y z = cross (omega arith) (omega arith)

-- what a product of two differences at or above zero comes to
rearrange : {a b c e : ℕ} → a ≤ b → c ≤ e → a * e + b * c ≤ a * c + b * e
rearrange {a} {b} {c} {e} h k =
    let (t, q) = le_dest h in
    subst (λ (v : ℕ). a * e + v * c ≤ a * c + v * e) q (omega (arith, mul-le-mul_left t k))

rearrange-< : {a b c e : ℕ} → a < b → c < e → a * e + b * c < a * c + b * e
rearrange-< {a} {b} {c} {e} h k = omega (arith, rearrange h k)

-- the order through a factor of known sign
pub ⊗-mono-left : {x y z : Fraction} → nat 0 ≼ z → x ≼ y → x ⊗ z ≼ y ⊗ z
unfolding ◌⊗◌ nat
⊗-mono-left {x} {y} {z} s h =
    let q : z.n ≤ z.p = omega arith in
    omega (arith, mul-le-mul_right z.d (rearrange h.le q))

pub ⊗-anti-left : {x y z : Fraction} → z ≼ nat 0 → x ≼ y → y ⊗ z ≼ x ⊗ z
unfolding ◌⊗◌ nat
⊗-anti-left {x} {y} {z} s h =
    let q : z.p ≤ z.n = omega arith in
    omega (arith, mul-le-mul_right z.d (rearrange h.le q))

pub ⊗-mono-left-≺ : {x y z : Fraction} → nat 0 ≺ z → x ≺ y → x ⊗ z ≺ y ⊗ z
unfolding ◌⊗◌ nat
⊗-mono-left-≺ {x} {y} {z} s h =
    let q : z.n < z.p = omega arith in
    omega (arith, mul-lt-mul_of_pos_right (rearrange-< h.lt q) z.pos)

pub ⊗-mono-right : {x y z : Fraction} → nat 0 ≼ z → x ≼ y → z ⊗ x ≼ z ⊗ y
⊗-mono-right {x} {y} {z} s h = ≼-resp (⊗-comm x z) (⊗-comm y z) (⊗-mono-left s h)

pub ⊗-anti-right : {x y z : Fraction} → z ≼ nat 0 → x ≼ y → z ⊗ y ≼ z ⊗ x
⊗-anti-right {x} {y} {z} s h = ≼-resp (⊗-comm y z) (⊗-comm x z) (⊗-anti-left s h)

pub ⊗-mono-right-≺ : {x y z : Fraction} → nat 0 ≺ z → x ≺ y → z ⊗ x ≺ z ⊗ y
⊗-mono-right-≺ {x} {y} {z} s h = ≺-resp (⊗-comm x z) (⊗-comm y z) (⊗-mono-left-≺ s h)

-- scaling by what is above zero keeps the order both ways
pub ⊗-cancel-right : {x y z : Fraction} → nat 0 ≺ z → x ⊗ z ≼ y ⊗ z → x ≼ y
⊗-cancel-right {x} {y} {z} s h = elim (≼-or-≺ x y) [ inl k ↦ k | inr k ↦ absurd (≼-not-≺ h (⊗-mono-left-≺ s k)) ]

pub ⊗-cancel-right-≺ : {x y z : Fraction} → nat 0 ≼ z → x ⊗ z ≺ y ⊗ z → x ≺ y
⊗-cancel-right-≺ {x} {y} {z} s h = elim (≼-or-≺ y x) [ inl k ↦ absurd (≼-not-≺ (⊗-mono-left s k) h) | inr k ↦ k ]

pub ⊗-nonneg : {x y : Fraction} → nat 0 ≼ x → nat 0 ≼ y → nat 0 ≼ x ⊗ y
⊗-nonneg {x} {y} h k = ≼_trans (≈→≽ (zero_⊗ y)) (⊗-mono-left k h)

pub ⊗-pos : {x y : Fraction} → nat 0 ≺ x → nat 0 ≺ y → nat 0 ≺ x ⊗ y
⊗-pos {x} {y} h k = ≼-≺-trans (≈→≽ (zero_⊗ y)) (⊗-mono-left-≺ k h)

pub ⊗-mono : {x u y v : Fraction} → nat 0 ≼ x → nat 0 ≼ y → x ≼ u → y ≼ v → x ⊗ y ≼ u ⊗ v
⊗-mono sx sy h k = ≼_trans (⊗-mono-left sy h) (⊗-mono-right (≼_trans sx h) k)

-- the product respects equality
pub ⊗-cong-left : {x y : Fraction} (z : Fraction) → x ≈ y → x ⊗ z ≈ y ⊗ z
⊗-cong-left {x} {y} z e =
    elim (≼-or-≺ (nat 0) z) [
      | inl s ↦ ≼-antisym (⊗-mono-left s (≈→≼ e)) (⊗-mono-left s (≈→≽ e))
      | inr s ↦ ≼-antisym (⊗-anti-left (≺→≼ s) (≈→≽ e)) (⊗-anti-left (≺→≼ s) (≈→≼ e))
    ]

pub ⊗-cong : {x u y v : Fraction} → x ≈ u → y ≈ v → x ⊗ y ≈ u ⊗ v
⊗-cong {x} {u} {y} {v} e f =
    ≈-trans (⊗-cong-left y e) (≈-trans (⊗-comm u y) (≈-trans (⊗-cong-left u f) (⊗-comm v u)))

-- a square is at or above zero
pub ⊗-square : (x : Fraction) → nat 0 ≼ x ⊗ x
⊗-square x =
    elim (≼-or-≺ (nat 0) x) [
      | inl s ↦ ⊗-nonneg s s
      | inr s ↦ ≼_trans (≈→≽ (zero_⊗ x)) (⊗-anti-left (≺→≼ s) (≺→≼ s))
    ]

-- the two middle factors of four change places
pub ⊗-middle : (a b x y : Fraction) → (a ⊗ b) ⊗ (x ⊗ y) ≈ (a ⊗ x) ⊗ (b ⊗ y)
⊗-middle a b x y =
    ≈-trans (⊗-assoc a b (x ⊗ y)) (≈-trans (⊗-cong (≈-refl a) (⊗-swap b x y)) (≈-sym (⊗-assoc a x (b ⊗ y))))

-- a product of two differences
pub ⊖-⊗-⊖ : (a b c e : Fraction) → (a ⊖ b) ⊗ (c ⊖ e) ≈ (a ⊗ c ⊕ b ⊗ e) ⊖ (a ⊗ e ⊕ b ⊗ c)
⊖-⊗-⊖ a b c e =
    ≈-trans (⊖-⊗ a b (c ⊖ e)) (≈-trans (⊖-cong (⊗-⊖ a c e) (⊗-⊖ b c e)) (⊖-⊖-⊖ (a ⊗ c) (a ⊗ e) (b ⊗ c) (b ⊗ e)))
