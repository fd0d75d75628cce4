-- Sum, difference and negation of exact fractions: the laws of a commutative group as `◌≈◌`, and how the order goes through them.
-- Assumes nothing.
use Rattle.std.specs.Prelude.{◌*◌}
use Rattle.std.proofs.Common.{arith, mul-le-mul_right, mul-lt-mul_of_pos_right, mul-pos}
use Rattle.std.proofs.Math.Nat.{le_of_mul-le-mul_left, lt_of_mul-lt-mul_left}
use Rattle.exact.specs.Fraction.{Fraction, nat, negate, ◌⊕◌, ◌⊖◌, ◌≼◌, ◌≺◌, ◌≈◌}
use Rattle.exact.proofs.Fraction.Order.{≼_trans, ≺-≼-trans, ≼-≺-trans, ≼-antisym, ≈→≼, ≈→≽, ≈-refl, ≈-sym, ≈-trans, ≼-resp, ≺-resp}

pub ⊕-comm : (x y : Fraction) → x ⊕ y ≈ y ⊕ x
unfolding ◌⊕◌
⊕-comm x y = omega arith

pub ⊕-assoc : (x y z : Fraction) → (x ⊕ y) ⊕ z ≈ x ⊕ (y ⊕ z)
unfolding ◌⊕◌
⊕-assoc x y z = omega arith

pub ⊕-swap : (x y z : Fraction) → x ⊕ (y ⊕ z) ≈ y ⊕ (x ⊕ z)
unfolding ◌⊕◌
⊕-swap x y z = omega arith

pub ⊕-zero : (x : Fraction) → x ⊕ nat 0 ≈ x
unfolding ◌⊕◌ nat
⊕-zero x = omega arith

pub zero_⊕ : (x : Fraction) → nat 0 ⊕ x ≈ x
unfolding ◌⊕◌ nat
zero_⊕ x = omega arith

pub ⊕-negate : (x : Fraction) → x ⊕ negate x ≈ nat 0
unfolding ◌⊕◌ nat negate
⊕-negate x = omega arith

pub ⊖-is : (x y : Fraction) → x ⊖ y ≈ x ⊕ negate y
unfolding ◌⊖◌
⊖-is x y = ≈-refl (x ⊕ negate y)

pub ⊖-self : (x : Fraction) → x ⊖ x ≈ nat 0
unfolding ◌⊖◌
⊖-self x = ⊕-negate x

pub ⊖-zero : (x : Fraction) → x ⊖ nat 0 ≈ x
unfolding ◌⊖◌ ◌⊕◌ nat negate
⊖-zero x = omega arith

pub negate-negate : (x : Fraction) → negate (negate x) ≈ x
unfolding negate
negate-negate x = omega arith

pub negate-⊕ : (x y : Fraction) → negate (x ⊕ y) ≈ negate x ⊕ negate y
unfolding ◌⊕◌ negate
negate-⊕ x y = omega arith

pub negate-⊖ : (x y : Fraction) → negate (x ⊖ y) ≈ y ⊖ x
unfolding ◌⊖◌ ◌⊕◌ negate
negate-⊖ x y = omega arith

pub negate_zero : negate (nat 0) ≈ nat 0
unfolding negate nat
negate_zero = omega arith

-- the order through a sum
pub ⊕-mono-left : {x y : Fraction} (z : Fraction) → x ≼ y → x ⊕ z ≼ y ⊕ z
unfolding ◌⊕◌
⊕-mono-left {x} {y} z h = omega (arith, mul-le-mul_right (z.d * z.d) h.le)

pub ⊕-mono-right : {x y : Fraction} (z : Fraction) → x ≼ y → z ⊕ x ≼ z ⊕ y
⊕-mono-right {x} {y} z h = ≼-resp (⊕-comm x z) (⊕-comm y z) (⊕-mono-left z h)

pub ⊕-mono : {x u y v : Fraction} → x ≼ u → y ≼ v → x ⊕ y ≼ u ⊕ v
⊕-mono {x} {u} {y} {v} h k = ≼_trans (⊕-mono-left y h) (⊕-mono-right u k)

pub ⊕-mono-left-≺ : {x y : Fraction} (z : Fraction) → x ≺ y → x ⊕ z ≺ y ⊕ z
unfolding ◌⊕◌
⊕-mono-left-≺ {x} {y} z h = omega (arith, mul-lt-mul_of_pos_right h.lt (mul-pos z.pos z.pos))

pub ⊕-mono-right-≺ : {x y : Fraction} (z : Fraction) → x ≺ y → z ⊕ x ≺ z ⊕ y
⊕-mono-right-≺ {x} {y} z h = ≺-resp (⊕-comm x z) (⊕-comm y z) (⊕-mono-left-≺ z h)

pub ⊕-mono-≺-≼ : {x u y v : Fraction} → x ≺ u → y ≼ v → x ⊕ y ≺ u ⊕ v
⊕-mono-≺-≼ {x} {u} {y} {v} h k = ≺-≼-trans (⊕-mono-left-≺ y h) (⊕-mono-right u k)

pub ⊕-mono-≼-≺ : {x u y v : Fraction} → x ≼ u → y ≺ v → x ⊕ y ≺ u ⊕ v
⊕-mono-≼-≺ {x} {u} {y} {v} h k = ≼-≺-trans (⊕-mono-left y h) (⊕-mono-right-≺ u k)

pub ⊕-cancel-right : {x y : Fraction} (z : Fraction) → x ⊕ z ≼ y ⊕ z → x ≼ y
unfolding ◌⊕◌
⊕-cancel-right {x} {y} z h =
    record { le = le_of_mul-le-mul_left {k = z.d * z.d} (omega arith) (mul-pos z.pos z.pos) }

pub ⊕-cancel-right-≺ : {x y : Fraction} (z : Fraction) → x ⊕ z ≺ y ⊕ z → x ≺ y
unfolding ◌⊕◌
⊕-cancel-right-≺ {x} {y} z h = record { lt = lt_of_mul-lt-mul_left (z.d * z.d) (omega arith) }

pub negate-anti : {x y : Fraction} → x ≼ y → negate y ≼ negate x
unfolding negate
negate-anti h = omega arith

pub negate-anti_≺ : {x y : Fraction} → x ≺ y → negate y ≺ negate x
unfolding negate
negate-anti_≺ h = omega arith

-- every operation respects equality
pub ⊕-cong : {x u y v : Fraction} → x ≈ u → y ≈ v → x ⊕ y ≈ u ⊕ v
⊕-cong e f = ≼-antisym (⊕-mono (≈→≼ e) (≈→≼ f)) (⊕-mono (≈→≽ e) (≈→≽ f))

pub negate-cong : {x y : Fraction} → x ≈ y → negate x ≈ negate y
negate-cong e = ≼-antisym (negate-anti (≈→≽ e)) (negate-anti (≈→≼ e))

pub ⊖-mono : {x u y v : Fraction} → x ≼ u → v ≼ y → x ⊖ y ≼ u ⊖ v
unfolding ◌⊖◌
⊖-mono h k = ⊕-mono h (negate-anti k)

pub ⊖-cong : {x u y v : Fraction} → x ≈ u → y ≈ v → x ⊖ y ≈ u ⊖ v
unfolding ◌⊖◌
⊖-cong e f = ⊕-cong e (negate-cong f)

-- an addend taken to the other side
pub ⊖-⊕ : (x y : Fraction) → (x ⊖ y) ⊕ y ≈ x
unfolding ◌⊖◌ ◌⊕◌ negate
⊖-⊕ x y = omega arith

pub ⊕-⊖ : (x y : Fraction) → (x ⊕ y) ⊖ y ≈ x
unfolding ◌⊖◌ ◌⊕◌ negate
⊕-⊖ x y = omega arith

pub ⊖-≼ : {x z : Fraction} (y : Fraction) → x ≼ z ⊕ y → x ⊖ y ≼ z
⊖-≼ {x} {z} y h = ⊕-cancel-right y (≼_trans (≈→≼ (⊖-⊕ x y)) h)

pub ⊖-≼-back : {x z : Fraction} (y : Fraction) → x ⊖ y ≼ z → x ≼ z ⊕ y
⊖-≼-back {x} {z} y h = ≼_trans (≈→≽ (⊖-⊕ x y)) (⊕-mono-left y h)

pub ≼-⊖ : {x z : Fraction} (y : Fraction) → x ⊕ y ≼ z → x ≼ z ⊖ y
≼-⊖ {x} {z} y h = ⊕-cancel-right y (≼_trans h (≈→≽ (⊖-⊕ z y)))

pub ≼-⊖-back : {x z : Fraction} (y : Fraction) → x ≼ z ⊖ y → x ⊕ y ≼ z
≼-⊖-back {x} {z} y h = ≼_trans (⊕-mono-left y h) (≈→≼ (⊖-⊕ z y))

pub ≺-⊖ : {x z : Fraction} (y : Fraction) → x ⊕ y ≺ z → x ≺ z ⊖ y
≺-⊖ {x} {z} y h = ⊕-cancel-right-≺ y (≺-≼-trans h (≈→≽ (⊖-⊕ z y)))

pub ≺-⊖-back : {x z : Fraction} (y : Fraction) → x ≺ z ⊖ y → x ⊕ y ≺ z
≺-⊖-back {x} {z} y h = ≺-≼-trans (⊕-mono-left-≺ y h) (≈→≼ (⊖-⊕ z y))

-- a difference is at or above zero where the order holds
pub ⊖-nonneg : {x y : Fraction} → x ≼ y → nat 0 ≼ y ⊖ x
⊖-nonneg {x} {y} h = ≼-⊖ x (≼_trans (≈→≼ (zero_⊕ x)) h)

pub nonneg-⊖ : {x y : Fraction} → nat 0 ≼ y ⊖ x → x ≼ y
nonneg-⊖ {x} {y} h = ≼_trans (≈→≽ (zero_⊕ x)) (≼-⊖-back x h)

pub ⊖-pos : {x y : Fraction} → x ≺ y → nat 0 ≺ y ⊖ x
⊖-pos {x} {y} h = ≺-⊖ x (≼-≺-trans (≈→≼ (zero_⊕ x)) h)

pub pos_⊖ : {x y : Fraction} → nat 0 ≺ y ⊖ x → x ≺ y
pos_⊖ {x} {y} h = ≼-≺-trans (≈→≽ (zero_⊕ x)) (≺-⊖-back x h)

pub negate-nonneg : {x : Fraction} → x ≼ nat 0 → nat 0 ≼ negate x
unfolding negate nat
negate-nonneg h = omega arith

pub negate-nonpos : {x : Fraction} → nat 0 ≼ x → negate x ≼ nat 0
unfolding negate nat
negate-nonpos h = omega arith

pub ⊕-nonneg : {x y : Fraction} → nat 0 ≼ x → nat 0 ≼ y → nat 0 ≼ x ⊕ y
⊕-nonneg {x} {y} h k = ≼_trans (≈→≽ (⊕-zero (nat 0))) (⊕-mono h k)

pub ⊕-pos : {x y : Fraction} → nat 0 ≺ x → nat 0 ≼ y → nat 0 ≺ x ⊕ y
⊕-pos {x} {y} h k = ≼-≺-trans (≈→≽ (⊕-zero (nat 0))) (⊕-mono-≺-≼ h k)

-- adding what is at or above zero
pub ≼-⊕-right : {x y : Fraction} → nat 0 ≼ y → x ≼ x ⊕ y
≼-⊕-right {x} {y} h = ≼_trans (≈→≽ (⊕-zero x)) (⊕-mono-right x h)

-- ---- sums and differences of two such
pub ⊕-middle : (a b c e : Fraction) → (a ⊕ b) ⊕ (c ⊕ e) ≈ (a ⊕ c) ⊕ (b ⊕ e)
⊕-middle a b c e =
    ≈-trans (⊕-assoc a b (c ⊕ e)) (≈-trans (⊕-cong (≈-refl a) (⊕-swap b c e)) (≈-sym (⊕-assoc a c (b ⊕ e))))

pub ⊖-⊕-⊖ : (a b c e : Fraction) → (a ⊖ b) ⊕ (c ⊖ e) ≈ (a ⊕ c) ⊖ (b ⊕ e)
unfolding ◌⊖◌
⊖-⊕-⊖ a b c e =
    ≈-trans (⊕-middle a (negate b) c (negate e)) (⊕-cong (≈-refl (a ⊕ c)) (≈-sym (negate-⊕ b e)))

pub ⊖-⊖-⊖ : (a b c e : Fraction) → (a ⊖ b) ⊖ (c ⊖ e) ≈ (a ⊕ e) ⊖ (b ⊕ c)
⊖-⊖-⊖ a b c e =
    ≈-trans (⊖-is (a ⊖ b) (c ⊖ e)) (≈-trans (⊕-cong (≈-refl (a ⊖ b)) (negate-⊖ c e)) (⊖-⊕-⊖ a b e c))

pub ⊖-shift : (x y z : Fraction) → (x ⊕ z) ⊖ (y ⊕ z) ≈ x ⊖ y
⊖-shift x y z =
    ≈-trans (≈-sym (⊖-⊕-⊖ x y z z)) (≈-trans (⊕-cong (≈-refl (x ⊖ y)) (⊖-self z)) (⊕-zero (x ⊖ y)))

-- two differences are equal where the sums across are
pub ⊖-balance : (a b c e : Fraction) → a ⊕ e ≈ c ⊕ b → a ⊖ b ≈ c ⊖ e
⊖-balance a b c e h =
    ≈-trans (≈-sym (⊖-shift a b e)) (≈-trans (⊖-cong h (⊕-comm b e)) (⊖-shift c e b))
