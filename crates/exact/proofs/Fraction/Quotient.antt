-- The quotient of exact fractions by what is above zero: it undoes the product, and the order through it. Assumes nothing.
use Rattle.std.specs.Prelude.{ℕ, ◌+◌, ◌*◌, ◌≡◌}
use Rattle.std.proofs.Common.{ap, arith}
use Rattle.exact.specs.Fraction.{Fraction, nat, negate, ◌⊕◌, ◌⊗◌, inv, ◌⊘◌, ◌≼◌, ◌≺◌, ◌≈◌}
use Rattle.exact.proofs.Fraction.Order.{≺-≼-trans, ≺→≼, ≼-antisym, ≈→≼, ≈→≽, ≈-refl, ≈-sym, ≈-trans, ≼-≈-trans, ≈-≼-trans}
use Rattle.exact.proofs.Fraction.Product.{⊗-middle, one-⊗, ⊗-cong-left, ⊗-comm, ⊗-assoc, ⊗-one, ⊕-⊗, ⊗-mono-left, ⊗-mono-right, ⊗-mono-left-≺, ⊗-cancel-right, ⊗-cong, ⊗-nonneg, ⊗-pos, negate-⊗, zero_⊗}

-- the divisor as it stands, for y above zero
inv-d : {y : Fraction} → nat 0 ≺ y → (inv y).d + y.n ≡ y.p
unfolding inv nat
inv-d {y} h = omega arith

pub inv-pos : (y : Fraction) → nat 0 ≺ inv y
unfolding inv nat
inv-pos y = let h = y.pos in omega arith

pub ⊗-inv : {y : Fraction} → nat 0 ≺ y → y ⊗ inv y ≈ nat 1
unfolding ◌⊗◌ inv nat
⊗-inv {y} h = omega (arith, ap (λ (v : ℕ). v * y.d) (inv-d h))

pub inv-anti : {x y : Fraction} → nat 0 ≺ x → x ≼ y → inv y ≼ inv x
unfolding inv
inv-anti {x} {y} s h =
    omega (arith, ap (λ (v : ℕ). v * y.d) (inv-d s), ap (λ (v : ℕ). v * x.d) (inv-d (≺-≼-trans s h)))

pub inv-anti_≺ : {x y : Fraction} → nat 0 ≺ x → x ≺ y → inv y ≺ inv x
unfolding inv
inv-anti_≺ {x} {y} s h =
    omega (arith, ap (λ (v : ℕ). v * y.d) (inv-d s), ap (λ (v : ℕ). v * x.d) (inv-d (≺-≼-trans s (≺→≼ h))))

pub inv-cong : {x y : Fraction} → nat 0 ≺ x → x ≈ y → inv x ≈ inv y
inv-cong s e = ≼-antisym (inv-anti (≺-≼-trans s (≈→≼ e)) (≈→≽ e)) (inv-anti s (≈→≼ e))

pub inv-⊗ : {y : Fraction} → nat 0 ≺ y → inv y ⊗ y ≈ nat 1
inv-⊗ {y} h = ≈-trans (⊗-comm (inv y) y) (⊗-inv h)

-- the quotient undoes the product
pub ⊘-is : (x y : Fraction) → x ⊘ y ≈ x ⊗ inv y
unfolding ◌⊘◌
⊘-is x y = ≈-refl (x ⊗ inv y)

pub ⊘-⊗ : {y : Fraction} (x : Fraction) → nat 0 ≺ y → (x ⊘ y) ⊗ y ≈ x
unfolding ◌⊘◌
⊘-⊗ {y} x h =
    ≈-trans (⊗-assoc x (inv y) y) (≈-trans (⊗-cong (≈-refl x) (inv-⊗ h)) (⊗-one x))

pub ⊗-⊘ : {y : Fraction} (x : Fraction) → nat 0 ≺ y → (x ⊗ y) ⊘ y ≈ x
unfolding ◌⊘◌
⊗-⊘ {y} x h =
    ≈-trans (⊗-assoc x y (inv y)) (≈-trans (⊗-cong (≈-refl x) (⊗-inv h)) (⊗-one x))

pub ⊘-self : {y : Fraction} → nat 0 ≺ y → y ⊘ y ≈ nat 1
unfolding ◌⊘◌
⊘-self h = ⊗-inv h

-- what times y is x is the quotient
pub ⊘-unique : {x y : Fraction} (z : Fraction) → nat 0 ≺ y → z ⊗ y ≈ x → z ≈ x ⊘ y
⊘-unique {x} {y} z s e =
    let f : z ⊗ y ≈ (x ⊘ y) ⊗ y = ≈-trans e (≈-sym (⊘-⊗ x s)) in
    ≼-antisym (⊗-cancel-right s (≈→≼ f)) (⊗-cancel-right s (≈→≽ f))

pub ⊘-one : (x : Fraction) → x ⊘ nat 1 ≈ x
unfolding ◌⊘◌ ◌⊗◌ inv nat
⊘-one x = omega arith

pub zero_⊘ : (y : Fraction) → nat 0 ⊘ y ≈ nat 0
unfolding ◌⊘◌
zero_⊘ y = zero_⊗ (inv y)

pub ⊘-cong : {x u y v : Fraction} → nat 0 ≺ y → x ≈ u → y ≈ v → x ⊘ y ≈ u ⊘ v
unfolding ◌⊘◌
⊘-cong s e f = ⊗-cong e (inv-cong s f)

-- the order through a quotient
pub ⊘-mono-left : {x u : Fraction} (y : Fraction) → x ≼ u → x ⊘ y ≼ u ⊘ y
unfolding ◌⊘◌
⊘-mono-left y h = ⊗-mono-left (≺→≼ (inv-pos y)) h

pub ⊘-mono-left-≺ : {x u : Fraction} (y : Fraction) → x ≺ u → x ⊘ y ≺ u ⊘ y
unfolding ◌⊘◌
⊘-mono-left-≺ y h = ⊗-mono-left-≺ (inv-pos y) h

-- a greater divisor makes what is at or above zero less
pub ⊘-anti-right : {x y v : Fraction} → nat 0 ≼ x → nat 0 ≺ y → y ≼ v → x ⊘ v ≼ x ⊘ y
unfolding ◌⊘◌
⊘-anti-right sx sy h = ⊗-mono-right sx (inv-anti sy h)

pub ⊘-nonneg : {x : Fraction} (y : Fraction) → nat 0 ≼ x → nat 0 ≼ x ⊘ y
unfolding ◌⊘◌
⊘-nonneg y h = ⊗-nonneg h (≺→≼ (inv-pos y))

pub ⊘-pos : {x : Fraction} (y : Fraction) → nat 0 ≺ x → nat 0 ≺ x ⊘ y
unfolding ◌⊘◌
⊘-pos y h = ⊗-pos h (inv-pos y)

-- a divisor taken to the other side
pub ≼-⊘ : {x y z : Fraction} → nat 0 ≺ y → x ⊗ y ≼ z → x ≼ z ⊘ y
≼-⊘ {x} {y} {z} s h = ⊗-cancel-right s (≼-≈-trans h (≈-sym (⊘-⊗ z s)))

pub ≼-⊘-back : {x y z : Fraction} → nat 0 ≺ y → x ≼ z ⊘ y → x ⊗ y ≼ z
≼-⊘-back {x} {y} {z} s h = ≼-≈-trans (⊗-mono-left (≺→≼ s) h) (⊘-⊗ z s)

pub ⊘-≼ : {x y z : Fraction} → nat 0 ≺ y → z ≼ x ⊗ y → z ⊘ y ≼ x
⊘-≼ {x} {y} {z} s h = ⊗-cancel-right s (≈-≼-trans (⊘-⊗ z s) h)

pub ⊘-≼-back : {x y z : Fraction} → nat 0 ≺ y → z ⊘ y ≼ x → z ≼ x ⊗ y
⊘-≼-back {x} {y} {z} s h = ≈-≼-trans (≈-sym (⊘-⊗ z s)) (⊗-mono-left (≺→≼ s) h)

pub ⊕-⊘ : (x y z : Fraction) → (x ⊕ y) ⊘ z ≈ (x ⊘ z) ⊕ (y ⊘ z)
unfolding ◌⊘◌
⊕-⊘ x y z = ⊕-⊗ x y (inv z)

pub negate-⊘ : (x y : Fraction) → negate x ⊘ y ≈ negate (x ⊘ y)
unfolding ◌⊘◌
negate-⊘ x y = negate-⊗ x (inv y)

-- ---- quotients and products together
pub ⊗-⊘-assoc : (x y z : Fraction) → x ⊗ y ⊘ z ≈ x ⊗ (y ⊘ z)
unfolding ◌⊘◌
⊗-⊘-assoc x y z = ⊗-assoc x y (inv z)

pub inv-of_⊗ : {y z : Fraction} → nat 0 ≺ y → nat 0 ≺ z → inv (y ⊗ z) ≈ inv y ⊗ inv z
inv-of_⊗ {y} {z} s t =
    ≈-sym
    (≈-trans (⊘-unique (inv y ⊗ inv z) (⊗-pos s t)
    (≈-trans (⊗-middle (inv y) (inv z) y z) (≈-trans (⊗-cong (inv-⊗ s) (inv-⊗ t)) (⊗-one (nat 1)))))
    (≈-trans (⊘-is (nat 1) (y ⊗ z)) (one-⊗ (inv (y ⊗ z)))))

pub ⊘-⊘ : {y z : Fraction} (x : Fraction) → nat 0 ≺ y → nat 0 ≺ z → x ⊘ y ⊘ z ≈ x ⊘ (y ⊗ z)
unfolding ◌⊘◌
⊘-⊘ {y} {z} x s t = ≈-trans (⊗-assoc x (inv y) (inv z)) (⊗-cong (≈-refl x) (≈-sym (inv-of_⊗ s t)))

pub ⊘-⊗-⊘ : {y v : Fraction} (x u : Fraction) → nat 0 ≺ y → nat 0 ≺ v → (x ⊘ y) ⊗ (u ⊘ v) ≈ (x ⊗ u) ⊘ (y ⊗ v)
unfolding ◌⊘◌
⊘-⊗-⊘ {y} {v} x u s t =
    ≈-trans (⊗-middle x (inv y) u (inv v)) (⊗-cong (≈-refl (x ⊗ u)) (≈-sym (inv-of_⊗ s t)))

-- a common factor goes
pub ⊘-common : {y z : Fraction} (x : Fraction) → nat 0 ≺ y → nat 0 ≺ z → (x ⊗ z) ⊘ (y ⊗ z) ≈ x ⊘ y
⊘-common {y} {z} x s t =
    ≈-trans (≈-sym (⊘-⊗-⊘ x z s t)) (≈-trans (⊗-cong (≈-refl (x ⊘ y)) (⊘-self t)) (⊗-one (x ⊘ y)))

pub inv-inv : {y : Fraction} → nat 0 ≺ y → inv (inv y) ≈ y
inv-inv {y} s =
    ≈-trans (≈-sym (≈-trans (⊘-is (nat 1) (inv y)) (one-⊗ (inv (inv y))))) (≈-sym (⊘-unique y (inv-pos y) (⊗-inv s)))

-- the order of two quotients, by cross products
pub ⊘-≼-⊘ : {y v : Fraction} (x u : Fraction) → nat 0 ≺ y → nat 0 ≺ v → x ⊗ v ≼ u ⊗ y → x ⊘ y ≼ u ⊘ v
⊘-≼-⊘ {y} {v} x u s t h =
    ≼-⊘ t (≈-≼-trans swapped (≼-≈-trans (⊘-mono-left y h) (⊗-⊘ u s)))
  where
    swapped : x ⊘ y ⊗ v ≈ x ⊗ v ⊘ y
    swapped =
        ≈-trans (⊗-cong-left v (⊘-is x y))
        (≈-trans (⊗-assoc x (inv y) v)
        (≈-trans (⊗-cong (≈-refl x) (⊗-comm (inv y) v)) (≈-trans (≈-sym (⊗-assoc x v (inv y))) (≈-sym (⊘-is (x ⊗ v) y)))))
