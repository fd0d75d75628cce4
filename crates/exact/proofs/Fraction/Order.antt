-- The order of exact fractions is reflexive, transitive, total and decided by `leq`; `◌≈◌` is the order both ways. Assumes nothing.
use Rattle.std.specs.Prelude.{◌+◌, ◌*◌, ◌≤◌, ◌≡◌, refl, ◌⊎◌, Bool, true, false, not, ◌&&◌, T}
use Rattle.std.proofs.Common.{sym, subst, ◌∙◌, inl, inr, arith, mul-le-mul_right, mul-lt-mul_of_pos_right, leb-true, leb-false, le-leb}
use Rattle.std.proofs.Math.Nat.{le_of_mul-le-mul_left, lt_of_mul-lt-mul_left}
use Rattle.std.proofs.Math.Decide.{dec_le}
use Rattle.std.proofs.lemmas.Bool.{lt-leb}
use Rattle.exact.specs.Fraction.{Fraction, ◌≼◌, ◌≺◌, ◌≈◌, leq}

pub ≼_refl : (x : Fraction) → x ≼ x
≼_refl x = omega arith

pub ≼_trans : {x y z : Fraction} → x ≼ y → y ≼ z → x ≼ z
≼_trans {x} {y} {z} h k =
    record { le = le_of_mul-le-mul_left {k = y.d} (omega (arith, mul-le-mul_right z.d h.le, mul-le-mul_right x.d k.le)) y.pos }

pub ≺→≼ : {x y : Fraction} → x ≺ y → x ≼ y
≺→≼ h = omega arith

pub ≺-irrefl : {x : Fraction} → x ≺ x → ⊥
≺-irrefl h = omega arith

-- the two orders shut each other out
pub ≼-not-≺ : {x y : Fraction} → x ≼ y → y ≺ x → ⊥
≼-not-≺ h k = omega arith

pub ≼-≺-trans : {x y z : Fraction} → x ≼ y → y ≺ z → x ≺ z
≼-≺-trans {x} {y} {z} h k =
    record { lt = lt_of_mul-lt-mul_left y.d (omega (arith, mul-le-mul_right z.d h.le, mul-lt-mul_of_pos_right k.lt x.pos)) }

pub ≺-≼-trans : {x y z : Fraction} → x ≺ y → y ≼ z → x ≺ z
≺-≼-trans {x} {y} {z} h k =
    record { lt = lt_of_mul-lt-mul_left y.d (omega (arith, mul-lt-mul_of_pos_right h.lt z.pos, mul-le-mul_right x.d k.le)) }

pub ≺-trans : {x y z : Fraction} → x ≺ y → y ≺ z → x ≺ z
≺-trans h k = ≺-≼-trans h (≺→≼ k)

-- total and decided
pub ≼-or-≺ : (x y : Fraction) → (x ≼ y) ⊎ (y ≺ x)
≼-or-≺ x y = go (dec_le (x.p * y.d + y.n * x.d) (y.p * x.d + x.n * y.d))
  where
    go : Dec (x.p * y.d + y.n * x.d ≤ y.p * x.d + x.n * y.d) → (x ≼ y) ⊎ (y ≺ x)
    go (yes h) = inl (omega arith)
    go (no h) = inr (omega arith)

pub ≼-total : (x y : Fraction) → (x ≼ y) ⊎ (y ≼ x)
≼-total x y = elim (≼-or-≺ x y) [ inl h ↦ inl h | inr h ↦ inr (≺→≼ h) ]

pub ≼-dec : (x y : Fraction) → Dec (x ≼ y)
≼-dec x y = elim (≼-or-≺ x y) [ inl h ↦ yes h | inr h ↦ no (λ k. ≼-not-≺ k h) ]

pub ≺-dec : (x y : Fraction) → Dec (x ≺ y)
≺-dec x y = elim (≼-or-≺ y x) [ inl h ↦ no (λ k. ≼-not-≺ h k) | inr h ↦ yes h ]

pub not_≼ : {x y : Fraction} → (x ≼ y → ⊥) → y ≺ x
not_≼ {x} {y} f = elim (≼-or-≺ x y) [ inl h ↦ absurd (f h) | inr h ↦ h ]

pub not_≺ : {x y : Fraction} → (x ≺ y → ⊥) → y ≼ x
not_≺ {x} {y} f = elim (≼-or-≺ y x) [ inl h ↦ h | inr h ↦ absurd (f h) ]

-- equal is the order both ways
pub ≼-antisym : {x y : Fraction} → x ≼ y → y ≼ x → x ≈ y
≼-antisym h k = omega arith

pub ≈→≼ : {x y : Fraction} → x ≈ y → x ≼ y
≈→≼ h = omega arith

pub ≈→≽ : {x y : Fraction} → x ≈ y → y ≼ x
≈→≽ h = omega arith

pub ≈-refl : (x : Fraction) → x ≈ x
≈-refl x = omega arith

pub ≈-sym : {x y : Fraction} → x ≈ y → y ≈ x
≈-sym h = omega arith

pub ≈-trans : {x y z : Fraction} → x ≈ y → y ≈ z → x ≈ z
≈-trans h k = ≼-antisym (≼_trans (≈→≼ h) (≈→≼ k)) (≼_trans (≈→≽ k) (≈→≽ h))

pub ≈-of-≡ : {x y : Fraction} → x ≡ y → x ≈ y
≈-of-≡ {x} {y} e = subst (λ (z : Fraction). x ≈ z) e (≈-refl x)

pub ≼-split : {x y : Fraction} → x ≼ y → (x ≺ y) ⊎ (x ≈ y)
≼-split {x} {y} h = elim (≼-or-≺ y x) [ inl k ↦ inr (≼-antisym h k) | inr k ↦ inl k ]

pub ≈-dec : (x y : Fraction) → Dec (x ≈ y)
≈-dec x y =
    elim (≼-or-≺ x y) [
      | inl h ↦ elim (≼-or-≺ y x) [ inl k ↦ yes (≼-antisym h k) | inr k ↦ no (λ e. ≼-not-≺ (≈→≽ e) k) ]
      | inr h ↦ no (λ e. ≼-not-≺ (≈→≼ e) h)
    ]

-- the relations respect equality
pub ≈-≼-trans : {x y z : Fraction} → x ≈ y → y ≼ z → x ≼ z
≈-≼-trans h k = ≼_trans (≈→≼ h) k

pub ≼-≈-trans : {x y z : Fraction} → x ≼ y → y ≈ z → x ≼ z
≼-≈-trans h k = ≼_trans h (≈→≼ k)

pub ≈-≺-trans : {x y z : Fraction} → x ≈ y → y ≺ z → x ≺ z
≈-≺-trans h k = ≼-≺-trans (≈→≼ h) k

pub ≺-≈-trans : {x y z : Fraction} → x ≺ y → y ≈ z → x ≺ z
≺-≈-trans h k = ≺-≼-trans h (≈→≼ k)

pub ≼-resp : {x u y v : Fraction} → x ≈ u → y ≈ v → x ≼ y → u ≼ v
≼-resp e f h = ≼_trans (≈→≽ e) (≼_trans h (≈→≼ f))

pub ≺-resp : {x u y v : Fraction} → x ≈ u → y ≈ v → x ≺ y → u ≺ v
≺-resp e f h = ≼-≺-trans (≈→≽ e) (≺-≼-trans h (≈→≼ f))

-- the test
pub leq-true : (x y : Fraction) → leq x y ≡ true → x ≼ y
unfolding leq
leq-true x y t = record { le = leb-true (x.p * y.d + y.n * x.d) (y.p * x.d + x.n * y.d) t }

pub leq-false : (x y : Fraction) → leq x y ≡ false → y ≺ x
unfolding leq
leq-false x y t = let h = leb-false (x.p * y.d + y.n * x.d) (y.p * x.d + x.n * y.d) t in omega arith

pub ≼-leq : {x y : Fraction} → x ≼ y → leq x y ≡ true
unfolding leq
≼-leq {x} {y} h = le-leb (x.p * y.d + y.n * x.d) (y.p * x.d + x.n * y.d) h.le

pub ≺-leq : {x y : Fraction} → y ≺ x → leq x y ≡ false
unfolding leq
≺-leq {x} {y} h = lt-leb (x.p * y.d + y.n * x.d) (y.p * x.d + x.n * y.d) (omega arith)

pub leq-resp : {x u y v : Fraction} → x ≈ u → y ≈ v → leq x y ≡ leq u v
leq-resp {x} {u} {y} {v} e f =
    elim (≼-or-≺ x y) [
      | inl h ↦ ≼-leq h ∙ sym (≼-leq (≼-resp e f h))
      | inr h ↦ ≺-leq h ∙ sym (≺-leq (≺-resp f e h))
    ]

-- closed fractions: the test computes, so `tt` is the proof where `leq` and the operations unfold
pub ≼-by : (x y : Fraction) → T (leq x y) → x ≼ y
≼-by x y t = leq-true x y (holds (leq x y) t)
  where
    holds : (b : Bool) → T b → b ≡ true
    holds true t = refl
    holds false t = absurd t

pub ≺-by : (x y : Fraction) → T (not (leq y x)) → x ≺ y
≺-by x y t = leq-false y x (fails (leq y x) t)
  where
    fails : (b : Bool) → T (not b) → b ≡ false
    fails true t = absurd t
    fails false t = refl

pub ≈-by : (x y : Fraction) → T (leq x y && leq y x) → x ≈ y
≈-by x y t = ≼-antisym (≼-by x y (left (leq x y) (leq y x) t)) (≼-by y x (right (leq x y) (leq y x) t))
  where
    left : (a b : Bool) → T (a && b) → T a
    left true b t = tt
    left false b t = t

    right : (a b : Bool) → T (a && b) → T b
    right true b t = t
    right false b t = absurd t
