-- Between numbers and exact fractions: `nat` and `parts` under the operations and the order, and a fraction as its parts.
-- Assumes nothing.
use Rattle.std.specs.Prelude.{ℕ, ◌+◌, ◌*◌, ◌-◌, ◌≤◌, ◌<◌, ◌≡◌, refl, Bool, true, false, not, ltb}
use Rattle.std.proofs.Common.{ap, arith, mul-pos, le-mul_of_pos_right, sub-add_cancel, ltb-true, ltb-false, lt-ltb, le-ltb}
use Rattle.std.proofs.Math.Bool.{xor}
use Rattle.std.proofs.Math.Nat.{max-eq_right, sub-zero}
use Rattle.exact.specs.Fraction.{Fraction, nat, parts, negative, top, bottom, negate, ◌⊕◌, ◌⊖◌, ◌⊗◌, inv, ◌⊘◌, ◌≼◌, ◌≺◌, ◌≈◌}
use Rattle.exact.proofs.Fraction.Order.{≈-refl, ≈-trans}
use Rattle.exact.proofs.Fraction.Product.{⊗-cong}

-- ---- whole numbers
pub nat-≼ : {a b : ℕ} → a ≤ b → nat a ≼ nat b
unfolding nat
nat-≼ h = omega arith

pub ≼-nat : (a b : ℕ) → nat a ≼ nat b → a ≤ b
unfolding nat
≼-nat a b h = omega (arith, h.le)

pub nat-≺ : {a b : ℕ} → a < b → nat a ≺ nat b
unfolding nat
nat-≺ h = omega arith

pub ≺-nat : (a b : ℕ) → nat a ≺ nat b → a < b
unfolding nat
≺-nat a b h = omega (arith, h.lt)

pub ≈-nat : (a b : ℕ) → nat a ≈ nat b → a ≡ b
unfolding nat
≈-nat a b h = omega (arith, h.eq)

pub nat-nonneg : (a : ℕ) → nat 0 ≼ nat a
unfolding nat
nat-nonneg a = omega arith

pub nat-pos : {a : ℕ} → 0 < a → nat 0 ≺ nat a
unfolding nat
nat-pos h = omega arith

pub nat-⊕ : (a b : ℕ) → nat (a + b) ≈ nat a ⊕ nat b
unfolding nat ◌⊕◌
nat-⊕ a b = omega arith

pub nat-⊗ : (a b : ℕ) → nat (a * b) ≈ nat a ⊗ nat b
unfolding nat ◌⊗◌
nat-⊗ a b = omega arith

pub nat-⊖ : (a b : ℕ) → b ≤ a → nat (a - b) ≈ nat a ⊖ nat b
unfolding nat ◌⊖◌ ◌⊕◌ negate
nat-⊖ a b h = omega arith

-- ---- quotients of two numbers with a sign
-- equal cross products are one value
pub parts-≈ : (s : Bool) (a b c e : ℕ) → 0 < b → 0 < e → a * e ≡ c * b → parts s a b ≈ parts s c e
unfolding parts
parts-≈ false a b c e hb he h = record { eq = rw (max-eq_right hb, max-eq_right he) (omega arith) }
parts-≈ true a b c e hb he h = record { eq = rw (max-eq_right hb, max-eq_right he) (omega arith) }

pub ≈-parts : (s : Bool) (a b c e : ℕ) → 0 < b → 0 < e → parts s a b ≈ parts s c e → a * e ≡ c * b
unfolding parts
≈-parts false a b c e hb he h = let k = rw (max-eq_right hb, max-eq_right he) at h.eq in omega arith
≈-parts true a b c e hb he h = let k = rw (max-eq_right hb, max-eq_right he) at h.eq in omega arith

-- the order by cross products, one law a pair of signs
pub parts-≼ : (a b c e : ℕ) → 0 < b → 0 < e → a * e ≤ c * b → parts false a b ≼ parts false c e
unfolding parts
parts-≼ a b c e hb he h = record { le = rw (max-eq_right hb, max-eq_right he) (omega arith) }

pub ≼-parts : (a b c e : ℕ) → 0 < b → 0 < e → parts false a b ≼ parts false c e → a * e ≤ c * b
unfolding parts
≼-parts a b c e hb he h = let k = rw (max-eq_right hb, max-eq_right he) at h.le in omega arith

pub parts-≼_below : (a b c e : ℕ) → 0 < b → 0 < e → c * b ≤ a * e → parts true a b ≼ parts true c e
unfolding parts
parts-≼_below a b c e hb he h = record { le = rw (max-eq_right hb, max-eq_right he) (omega arith) }

pub ≼-parts-below : (a b c e : ℕ) → 0 < b → 0 < e → parts true a b ≼ parts true c e → c * b ≤ a * e
unfolding parts
≼-parts-below a b c e hb he h = let k = rw (max-eq_right hb, max-eq_right he) at h.le in omega arith

pub parts-≼_across : (a b c e : ℕ) → parts true a b ≼ parts false c e
unfolding parts
parts-≼_across a b c e = omega arith

pub parts-≺ : (a b c e : ℕ) → 0 < b → 0 < e → a * e < c * b → parts false a b ≺ parts false c e
unfolding parts
parts-≺ a b c e hb he h = record { lt = rw (max-eq_right hb, max-eq_right he) (omega arith) }

pub ≺-parts : (a b c e : ℕ) → 0 < b → 0 < e → parts false a b ≺ parts false c e → a * e < c * b
unfolding parts
≺-parts a b c e hb he h = let k = rw (max-eq_right hb, max-eq_right he) at h.lt in omega arith

pub parts-≺_below : (a b c e : ℕ) → 0 < b → 0 < e → c * b < a * e → parts true a b ≺ parts true c e
unfolding parts
parts-≺_below a b c e hb he h = record { lt = rw (max-eq_right hb, max-eq_right he) (omega arith) }

pub ≺-parts-below : (a b c e : ℕ) → 0 < b → 0 < e → parts true a b ≺ parts true c e → c * b < a * e
unfolding parts
≺-parts-below a b c e hb he h = let k = rw (max-eq_right hb, max-eq_right he) at h.lt in omega arith

pub parts-≺_across : (a b c e : ℕ) → 0 < b → 0 < e → 0 < a + c → parts true a b ≺ parts false c e
unfolding parts
parts-≺_across a b c e hb he h =
    record { lt = rw (max-eq_right hb, max-eq_right he) (omega (arith, le-mul_of_pos_right a he, le-mul_of_pos_right c hb)) }

-- what is at or above zero is at or below what is at or below zero: both are zero
pub ≼-parts-zero : (a b c e : ℕ) → 0 < b → 0 < e → parts false a b ≼ parts true c e → (a ≡ 0) × (c ≡ 0)
unfolding parts
≼-parts-zero a b c e hb he h =
    let k = rw (max-eq_right hb, max-eq_right he) at h.le in
    omega (arith, le-mul_of_pos_right a he, le-mul_of_pos_right c hb)

pub parts-nat : (a : ℕ) → parts false a 1 ≈ nat a
unfolding parts nat
parts-nat a = omega arith

pub parts-zero : (s : Bool) (b : ℕ) → parts s 0 b ≈ nat 0
unfolding parts nat
parts-zero false b = omega arith
parts-zero true b = omega arith

pub parts-scale : (s : Bool) (a b k : ℕ) → 0 < b → 0 < k → parts s (a * k) (b * k) ≈ parts s a b
parts-scale s a b k hb hk = parts-≈ s (a * k) (b * k) a b (mul-pos hb hk) hb (omega arith)

pub parts-nonneg : (a b : ℕ) → nat 0 ≼ parts false a b
unfolding parts nat
parts-nonneg a b = omega arith

pub parts-pos : (a b : ℕ) → 0 < a → nat 0 ≺ parts false a b
unfolding parts nat
parts-pos a b h = omega arith

pub parts-nonpos : (a b : ℕ) → parts true a b ≼ nat 0
unfolding parts nat
parts-nonpos a b = omega arith

pub parts-neg : (a b : ℕ) → 0 < a → parts true a b ≺ nat 0
unfolding parts nat
parts-neg a b h = omega arith

-- ---- operations on quotients
pub parts-negate : (s : Bool) (a b : ℕ) → negate (parts s a b) ≈ parts (not s) a b
unfolding parts negate
parts-negate false a b = omega arith
parts-negate true a b = omega arith

pub parts-⊗ : (s t : Bool) (a b c e : ℕ) → 0 < b → 0 < e → parts s a b ⊗ parts t c e ≈ parts (xor s t) (a * c) (b * e)
unfolding parts ◌⊗◌ xor
parts-⊗ false false a b c e hb he = record { eq = rw (max-eq_right hb, max-eq_right he, max-eq_right (mul-pos hb he)) (omega arith) }
parts-⊗ false true a b c e hb he = record { eq = rw (max-eq_right hb, max-eq_right he, max-eq_right (mul-pos hb he)) (omega arith) }
parts-⊗ true false a b c e hb he = record { eq = rw (max-eq_right hb, max-eq_right he, max-eq_right (mul-pos hb he)) (omega arith) }
parts-⊗ true true a b c e hb he = record { eq = rw (max-eq_right hb, max-eq_right he, max-eq_right (mul-pos hb he)) (omega arith) }

-- of one sign; the greater size less the smaller where the signs differ
pub parts-⊕ : (s : Bool) (a b c e : ℕ) → 0 < b → 0 < e → parts s a b ⊕ parts s c e ≈ parts s (a * e + c * b) (b * e)
unfolding parts ◌⊕◌
parts-⊕ false a b c e hb he = record { eq = rw (max-eq_right hb, max-eq_right he, max-eq_right (mul-pos hb he)) (omega arith) }
parts-⊕ true a b c e hb he = record { eq = rw (max-eq_right hb, max-eq_right he, max-eq_right (mul-pos hb he)) (omega arith) }

pub parts-⊕_less : (s : Bool) (a b c e : ℕ) → 0 < b → 0 < e → c * b ≤ a * e → parts s a b ⊕ parts (not s) c e ≈ parts s (a * e - c * b) (b * e)
unfolding parts ◌⊕◌
parts-⊕_less false a b c e hb he h =
    record {
      eq = rw (max-eq_right hb, max-eq_right he, max-eq_right (mul-pos hb he))
          (omega (arith, ap (λ (v : ℕ). v * (b * e)) (sub-add_cancel h)));
    }
parts-⊕_less true a b c e hb he h =
    record {
      eq = rw (max-eq_right hb, max-eq_right he, max-eq_right (mul-pos hb he))
          (omega (arith, ap (λ (v : ℕ). v * (b * e)) (sub-add_cancel h)));
    }

pub parts-inv : (a b : ℕ) → 0 < a → 0 < b → inv (parts false a b) ≈ parts false b a
unfolding parts inv
parts-inv a b ha hb = record { eq = rw (sub-zero a, max-eq_right ha, max-eq_right hb) (omega arith) }

pub nat-inv : (b : ℕ) → 0 < b → inv (nat b) ≈ parts false 1 b
unfolding parts inv nat
nat-inv b hb = record { eq = rw (max-eq_right hb) (omega arith) }

pub parts-⊘ : (s : Bool) (a b c e : ℕ) → 0 < b → 0 < c → 0 < e → parts s a b ⊘ parts false c e ≈ parts s (a * e) (b * c)
unfolding ◌⊘◌ xor
parts-⊘ false a b c e hb hc he = ≈-trans (⊗-cong (≈-refl (parts false a b)) (parts-inv c e hc he)) (parts-⊗ false false a b e c hb hc)
parts-⊘ true a b c e hb hc he = ≈-trans (⊗-cong (≈-refl (parts true a b)) (parts-inv c e hc he)) (parts-⊗ true false a b e c hb hc)

pub nat-⊘ : (a b : ℕ) → 0 < b → nat a ⊘ nat b ≈ parts false a b
unfolding ◌⊘◌ ◌⊗◌ inv nat parts
nat-⊘ a b hb = record { eq = rw (sub-zero b, max-eq_right hb) (omega arith) }

-- ---- a fraction is its parts
pub bottom-pos : (x : Fraction) → 0 < bottom x
unfolding bottom
bottom-pos x = x.pos

pub as_parts : (x : Fraction) → x ≈ parts (negative x) (top x) (bottom x)
unfolding parts negative top bottom
as_parts x = go (ltb x.p x.n) refl
  where
    go : (s : Bool) → ltb x.p x.n ≡ s → x ≈ parts s (top x) (bottom x)
    go false t =
        let h : x.n ≤ x.p = ltb-false x.p x.n t in
        let q : top x + x.n ≡ x.p = omega arith in
        record { eq = rw (max-eq_right x.pos) (omega (arith, ap (λ (v : ℕ). v * x.d) q)) }
    go true t =
        let h : x.p < x.n = ltb-true x.p x.n t in
        let q : top x + x.p ≡ x.n = omega arith in
        record { eq = rw (max-eq_right x.pos) (omega (arith, ap (λ (v : ℕ). v * x.d) q)) }

pub negative-true : (x : Fraction) → negative x ≡ true → x ≺ nat 0
unfolding negative nat
negative-true x t = let h : x.p < x.n = ltb-true x.p x.n t in omega arith

pub negative-false : (x : Fraction) → negative x ≡ false → nat 0 ≼ x
unfolding negative nat
negative-false x t = let h : x.n ≤ x.p = ltb-false x.p x.n t in omega arith

pub ≺-negative : {x : Fraction} → x ≺ nat 0 → negative x ≡ true
unfolding negative nat
≺-negative {x} h = lt-ltb x.p x.n (omega arith)

pub ≼-negative : {x : Fraction} → nat 0 ≼ x → negative x ≡ false
unfolding negative nat
≼-negative {x} h = le-ltb x.p x.n (omega arith)

pub negative-top : (x : Fraction) → negative x ≡ true → 0 < top x
unfolding negative top
negative-top x t = let h : x.p < x.n = ltb-true x.p x.n t in omega arith
