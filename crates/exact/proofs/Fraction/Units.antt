-- Quotients over one bottom, and quotients beside whole numbers: sums and the order are those of the tops. Assumes nothing.
use Rattle.std.specs.Prelude.{ℕ, ◌+◌, ◌*◌, ◌-◌, ◌≤◌, ◌<◌, max, Bool, true, false, not}
use Rattle.std.proofs.Common.{ap, arith, sub-add_cancel, mul-pos, mul-le-mul_right, mul-lt-mul_of_pos_right, le_of_mul-le-mul_right, lt_of_mul-lt-mul_right}
use Rattle.std.proofs.Math.Nat.{max-eq_right, sub-zero}
use Rattle.exact.specs.Fraction.{nat, parts, ◌⊕◌, ◌⊗◌, inv, ◌⊘◌, ◌≼◌, ◌≺◌, ◌≈◌}
use Rattle.exact.proofs.Fraction.Parts.{≼-parts, parts-≺, ≺-parts, parts-≼_below, ≼-parts-below, parts-≺_below, ≺-parts-below}

-- ---- over one bottom
pub units-⊕ : (s : Bool) (a c b : ℕ) → parts s a b ⊕ parts s c b ≈ parts s (a + c) b
unfolding parts ◌⊕◌
units-⊕ false a c b = omega arith
units-⊕ true a c b = omega arith

-- of different signs, the greater first
pub units-⊕_less : (s : Bool) (a c b : ℕ) → c ≤ a → parts s a b ⊕ parts (not s) c b ≈ parts s (a - c) b
unfolding parts ◌⊕◌
units-⊕_less false a c b h = omega (arith, ap (λ (v : ℕ). v * (max 1 b * max 1 b)) (sub-add_cancel h))
units-⊕_less true a c b h = omega (arith, ap (λ (v : ℕ). v * (max 1 b * max 1 b)) (sub-add_cancel h))

pub units-≼ : (a c b : ℕ) → a ≤ c → parts false a b ≼ parts false c b
unfolding parts
units-≼ a c b h = omega (arith, mul-le-mul_right (max 1 b) h)

pub ≼-units : (a c b : ℕ) → 0 < b → parts false a b ≼ parts false c b → a ≤ c
≼-units a c b hb h = le_of_mul-le-mul_right (≼-parts a b c b hb hb h) hb

pub units-≺ : (a c b : ℕ) → 0 < b → a < c → parts false a b ≺ parts false c b
units-≺ a c b hb h = parts-≺ a b c b hb hb (mul-lt-mul_of_pos_right h hb)

pub ≺-units : (a c b : ℕ) → 0 < b → parts false a b ≺ parts false c b → a < c
≺-units a c b hb h = lt_of_mul-lt-mul_right b (≺-parts a b c b hb hb h)

pub units-≼_below : (a c b : ℕ) → 0 < b → c ≤ a → parts true a b ≼ parts true c b
units-≼_below a c b hb h = parts-≼_below a b c b hb hb (mul-le-mul_right b h)

pub ≼-units-below : (a c b : ℕ) → 0 < b → parts true a b ≼ parts true c b → c ≤ a
≼-units-below a c b hb h = le_of_mul-le-mul_right (≼-parts-below a b c b hb hb h) hb

pub units-≺_below : (a c b : ℕ) → 0 < b → c < a → parts true a b ≺ parts true c b
units-≺_below a c b hb h = parts-≺_below a b c b hb hb (mul-lt-mul_of_pos_right h hb)

pub ≺-units-below : (a c b : ℕ) → 0 < b → parts true a b ≺ parts true c b → c < a
≺-units-below a c b hb h = lt_of_mul-lt-mul_right b (≺-parts-below a b c b hb hb h)

-- ---- beside a whole number
pub parts-≼_nat : (a b c : ℕ) → 0 < b → a ≤ c * b → parts false a b ≼ nat c
unfolding parts nat
parts-≼_nat a b c hb h = record { le = rw (max-eq_right hb) (omega arith) }

pub ≼-parts-nat : (a b c : ℕ) → 0 < b → parts false a b ≼ nat c → a ≤ c * b
unfolding parts nat
≼-parts-nat a b c hb h = let k = rw (max-eq_right hb) at h.le in omega arith

pub nat-≼_parts : (a b c : ℕ) → 0 < b → c * b ≤ a → nat c ≼ parts false a b
unfolding parts nat
nat-≼_parts a b c hb h = record { le = rw (max-eq_right hb) (omega arith) }

pub ≼-nat-parts : (a b c : ℕ) → 0 < b → nat c ≼ parts false a b → c * b ≤ a
unfolding parts nat
≼-nat-parts a b c hb h = let k = rw (max-eq_right hb) at h.le in omega arith

pub parts-≺_nat : (a b c : ℕ) → 0 < b → a < c * b → parts false a b ≺ nat c
unfolding parts nat
parts-≺_nat a b c hb h = record { lt = rw (max-eq_right hb) (omega arith) }

pub ≺-parts-nat : (a b c : ℕ) → 0 < b → parts false a b ≺ nat c → a < c * b
unfolding parts nat
≺-parts-nat a b c hb h = let k = rw (max-eq_right hb) at h.lt in omega arith

pub nat-≺_parts : (a b c : ℕ) → 0 < b → c * b < a → nat c ≺ parts false a b
unfolding parts nat
nat-≺_parts a b c hb h = record { lt = rw (max-eq_right hb) (omega arith) }

pub ≺-nat-parts : (a b c : ℕ) → 0 < b → nat c ≺ parts false a b → c * b < a
unfolding parts nat
≺-nat-parts a b c hb h = let k = rw (max-eq_right hb) at h.lt in omega arith

pub parts-⊗_nat : (s : Bool) (a b k : ℕ) → parts s a b ⊗ nat k ≈ parts s (a * k) b
unfolding parts nat ◌⊗◌
parts-⊗_nat false a b k = omega arith
parts-⊗_nat true a b k = omega arith

pub parts-⊘_nat : (s : Bool) (a b k : ℕ) → 0 < b → 0 < k → parts s a b ⊘ nat k ≈ parts s a (b * k)
unfolding parts nat ◌⊗◌ ◌⊘◌ inv
parts-⊘_nat false a b k hb hk = record { eq = rw (sub-zero k, max-eq_right hk, max-eq_right hb, max-eq_right (mul-pos hb hk)) (omega arith) }
parts-⊘_nat true a b k hb hk = record { eq = rw (sub-zero k, max-eq_right hk, max-eq_right hb, max-eq_right (mul-pos hb hk)) (omega arith) }
