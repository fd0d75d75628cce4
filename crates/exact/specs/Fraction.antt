-- Exact fractions: the values that sheet numbers and brackets are rounded from. A fraction is (p - n) / d in natural numbers, with d
-- above zero; it is never reduced, and "equal" is `◌≈◌`. Assumes nothing.
use Rattle.std.specs.Prelude.{ℕ, ◌+◌, ◌*◌, ◌-◌, ◌≤◌, ◌<◌, max, ◌≡◌, Bool, true, false, cond, leb, ltb}
use Rattle.std.proofs.Common.{mul-pos, zero-lt-suc}
use Rattle.std.proofs.Math.Nat.{le-max_left}

infixl 65 ◌⊕◌ ◌⊖◌
infixl 70 ◌⊗◌ ◌⊘◌
infix 50 ◌≼◌ ◌≺◌ ◌≈◌
pub record Fraction : Type 0 where
  pub p : ℕ
  pub n : ℕ
  pub d : ℕ
  pub pos : 0 < d

-- the whole number a
unfoldable pub nat : ℕ → Fraction
nat a = record { p = a; n = 0; d = 1; pos = zero-lt-suc 0 }

-- a / b, negative for `true`; b is above zero wherever a law speaks of it
unfoldable pub parts : Bool → ℕ → ℕ → Fraction
parts false a b = record { p = a; n = 0; d = max 1 b; pos = le-max_left 1 b }
parts true a b = record { p = 0; n = a; d = max 1 b; pos = le-max_left 1 b }

-- a fraction is its parts: whether it is below zero, and its size as a quotient of two numbers
unfoldable pub negative : Fraction → Bool
negative x = ltb x.p x.n

unfoldable pub top : Fraction → ℕ
top x = (x.p - x.n) + (x.n - x.p)

unfoldable pub bottom : Fraction → ℕ
bottom x = x.d

unfoldable pub negate : Fraction → Fraction
negate x = record { p = x.n; n = x.p; d = x.d; pos = x.pos }

unfoldable pub ◌⊕◌ : Fraction → Fraction → Fraction
x ⊕ y = record { p = x.p * y.d + y.p * x.d; n = x.n * y.d + y.n * x.d; d = x.d * y.d; pos = mul-pos x.pos y.pos }

unfoldable pub ◌⊖◌ : Fraction → Fraction → Fraction
x ⊖ y = x ⊕ negate y

unfoldable pub ◌⊗◌ : Fraction → Fraction → Fraction
x ⊗ y = record { p = x.p * y.p + x.n * y.n; n = x.p * y.n + x.n * y.p; d = x.d * y.d; pos = mul-pos x.pos y.pos }

-- 1 / y; y is above zero wherever a law speaks of it
unfoldable pub inv : Fraction → Fraction
inv y = record { p = y.d; n = 0; d = max 1 (y.p - y.n); pos = le-max_left 1 (y.p - y.n) }

unfoldable pub ◌⊘◌ : Fraction → Fraction → Fraction
x ⊘ y = x ⊗ inv y

-- the order, by cross products
pub record ◌≼◌ (x y : Fraction) : Type 0 where
  pub le : x.p * y.d + y.n * x.d ≤ y.p * x.d + x.n * y.d

pub record ◌≺◌ (x y : Fraction) : Type 0 where
  pub lt : x.p * y.d + y.n * x.d < y.p * x.d + x.n * y.d

pub record ◌≈◌ (x y : Fraction) : Type 0 where
  pub eq : x.p * y.d + y.n * x.d ≡ y.p * x.d + x.n * y.d

-- the order as a test
unfoldable pub leq : Fraction → Fraction → Bool
leq x y = leb (x.p * y.d + y.n * x.d) (y.p * x.d + x.n * y.d)

unfoldable pub least : Fraction → Fraction → Fraction
least x y = cond (leq x y) x y

unfoldable pub greatest : Fraction → Fraction → Fraction
greatest x y = cond (leq x y) y x
