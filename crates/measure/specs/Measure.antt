-- How large an exact number is and how fine, in units of 2^-bias: the measures that go through the operations, by which the range of every
-- bracket is shown; there are no others. They speak of the size, never of the sign. Assumes nothing.
use Rattle.std.specs.Prelude.{◌≡◌, ◌⊎◌, Bool, ℕ, suc, ◌*◌, ◌^◌, ◌≤◌, ◌<◌}
use Rattle.exact.specs.Fraction.{Fraction, parts, ◌≈◌}
use Rattle.sheet.specs.Number.{bias}

-- zero or at least 2^l, and at most 2^h: for products and quotients
pub record Sized (l h : ℕ) (x : Fraction) : Type 0 where
  pub neg : Bool
  pub num : ℕ
  pub den : ℕ
  pub is : x ≈ parts neg num den
  pub some : 0 < den
  pub least : (num ≡ 0) ⊎ (2 ^ l * den ≤ num * 2 ^ bias)
  pub most : num * 2 ^ bias ≤ 2 ^ h * den

-- a multiple of 2^g, at most 2^h: for sums and differences
pub record Fine (g h : ℕ) (x : Fraction) : Type 0 where
  pub neg : Bool
  pub times : ℕ
  pub is : x ≈ parts neg (times * 2 ^ g) (2 ^ bias)
  pub most : times * 2 ^ g ≤ 2 ^ h

-- a number of at most suc v digits, zero or at least 2^l, and at most 2^h: what rounding gives
pub record Digited (v l h : ℕ) (x : Fraction) : Type 0 where
  pub neg : Bool
  pub m : ℕ
  pub e : ℕ
  pub is : x ≈ parts neg (m * 2 ^ e) (2 ^ bias)
  pub few : m < 2 ^ suc v
  pub least : (m ≡ 0) ⊎ (2 ^ l ≤ m * 2 ^ e)
  pub most : m * 2 ^ e ≤ 2 ^ h
