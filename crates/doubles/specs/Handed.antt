-- The f64 of an exact value (document 01, "Verdicts": an end handed out is the f64 of exactly that value, zero as +0.0). Assumes nothing.
use Rattle.std.specs.Prelude.{ℕ, ◌*◌, ◌^◌, ◌<◌, Bool, Float}
use Rattle.std.specs.Float.{binary64}
use Rattle.std.specs.Float.Ieee.{round}
use Rattle.exact.specs.Fraction.{Fraction, parts, negative, top, bottom, ◌≈◌}

-- The f64 nearest to x. Where x is exactly an f64's value, nothing is rounded (`proofs/Handed.antt`); zero is not negative.
unfoldable pub double_of : Fraction → Float
double_of x = round binary64 (negative x) (top x) (bottom x)

-- x is exactly an f64's value: a multiple of 2^-1074, below 2^1024 in size, of at most 53 digits
pub record DoubleValue (x : Fraction) : Type 0 where
  pub sign : Bool
  pub digits : ℕ
  pub place : ℕ
  pub few : digits < 2 ^ 53
  pub small : digits * 2 ^ place < 2 ^ 2098
  pub value : x ≈ parts sign (digits * 2 ^ place) (2 ^ 1074)
