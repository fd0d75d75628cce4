-- What the exact parts of an f64 are. Assumes nothing.
use Rattle.std.specs.Prelude.{◌*◌, ◌^◌, ◌≤◌, ◌<◌, ◌≡◌, false, Float}
use Rattle.exact.specs.Fraction.{parts, ◌≈◌}
use Rattle.sheet.specs.declared.Sheet.{Sheet}
use Rattle.sheet.specs.Number.{bias}
use Rattle.doubles.specs.Double.{exact_of}

-- the parts are the f64's value, exactly, and zero has one spelling
pub record Decoded (x : Float) (r : Sheet) : Type 0 where
  pub plain : r.m ≡ 0 → r.neg ≡ false
  pub value : parts r.neg (r.m * 2 ^ r.e) (2 ^ bias) ≈ exact_of x
  pub few : r.m < 2 ^ 53
  pub place : r.e ≤ 263115
