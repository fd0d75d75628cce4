-- Numbers by their digits and place, and an end of the exponential's argument. Assumes nothing.
use Rattle.std.specs.Prelude.{◌≡◌, ℕ, ◌+◌, ◌≤◌, Bool, false}
use Rattle.sheet.specs.declared.Sheet.{Sheet}
use Rattle.sheet.specs.Number.{bias, Digits}
use Rattle.sheet.specs.Range.{Width}

-- suc v digits at a place between two others
pub record Placed (v : ℕ) (neg : Bool) (least most : ℕ) (s : Sheet) : Type 0 where
  pub sign : s.neg ≡ neg
  pub digits : Digits v s.m
  pub low : least ≤ s.e
  pub high : s.e ≤ most

-- no sign, suc v digits, and a place that puts it from 2^-57 to 64
pub record Argument (v : ℕ) (s : Sheet) : Type 0 where
  pub plain : s.neg ≡ false
  pub width : Width v
  pub digits : Digits v s.m
  pub least : bias ≤ s.e + (57 + v)
  pub most : s.e + v ≤ bias + 5
