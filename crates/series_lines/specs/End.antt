-- An end that the exponential takes. Assumes nothing.
use Rattle.std.specs.Prelude.{ℕ, ◌+◌, ◌-◌}
use Rattle.exact.specs.Fraction.{nat, ◌≼◌}
use Rattle.sheet.specs.declared.Sheet.{Sheet}
use Rattle.sheet.specs.Number.{bias, value}
use Rattle.sheet.specs.Range.{InRange}
use Rattle.measure.specs.Measure.{Sized}

-- in range, not below zero, and zero or from 2^-292 to 128
pub record End (v : ℕ) (s : Sheet) : Type 0 where
  pub range : InRange v s
  pub above : nat 0 ≼ value s
  pub sized : Sized (bias - 292) (bias + 7) (value s)
