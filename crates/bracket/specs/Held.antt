-- What is asked of a bracket that the code works on: both ends in the range of sheet numbers of one width, the lower not above the upper;
-- and what holds of both ends. Assumes nothing.
use Rattle.std.specs.Prelude.{ℕ, suc, ◌<◌}
use Rattle.exact.specs.Fraction.{◌≼◌}
use Rattle.sheet.specs.declared.Sheet.{Sheet}
use Rattle.sheet.specs.Number.{value}
use Rattle.sheet.specs.Range.{InRange}
use Rattle.bracket.specs.declared.Bracket.{Bracket}
use Rattle.bracket.specs.Rules.{power}

pub record Ends (P : Sheet → Type 0) (b : Bracket) : Type 0 where
  pub lo : P b.lo
  pub hi : P b.hi

pub record Held (v : ℕ) (b : Bracket) : Type 0 where
  pub lo : InRange v b.lo
  pub hi : InRange v b.hi
  pub order : value b.lo ≼ value b.hi

-- what the n-th power is made of is held: b, and every lower power of it
pub record Powers (v : ℕ) (b : Bracket) (n : ℕ) : Type 0 where
  pub base : Held v b
  pub each : (k : ℕ) → k < n → Held v (power (suc v) b k)
