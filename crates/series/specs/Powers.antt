-- The logarithm's series as the code takes it: what is asked of z, and the power and the sum after j steps. Assumes nothing.
use Rattle.std.specs.Prelude.{ℕ, ◌+◌, ◌-◌}
use Rattle.exact.specs.Fraction.{nat, ◌≼◌}
use Rattle.sheet.specs.Number.{bias, value}
use Rattle.bracket.specs.declared.Bracket.{Bracket}
use Rattle.bracket.specs.Span.{Each}
use Rattle.bracket.specs.Rules.{ends}
use Rattle.bracket.specs.Held.{Held}
use Rattle.measure.specs.Measure.{Sized}
use Rattle.series.specs.Logarithm.{ln_power, ln_sum}

-- at most 1 in size, zero or at least 2^-(v + 3), and the upper end not below zero
pub record Argument (v : ℕ) (Z : Bracket) : Type 0 where
  pub held : Held v Z
  pub sized : Each (Sized (bias - (v + 3)) bias) (ends Z)
  pub reach : nat 0 ≼ value Z.hi

pub record Powers : Type 0 where
  pub power : Bracket
  pub sum : Bracket

-- power j, and the sum of the quotients 0 to j
abbrev pub powers_to : ℕ → Bracket → ℕ → Powers
powers_to w Z j = record { power = ln_power w Z j; sum = ln_sum w Z j }
