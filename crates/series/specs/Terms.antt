-- The exponential as the code takes it: what is asked of x, and the term and the sum after k steps. Assumes nothing.
use Rattle.std.specs.Prelude.{ℕ, ◌+◌, ◌-◌, ◌^◌, false}
use Rattle.exact.specs.Fraction.{nat, parts, ◌≼◌}
use Rattle.sheet.specs.Number.{bias}
use Rattle.bracket.specs.Span.{Span, Each}
use Rattle.measure.specs.Measure.{Sized}
use Rattle.bracket.specs.declared.Bracket.{Bracket}
use Rattle.series.specs.Exponential.{exp_term, exp_sum}

-- what the code takes: from 0 to 128, each end zero or at least 2^-292
pub record Taken (X : Span) : Type 0 where
  pub order : X.low ≼ X.high
  pub above : nat 0 ≼ X.low
  pub sized : Each (Sized (bias - 292) (bias + 7)) X

-- from 2^-57 to 64, as every power of a reduced density of kind 38 is
pub record Factor (X : Span) : Type 0 where
  pub least : parts false 1 (2 ^ 57) ≼ X.low
  pub order : X.low ≼ X.high
  pub most : X.high ≼ nat 64

pub record Terms : Type 0 where
  pub term : Bracket
  pub sum : Bracket

-- term k, and the sum of the terms 0 to k
abbrev pub terms_to : ℕ → Span → ℕ → Terms
terms_to w X k = record { term = exp_term w X k; sum = exp_sum w X k }
