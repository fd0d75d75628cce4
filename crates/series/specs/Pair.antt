-- What the logarithm of a density ratio asks of its two densities, and of r on the way. Assumes nothing.
use Rattle.std.specs.Prelude.{ℕ, T, Float, false}
use Rattle.exact.specs.Fraction.{parts, leq, ◌≼◌}
use Rattle.sheet.specs.Number.{value}
use Rattle.kind.specs.Kind.{widest}
use Rattle.doubles.specs.Double.{exact_of}
use Rattle.doubles.specs.Range.{accepted_density}
use Rattle.bracket.specs.declared.Bracket.{Bracket}
use Rattle.bracket.specs.Held.{Held}

-- accepted densities of either kind, the vapour's not above the liquid's
pub record Pair (liquid vapour : Float) : Type 0 where
  pub dense : T (accepted_density widest liquid)
  pub thin : T (accepted_density widest vapour)
  pub order : T (leq (exact_of vapour) (exact_of liquid))

-- from 1/2 to 5/2
pub record NearOne (v : ℕ) (R : Bracket) : Type 0 where
  pub held : Held v R
  pub least : parts false 1 2 ≼ value R.lo
  pub most : value R.hi ≼ parts false 5 2
