-- The clip of document 02, h, as the code takes it: the point is a sheet number. Assumes nothing.
use Rattle.std.specs.Prelude.{ℕ, Bool, cond}
use Rattle.exact.specs.Fraction.{nat, leq}
use Rattle.sheet.specs.Number.{value, plain_zero}
use Rattle.sheet.specs.declared.Sheet.{Sheet}
use Rattle.sheet.specs.Round.{down}
use Rattle.bracket.specs.declared.Bracket.{Bracket}

-- the smaller of 128 and g's lower end
unfoldable pub clip_at : ℕ → Bracket → Sheet
clip_at w g = cond (leq (nat 128) (value g.lo)) (down w (nat 128)) g.lo

-- what the exponential is taken of: all of g, or that point
unfoldable pub exponent_of : ℕ → (all : Bool) → Bracket → Bracket
exponent_of w all g = cond all g (record { lo = clip_at w g; hi = clip_at w g })

-- E by that exponential: a clipped one starts at zero
unfoldable pub started_at : (all : Bool) → Bracket → Bracket
started_at all e = cond all e (record { lo = plain_zero; hi = e.hi })
