-- The ends that meet in a product where not both factors reach across zero. Assumes nothing.
use Rattle.std.specs.Prelude.{◌≡◌, Bool, not, ◌&&◌, ℕ, suc}
use Rattle.exact.specs.Fraction.{◌⊗◌}
use Rattle.sheet.specs.Number.{value}
use Rattle.sheet.specs.Round.{down, up}
use Rattle.sheet.specs.Range.{InRange}
use Rattle.bracket.specs.declared.Bracket.{Bracket}
use Rattle.bracket.specs.declared.products.Meeting.{Meeting}
use Rattle.bracket.specs.Rules.{ends, times}

-- by their signs neither end is below zero
abbrev pub nowhere_below : Bracket → Bool
nowhere_below b = not b.lo.neg && not b.hi.neg

-- by their signs both reach across zero
abbrev pub both_across : Bracket → Bracket → Bool
both_across a b = not a.hi.neg && (not b.hi.neg && (b.lo.neg && a.lo.neg))

-- the product of p and q rounded down and that of r and s rounded up are the product
pub record Meets (v : ℕ) (a b : Bracket) (m : Meeting) : Type 0 where
  pub p : InRange v m.p
  pub q : InRange v m.q
  pub r : InRange v m.r
  pub s : InRange v m.s
  pub product : record { lo = down (suc v) (value m.p ⊗ value m.q); hi = up (suc v) (value m.r ⊗ value m.s) } ≡ times (suc v) (ends a) (ends b)
