-- Magnitudes: the digits m and the place e of a number without its sign, m · 2^e units, and the rounding of a quotient num / den of
-- units to w digits, toward zero and away from it. Down and up of a sheet number are these with a sign. Assumes nothing.
use Rattle.std.specs.Prelude.{◌≡◌, Bool, true, false, ℕ, suc, ◌+◌, ◌-◌, ◌*◌, ◌/◌, ◌^◌, ◌≤◌, ◌<◌, eqb}
use Rattle.std.specs.Float.Ieee.{size}

pub record Magnitude : Type 0 where
  pub m : ℕ
  pub e : ℕ

abbrev pub units : Magnitude → ℕ
units x = x.m * 2 ^ x.e

abbrev pub pick : Bool → Magnitude → Magnitude → Magnitude
pick true a b = a
pick false a b = b

-- the leading w digits of n, or all of them where it has fewer
unfoldable pub lead : ℕ → ℕ → Magnitude
lead w n = record { m = n / 2 ^ (size n - w); e = size n - w }

-- the next number of w digits: one more in the last digit, and past the greatest of them the least, one place up
unfoldable pub next : ℕ → Magnitude → Magnitude
next w x = pick (eqb (x.m + 1) (2 ^ w)) (record { m = 2 ^ w / 2; e = x.e + 1 }) (record { m = x.m + 1; e = x.e })

-- the greatest magnitude of w digits that is at most num / den
unfoldable pub floor_mag : ℕ → ℕ → ℕ → Magnitude
floor_mag w num den = lead w (num / den)

-- the least magnitude of w digits that is at least num / den
unfoldable pub ceil_mag : ℕ → ℕ → ℕ → Magnitude
ceil_mag w num den = let x = floor_mag w num den in pick (eqb (units x * den) num) x (next w x)

-- away from zero for `true`, toward zero for `false`
unfoldable pub round_mag : Bool → ℕ → ℕ → ℕ → Magnitude
round_mag true w num den = ceil_mag w num den
round_mag false w num den = floor_mag w num den

-- what is known of a magnitude while its digits are being found: the digits so far, at place e, are all of num / den (not sticky), or
-- something was cut below them (sticky)
unfoldable pub Cut : Bool → ℕ → ℕ → Type 0
Cut true a n = a < n
Cut false a n = a ≡ n

pub record Place (m : ℕ) (sticky : Bool) (e num den : ℕ) : Type 0 where
  pub low : Cut sticky (m * 2 ^ e * den) num
  pub high : num < (m + 1) * 2 ^ e * den

-- the digits are those of the spelling with suc v digits: no more, and no fewer but at the last place
pub record Fit (v m e : ℕ) : Type 0 where
  pub small : m < 2 ^ suc v
  pub full : 0 < e → 2 ^ v ≤ m

-- the rounding of digits at their place: one more where something was cut and the direction is away from zero
unfoldable pub finish : Bool → Bool → ℕ → Magnitude → Magnitude
finish true true w x = next w x
finish true false w x = x
finish false sticky w x = x

-- a lies on the side of n to which the direction goes: not below it for `true` (away from zero), not above it for `false`
unfoldable pub Side : Bool → ℕ → ℕ → Type 0
Side true a n = n ≤ a
Side false a n = a ≤ n

-- the same digits t places up
abbrev pub raise : ℕ → Magnitude → Magnitude
raise t x = record { m = x.m; e = x.e + t }
