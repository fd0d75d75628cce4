-- What each step of the rounding promises: it keeps every quotient whose place it is handed. Assumes nothing.
use Rattle.std.specs.Prelude.{◌≡◌, Bool, true, ℕ, suc, ◌+◌, ◌-◌, ◌*◌, ◌/◌, ◌^◌, ◌≤◌, ◌<◌}
use Rattle.sheet.specs.declared.Sheet.{Sheet}
use Rattle.sheet.specs.declared.divide.Outcome.{Outcome}
use Rattle.sheet.specs.declared.given.Division.{Division}
use Rattle.sheet.specs.declared.place.Found.{Found}
use Rattle.sheet.specs.Magnitude.{Place, Fit, round_mag}
use Rattle.sheet.specs.Number.{signed, Spelled}
use Rattle.sheet.specs.Round.{away}
use Rattle.sheet.specs.Range.{extent, InRange}

-- every quotient that has the one place has the other
abbrev pub Keeps : Found → Found → Type 0
Keeps x y = (num den : ℕ) → Place x.m x.sticky x.e num den → Place y.m y.sticky y.e num den

-- where something was cut, the digits are all there, or the place is the last
pub record Ready (v : ℕ) (x : Found) : Type 0 where
  pub full : x.sticky ≡ true → 0 < x.e → 2 ^ v ≤ x.m
  pub room : x.e ≤ 2 ^ 62

-- digits that fit a word s places up, and have a place where u are cut again; where something was cut before, no place is opened
pub record Movable (s u : ℕ) (x : Found) : Type 0 where
  pub up : s < 64
  pub down : u < 64
  pub fits : x.m * 2 ^ s < 2 ^ 64
  pub below : s ≤ x.e + u
  pub whole : x.sticky ≡ true → s ≤ u
  pub room : x.e + u < 2 ^ 64

pub record Moved (s u : ℕ) (x y : Found) : Type 0 where
  pub digits : y.m ≡ x.m * 2 ^ s / 2 ^ u
  pub place : y.e + s ≡ x.e + u
  pub keeps : Keeps x y

pub record CutBy (t : ℕ) (x y : Found) : Type 0 where
  pub digits : y.m ≡ x.m / 2 ^ t
  pub place : y.e ≡ x.e + t
  pub keeps : Keeps x y

-- where something was cut, the digits are all there, or the place is not above the last, from which it is less than a word away
pub record Loose (v last : ℕ) (x : Found) : Type 0 where
  pub few : v < 63
  pub near : last < x.e + 64
  pub full : x.sticky ≡ true → last < x.e → 2 ^ v ≤ x.m
  pub room : x.e ≤ 2 ^ 62

-- suc v digits, or fewer at the last place
pub record Normalised (v last : ℕ) (x y : Found) : Type 0 where
  pub small : y.m < 2 ^ suc v
  pub full : last < y.e → 2 ^ v ≤ y.m
  pub least : last ≤ y.e
  pub keeps : Keeps x y
  pub room : y.e ≤ x.e + 64 + last

-- suc v digits, or one more: then the place goes up
pub record Carried (v : ℕ) (neg : Bool) (m e : ℕ) (r : Sheet) : Type 0 where
  pub plain : m < 2 ^ suc v → r ≡ record { neg = neg; m = m; e = e }
  pub carry : 2 ^ suc v ≤ m → r ≡ record { neg = neg; m = m - 2 ^ v; e = e + 1 }

-- both have the digits of a spelling of one width, whichever it is
pub record BothFit (am ae bm be : ℕ) : Type 0 where
  pub v : ℕ
  pub first : Fit v am ae
  pub second : Fit v bm be

pub record BothSpelled (a b : Sheet) : Type 0 where
  pub v : ℕ
  pub first : Spelled v a
  pub second : Spelled v b

-- r is the rounding of every quotient that has the place
abbrev pub Rounds : Bool → Bool → ℕ → Bool → ℕ → ℕ → Sheet → Type 0
Rounds up neg m sticky e w r =
    (num den : ℕ) → Place m sticky e num den → r ≡ signed neg (round_mag (away up neg) w num den)

-- the digits of m · 2^e at a place not below e
pub record Aligned (m e to : ℕ) (y : Found) : Type 0 where
  pub place : y.e ≡ to
  pub small : y.m ≤ m
  pub digits : y.m ≡ m / 2 ^ (to - e)
  pub found : Place y.m y.sticky to (m * 2 ^ e) 1

-- the addends of a sum, the greater first
pub record Addends (v : ℕ) (a b : Sheet) : Type 0 where
  pub first : InRange v a
  pub second : InRange v b
  pub some : 0 < b.m
  pub order : extent b ≤ extent a

-- what a long division has found is num · 2^from / den
pub record Dividing (num den from : ℕ) (x : Division) : Type 0 where
  pub whole : (x.digits * den + x.rest) * 2 ^ x.place ≡ num * 2 ^ from
  pub left : x.rest < den

-- something is left to divide, and there is a place for a digit; before the first digit the rest may be any number
pub record Divisible (den : ℕ) (x : Division) : Type 0 where
  pub few : x.digits < 2 ^ 63
  pub left : 0 < x.digits → x.rest < den
  pub divisor : (0 < den) × (den ≤ 2 ^ 63)
  pub some : 0 < x.digits + x.rest
  pub place : 0 < x.place

-- the same quotient, with a digit more or many
pub record BroughtDown (den : ℕ) (x y : Division) : Type 0 where
  pub same : (y.digits * den + y.rest) * 2 ^ y.place ≡ (x.digits * den + x.rest) * 2 ^ x.place
  pub left : y.rest < den
  pub place : y.place ≤ x.place
  pub more : x.rest < den → y.place < x.place

-- with suc v digits, or no place left
pub record Divided (v num den from : ℕ) (x : Division) : Type 0 where
  pub found : Dividing num den from x
  pub full : 0 < x.place → 2 ^ v ≤ x.digits
  pub place : x.place ≤ from

-- the digits of num / den, and what is left over
pub record Quotes (num den : ℕ) (r : Outcome) : Type 0 where
  pub whole : r.digits * den + r.rest ≡ num
  pub left : r.rest < den

-- and no more of them than there are
pub record Parts (n den : ℕ) (r : Outcome) : Type 0 where
  pub quotes : Quotes n den r
  pub few : r.digits ≤ n
