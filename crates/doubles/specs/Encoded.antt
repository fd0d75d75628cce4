-- Sizes m * 2^e, in units of 2^-bias, that are exactly an f64's, and the spelling of them that an f64's pattern holds. Assumes nothing.
use Rattle.std.specs.Prelude.{ℕ, ◌+◌, ◌-◌, ◌*◌, ◌^◌, ◌≤◌, ◌<◌, ◌≡◌}
use Rattle.sheet.specs.declared.place.Found.{Found}
use Rattle.sheet.specs.Number.{bias}
use Rattle.sheet.specs.Range.{Grain}

-- a multiple of 2^-1074 below 2^1024, of at most 53 digits
pub record Encodable (m e : ℕ) : Type 0 where
  pub few : m < 2 ^ 53
  pub fine : Grain (bias - 1074) (m * 2 ^ e)
  pub small : m * 2 ^ e < 2 ^ (1024 + bias)

-- the same size with 53 digits, or with fewer at the last place, 2^-1074
pub record Settled (m e : ℕ) (r : Found) : Type 0 where
  pub value : r.m * 2 ^ r.e ≡ m * 2 ^ e
  pub few : r.m < 2 ^ 53
  pub least : 261070 ≤ r.e
  pub full : 261070 < r.e → 2 ^ 52 ≤ r.m
