-- How large a sheet number is and how fine: measures on its size in units of 2^-bias, and the range that the operations ask for
-- (02 h: exponents may reach 80,000 either way). Assumes nothing.
use Rattle.std.specs.Prelude.{◌≡◌, ◌⊎◌, ℕ, ◌+◌, ◌-◌, ◌*◌, ◌^◌, ◌≤◌, ◌<◌}
use Rattle.std.specs.Int.{◌∣◌}
use Rattle.sheet.specs.declared.Sheet.{Sheet}
use Rattle.sheet.specs.Number.{bias, plain_zero, Normal}

-- the size in units
abbrev pub extent : Sheet → ℕ
extent s = s.m * 2 ^ s.e

-- zero or at least 2^l, and at most 2^h
pub record Span (l h n : ℕ) : Type 0 where
  pub least : (n ≡ 0) ⊎ (2 ^ l ≤ n)
  pub most : n ≤ 2 ^ h

-- a multiple of 2^g
pub record Grain (g n : ℕ) : Type 0 where
  pub divides : 2 ^ g ∣ n

-- zero, or an exponent from -lo to hi
abbrev pub Exponent : ℕ → ℕ → Sheet → Type 0
Exponent lo hi s = (s ≡ plain_zero) ⊎ ((bias ≤ s.e + lo) × (s.e ≤ bias + hi))

pub record Within (v lo hi : ℕ) (s : Sheet) : Type 0 where
  pub normal : Normal v s
  pub exponent : Exponent lo hi s

-- one less than a width: sheet numbers have 32 bits or 53 (02 d)
pub record Width (v : ℕ) : Type 0 where
  pub low : 31 ≤ v
  pub high : v ≤ 52
  pub either : (v ≡ 31) ⊎ (v ≡ 52)

-- what the operations take: a sheet number of either width, with an exponent from -80,000 to 80,000
pub record InRange (v : ℕ) (s : Sheet) : Type 0 where
  pub width : Width v
  pub within : Within v 80000 80000 s

-- the value is exactly an f64: a multiple of 2^-1074 below 2^1024
pub record Doubled (s : Sheet) : Type 0 where
  pub fine : Grain (bias - 1074) (extent s)
  pub small : extent s < 2 ^ (1024 + bias)
