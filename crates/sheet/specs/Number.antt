-- Sheet numbers (01, "Sheet numbers and brackets"): zero, or ± m · 2^e with m of suc v digits, and the exact value of each. The place e is
-- held from the bottom, in units of 2^-bias, so that it is never negative. Assumes nothing.
use Rattle.std.specs.Prelude.{◌≡◌, ◌⊎◌, Bool, false, not, ◌&&◌, cond, ℕ, suc, ◌+◌, ◌*◌, ◌^◌, ◌≤◌, ◌<◌, eqb}
use Rattle.exact.specs.Fraction.{Fraction, nat, parts}
use Rattle.sheet.specs.declared.Sheet.{Sheet}
use Rattle.sheet.specs.Magnitude.{Magnitude, Fit}

-- 2^18: room below and above for every exponent that the equation meets
unfoldable pub bias : ℕ
bias = 262144

unfoldable pub value : Sheet → Fraction
value s = parts s.neg (s.m * 2 ^ s.e) (2 ^ bias)

abbrev pub plain_zero : Sheet
plain_zero = record { neg = false; m = 0; e = 0 }

-- a magnitude with a sign; zero has none
unfoldable pub signed : Bool → Magnitude → Sheet
signed neg x = record { neg = neg && not (eqb x.m 0); m = x.m; e = x.e }

unfoldable pub negate_sheet : Sheet → Sheet
negate_sheet s = signed (not s.neg) (record { m = s.m; e = s.e })

-- the number times 2^t
unfoldable pub raise_sheet : ℕ → Sheet → Sheet
raise_sheet t s = record { neg = s.neg; m = s.m; e = cond (eqb s.m 0) s.e (s.e + t) }

-- m has suc v digits
pub record Digits (v m : ℕ) : Type 0 where
  pub low : 2 ^ v ≤ m
  pub high : m < 2 ^ suc v

-- the one spelling of a sheet number of suc v bits
abbrev pub Normal : ℕ → Sheet → Type 0
Normal v s = (s ≡ plain_zero) ⊎ Digits v s.m

-- a spelling that every rounding has, also one that falls below 2^v units, where digits are missing at the last place
pub record Spelled (v : ℕ) (s : Sheet) : Type 0 where
  pub fit : Fit v s.m s.e
  pub plain : s.m ≡ 0 → s.neg ≡ false

-- the sheet numbers of suc v bits with any exponent a - b, apart from how they are held
pub data SheetNumber (v : ℕ) : Fraction → Type 0 where
  nought : SheetNumber v (nat 0)
  number : (neg : Bool) (m a b : ℕ) → Digits v m → SheetNumber v (parts neg (m * 2 ^ a) (2 ^ b))
