-- Down and up (01, "Sheet numbers and brackets"): what each must be, and the functions that the rules use. Both are directions on the
-- number line: up of a number below zero goes toward zero. Assumes nothing.
use Rattle.std.specs.Prelude.{Bool, true, false, not, ℕ, ◌*◌, ◌^◌, ◌≤◌, ◌<◌}
use Rattle.exact.specs.Fraction.{Fraction, negative, top, bottom, ◌≼◌}
use Rattle.sheet.specs.declared.Sheet.{Sheet}
use Rattle.sheet.specs.Magnitude.{round_mag}
use Rattle.sheet.specs.Number.{bias, value, signed, Normal, SheetNumber}

-- s is the greatest sheet number of suc v bits, whatever its exponent, that is not above x
pub record IsDown (v : ℕ) (x : Fraction) (s : Sheet) : Type 0 where
  pub normal : Normal v s
  pub below : value s ≼ x
  pub greatest : (y : Fraction) → SheetNumber v y → y ≼ x → y ≼ value s

-- s is the least sheet number of suc v bits, whatever its exponent, that is not below x
pub record IsUp (v : ℕ) (x : Fraction) (s : Sheet) : Type 0 where
  pub normal : Normal v s
  pub above : x ≼ value s
  pub least : (y : Fraction) → SheetNumber v y → x ≼ y → value s ≼ y

-- whether a direction goes away from zero, by the sign
unfoldable pub away : Bool → Bool → Bool
away up true = not up
away up false = up

-- x rounded to w bits: up for `true`, down for `false`
unfoldable pub round : Bool → ℕ → Fraction → Sheet
round up w x = signed (negative x) (round_mag (away up (negative x)) w (top x * 2 ^ bias) (bottom x))

abbrev pub down : ℕ → Fraction → Sheet
down w x = round false w x

abbrev pub up : ℕ → Fraction → Sheet
up w x = round true w x

-- x is zero, or large enough that its rounding to suc v bits has a normal spelling
unfoldable pub Reached : ℕ → Fraction → Type 0
Reached v x = 0 < top x → 2 ^ v * bottom x ≤ top x * 2 ^ bias
