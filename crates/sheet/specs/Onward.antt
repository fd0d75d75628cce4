-- Sheet numbers further on, away from zero: the next one, and the one n steps on. Assumes nothing.
use Rattle.std.specs.Prelude.{ℕ, zero, suc}
use Rattle.sheet.specs.declared.Sheet.{Sheet}
use Rattle.sheet.specs.Magnitude.{Magnitude, next}

abbrev pub with_digits : Sheet → Magnitude → Sheet
with_digits s x = record { neg = s.neg; m = x.m; e = x.e }

-- the next sheet number of w bits with the same sign
abbrev pub next_sheet : ℕ → Sheet → Sheet
next_sheet w s = with_digits s (next w (record { m = s.m; e = s.e }))

-- n times the next
unfoldable pub onward : ℕ → ℕ → Sheet → Sheet
onward w zero s = s
onward w (suc n) s = next_sheet w (onward w n s)
