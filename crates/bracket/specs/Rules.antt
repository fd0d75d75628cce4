-- The rules of brackets (01, "Sheet numbers and brackets") over the count of bits w: a given value, the sum, the difference, the product and
-- the quotient, powers, the last addend of a series once more, and the upper end so many sheet numbers on. Operands are spans, so that a
-- whole number is one as it is. Assumes nothing.
use Rattle.std.specs.Prelude.{ℕ, zero, suc}
use Rattle.exact.specs.Fraction.{Fraction, nat, ◌⊕◌, ◌⊖◌, ◌⊗◌, ◌⊘◌}
use Rattle.sheet.specs.Number.{value}
use Rattle.sheet.specs.Round.{down, up}
use Rattle.sheet.specs.Onward.{onward}
use Rattle.bracket.specs.declared.Bracket.{Bracket}
use Rattle.bracket.specs.Span.{Span, point, over}

-- the exact values of the two sheet numbers
abbrev pub ends : Bracket → Span
ends b = record { low = value b.lo; high = value b.hi }

-- the sheet numbers nearest outside a span: each end is rounded away from the other, once
unfoldable pub rounded : ℕ → Span → Bracket
rounded w A = record { lo = down w A.low; hi = up w A.high }

-- one exact value between its two roundings
abbrev pub given : ℕ → Fraction → Bracket
given w x = rounded w (point x)

-- every operation alike: of the four exact results at the ends the smallest and the largest are kept, and only these are rounded
abbrev pub combined : ℕ → (Fraction → Fraction → Fraction) → Span → Span → Bracket
combined w f A B = rounded w (over f A B)

abbrev pub plus : ℕ → Span → Span → Bracket
plus w A B = combined w ◌⊕◌ A B

abbrev pub minus : ℕ → Span → Span → Bracket
minus w A B = combined w ◌⊖◌ A B

abbrev pub times : ℕ → Span → Span → Bracket
times w A B = combined w ◌⊗◌ A B

-- the divisor's lower end is above zero wherever a law speaks of the quotient
abbrev pub divided : ℕ → Span → Span → Bracket
divided w A B = combined w ◌⊘◌ A B

-- no factor gives 1; one factor more multiplies what the others gave
unfoldable pub power : ℕ → Bracket → ℕ → Bracket
power w b zero = given w (nat 1)
power w b (suc n) = times w (ends (power w b n)) (ends b)

-- how both series close: the upper end of the last addend t counts twice, in the sum's upper end alone
unfoldable pub addlast : ℕ → Bracket → Bracket → Bracket
addlast w s t = record { lo = s.lo; hi = up w (value s.hi ⊕ value t.hi) }

-- the lower end stays, the upper end goes n sheet numbers on
abbrev pub stretched : ℕ → ℕ → Bracket → Bracket
stretched w n b = record { lo = b.lo; hi = onward w n b.hi }
