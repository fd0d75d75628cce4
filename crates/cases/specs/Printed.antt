-- The cases that document 01 prints as proved, P1 to P11, in its order, and behind them the second column of P1 to P8, at 53 bits (document
-- 02, d). Assumes nothing.
use Rattle.std.specs.Prelude.{ℕ, ◌+◌, ◌-◌, ◌^◌, Bool, true, false, List, [], ◌∷◌}
use Rattle.exact.specs.Fraction.{nat, parts}
use Rattle.sheet.specs.declared.Sheet.{Sheet}
use Rattle.sheet.specs.Number.{plain_zero}
use Rattle.bracket.specs.declared.Bracket.{Bracket}
use Rattle.bracket.specs.Span.{whole}
use Rattle.bracket.specs.Rules.{ends, given, minus}
use Rattle.series.specs.Exponential.{expneg}
use Rattle.series.specs.Logarithm.{ln_ratio}
use Rattle.term.specs.Packed.{term_at}
use Rattle.term.specs.Row.{row38, fields38}
use Rattle.cases.specs.Case.{Case, bracket_is, term_is}

-- m x 2^-k, and m x 2^k; a place is held with 262144 added
abbrev pub small : Bool → ℕ → ℕ → Sheet
small neg m k = record { neg = neg; m = m; e = 262144 - k }

abbrev pub large : Bool → ℕ → ℕ → Sheet
large neg m k = record { neg = neg; m = m; e = 262144 + k }

abbrev pub between : Sheet → Sheet → Bracket
between lo hi = record { lo = lo; hi = hi }

abbrev pub cases : List Case
cases =
    bracket_is (given 32 (nat 1)) (between (small false (2 ^ 31) 31) (small false (2 ^ 31) 31))
    ∷ bracket_is (given 32 (parts false 1 3)) (between (small false 2863311530 33) (small false 2863311531 33))
    ∷ bracket_is (given 32 (parts true 1 3)) (between (small true 2863311531 33) (small true 2863311530 33))
    ∷ bracket_is (given 32 (nat (2 ^ 32 + 1))) (between (large false (2 ^ 31) 1) (large false (2 ^ 31 + 1) 1))
    ∷ bracket_is (given 32 (nat (2 ^ 33 - 1))) (between (large false (2 ^ 32 - 1) 1) (large false (2 ^ 31) 2))
    ∷ bracket_is (given 32 (parts false 1 10)) (between (small false 3435973836 35) (small false 3435973837 35))
    ∷ bracket_is (given 32 (nat 322)) (between (small false 2701131776 23) (small false 2701131776 23))
    ∷ bracket_is (minus 32 (whole 1) (ends (given 32 (parts false 1 3)))) (between (small false 2863311530 32) (small false 2863311531 32))
    ∷ bracket_is (expneg 32 (whole 0)) (between (small false (2 ^ 31) 31) (small false (2 ^ 31) 31))
    ∷ bracket_is (ln_ratio 32 (nat 322) (nat 322)) (between plain_zero plain_zero)
    ∷ term_is (term_at 38 row38 0) fields38
    ∷ bracket_is (given 53 (nat 1)) (between (small false 4503599627370496 52) (small false 4503599627370496 52))
    ∷ bracket_is (given 53 (parts false 1 3)) (between (small false 6004799503160661 54) (small false 6004799503160662 54))
    ∷ bracket_is (given 53 (parts true 1 3)) (between (small true 6004799503160662 54) (small true 6004799503160661 54))
    ∷ bracket_is (given 53 (nat (2 ^ 32 + 1))) (between (small false 4503599628419072 20) (small false 4503599628419072 20))
    ∷ bracket_is (given 53 (nat (2 ^ 33 - 1))) (between (small false 9007199253692416 20) (small false 9007199253692416 20))
    ∷ bracket_is (given 53 (parts false 1 10)) (between (small false 7205759403792793 56) (small false 7205759403792794 56))
    ∷ bracket_is (given 53 (nat 322)) (between (small false 5664683906301952 44) (small false 5664683906301952 44))
    ∷ bracket_is (minus 53 (whole 1) (ends (given 53 (parts false 1 3)))) (between (small false 6004799503160661 53) (small false 6004799503160662 53))
    ∷ []
