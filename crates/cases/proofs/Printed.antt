-- P1 to P11 hold, and P1 to P8 at 53 bits: the one theorem over the list of cases. Assumes nothing.
use mathlib.Core.Path.{◌≡◌, ap₂, ◌∙◌}
use mathlib.Core.Bool.{false}
use Prim.Native.Nat.{ℕ, suc}
use lib.ListN.{drop}
use Rattle.exact.specs.Fraction.{nat, parts, ◌⊖◌}
use Rattle.sheet.specs.declared.Sheet.{Sheet}
use Rattle.sheet.specs.Number.{value}
use Rattle.sheet.specs.Round.{down, up}
use Rattle.sheet.proofs.Cases.{P1-down, P1-up, P2-down, P2-up, P3-down, P3-up, P4-down, P4-up, P5-down, P5-up, P6-down, P6-up, P7-down, P7-up, P8-down, P8-up, P1-down-53, P1-up-53, P2-down-53, P2-up-53, P3-down-53, P3-up-53, P4-down-53, P4-up-53, P5-down-53, P5-up-53, P6-down-53, P6-up-53, P7-down-53, P7-up-53, P8-down-53, P8-up-53}
use Rattle.bracket.specs.Span.{Span, whole}
use Rattle.bracket.specs.Rules.{ends, given, rounded, minus}
use Rattle.bracket.proofs.Inclusion.{given_ordered}
use Rattle.bracket.proofs.Within.{point-ordered}
use Rattle.bracket.proofs.Same.{rounded-≃}
use Rattle.bracket.proofs.Signs.{over-minus}
use Rattle.series.proofs.Cases.{P9, P10}
use Rattle.term.proofs.Cases.{row38-read}
use Rattle.cases.specs.Case.{AllHold}
use Rattle.cases.specs.Printed.{cases, between}

-- a rounded span is its two roundings
both : (w : ℕ) (A : Span) (lo hi : Sheet) → down w A.low ≡ lo → up w A.high ≡ hi → rounded w A ≡ between lo hi
unfolding rounded
both w A lo hi p q = ap₂ between p q

-- 1 less the bracket of 1/3: the difference needs two of the four results
one-less-third : (v : ℕ) {lo hi : Sheet} → down (suc v) (nat 1 ⊖ value (up (suc v) (parts false 1 3))) ≡ lo → up (suc v) (nat 1 ⊖ value (down (suc v) (parts false 1 3))) ≡ hi
    → minus (suc v) (whole 1) (ends (given (suc v) (parts false 1 3))) ≡ between lo hi
unfolding rounded
one-less-third v p q =
    rounded-≃ v (over-minus {A = whole 1} {B = ends (given (suc v) (parts false 1 3))} (point-ordered (nat 1)) (given_ordered v (parts false 1 3)))
    ∙ ap₂ between p q

pub all_hold : AllHold cases
all_hold = (
  both 32 _ _ _ P1-down P1-up,
  (
    both 32 _ _ _ P2-down P2-up,
    (
      both 32 _ _ _ P3-down P3-up,
      (
        both 32 _ _ _ P4-down P4-up,
        (
          both 32 _ _ _ P5-down P5-up,
          (
            both 32 _ _ _ P6-down P6-up,
            (
              both 32 _ _ _ P7-down P7-up,
              (
                one-less-third 31 P8-down P8-up,
                (
                  P9,
                  (
                    P10,
                    (
                      row38-read,
                      second_column,
                    ),
                  ),
                ),
              ),
            ),
          ),
        ),
      ),
    ),
  ),
)
  where
    second_column : AllHold (drop 11 cases)
    second_column = (
      both 53 _ _ _ P1-down-53 P1-up-53,
      (
        both 53 _ _ _ P2-down-53 P2-up-53,
        (
          both 53 _ _ _ P3-down-53 P3-up-53,
          (
            both 53 _ _ _ P4-down-53 P4-up-53,
            (
              both 53 _ _ _ P5-down-53 P5-up-53,
              (
                both 53 _ _ _ P6-down-53 P6-up-53,
                (
                  both 53 _ _ _ P7-down-53 P7-up-53,
                  (
                    one-less-third 52 P8-down-53 P8-up-53,
                    tt,
                  ),
                ),
              ),
            ),
          ),
        ),
      ),
    )
