-- `virial::polynomial::third_of` meets its contract. Assumes nothing.
use mathlib.Core.Path.{◌≡◌, sym, subst}
use Prim.Native.Nat.{ℕ, suc}
use native.Mathlib.Omega.{arith}
use Rattle.exact.specs.Fraction.{nat, ◌≺◌}
use Rattle.sheet.specs.Range.{Width}
use Rattle.bracket.specs.declared.Bracket.{Bracket}
use Rattle.bracket.specs.Span.{whole}
use Rattle.bracket.specs.Rules.{ends, given, minus, times}
use Rattle.bracket.proofs.Operands.{whole_held}
use Rattle.equation.proofs.Steps.{held-is, divided-of, whole_times_of}
use Rattle.virial.specs.Rules.{third_of}
use Rattle.virial.proofs.Cases.{square-is}
use Rattle.virial.proofs.Ranges.{square_above}
use Rattle.virial.proofs.Holds.{square-held, apart-held, twice-held}
use Rattle.virial.proofs.polynomial.third_of.Goals as goal

-- 2 times the sums apart
twice-is : {v : ℕ} → Width v → (s d : Bracket) {apart two r : Bracket} → apart ≡ minus (suc v) (ends s) (ends d) → two ≡ given (suc v) (nat 2) → r ≡ times (suc v) (ends two) (ends apart)
    → r ≡ times (suc v) (whole 2) (ends (minus (suc v) (ends s) (ends d)))
twice-is w s d a t e = whole_times_of w 2 (omega arith) t a e

pub difference-apart-requires : goal.difference-apart-requires
difference-apart-requires c = (c.requires.0.held, c.requires.1.held)

pub whole-requires : goal.whole-requires
whole-requires c = (c.requires.0.held.lo.width, omega arith)

pub product-twice-requires : goal.product-twice-requires
product-twice-requires c =
    let w = c.requires.0.held.lo.width in
    (held-is c.whole.ensures (whole_held w 2 (omega arith)), held-is c.difference-apart.ensures (apart-held w _ _ c.requires.0 c.requires.1))

pub whole-critical-requires : goal.whole-critical-requires
whole-critical-requires c = (c.requires.0.held.lo.width, omega arith)

pub product-square-requires : goal.product-square-requires
product-square-requires c =
    let h = held-is c.whole-critical.ensures (whole_held c.requires.0.held.lo.width 322 (omega arith)) in
    (h, h)

pub quotient-requires : goal.quotient-requires
quotient-requires c =
    let w = c.requires.0.held.lo.width in
    let square = square-is w c.whole-critical.ensures c.product-square.ensures in (
      held-is (twice-is w _ _ c.difference-apart.ensures c.whole.ensures c.product-twice.ensures) (twice-held w _ _ c.requires.0 c.requires.1),
      held-is square (square-held w),
      subst (λ (b : Bracket). nat 0 ≺ (ends b).low) (sym square) (square_above c.args.v),
    )

pub returns : goal.returns
unfolding third_of
returns c =
    let w = c.requires.0.held.lo.width in
    divided-of _
    (twice-is w _ _ c.difference-apart.ensures c.whole.ensures c.product-twice.ensures)
    (square-is w c.whole-critical.ensures c.product-square.ensures) c.quotient.ensures
