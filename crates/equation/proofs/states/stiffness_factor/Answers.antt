-- `equation::states::stiffness_factor` meets its contract. Assumes nothing.
use mathlib.Core.Path.{◌≡◌, refl}
use Prim.Native.Nat.{ℕ, suc}
use native.Mathlib.Omega.{arith}
use Rattle.exact.specs.Fraction.{nat}
use Rattle.sheet.specs.Range.{Width}
use Rattle.bracket.specs.declared.Bracket.{Bracket}
use Rattle.bracket.specs.Span.{whole}
use Rattle.bracket.specs.Rules.{ends, given, plus, times}
use Rattle.bracket.proofs.Operands.{whole_held}
use Rattle.equation.specs.declared.Sums.{Sums}
use Rattle.equation.specs.Rules.{stiffness_factor}
use Rattle.equation.proofs.Steps.{held-is, plus-of, whole_plus_of, whole_times_of}
use Rattle.equation.proofs.HoldsStates.{twice-held, one-twice_held}
use Rattle.equation.proofs.states.stiffness_factor.Goals as goal

-- 2 times S1, and 1 more
twice-is : {v : ℕ} → Width v → (s : Sums) {two r : Bracket} → two ≡ given (suc v) (nat 2) → r ≡ times (suc v) (ends two) (ends s.s1) → r ≡ times (suc v) (whole 2) (ends s.s1)
twice-is w s p e = whole_times_of w 2 (omega arith) p refl e

one-twice-is : {v : ℕ} → Width v → (s : Sums) {one two r t : Bracket} → one ≡ given (suc v) (nat 1) → two ≡ given (suc v) (nat 2) → r ≡ times (suc v) (ends two) (ends s.s1)
    → t ≡ plus (suc v) (ends one) (ends r) → t ≡ plus (suc v) (whole 1) (ends (times (suc v) (whole 2) (ends s.s1)))
one-twice-is w s o p e f = whole_plus_of w 1 (omega arith) o (twice-is w s p e) f

pub whole-one-requires : goal.whole-one-requires
whole-one-requires c = (c.requires.held.s0.lo.width, omega arith)

pub whole-requires : goal.whole-requires
whole-requires c = (c.requires.held.s0.lo.width, omega arith)

pub product-twice-requires : goal.product-twice-requires
product-twice-requires c = (held-is c.whole.ensures (whole_held c.requires.held.s0.lo.width 2 (omega arith)), c.requires.held.s1)

pub sum-requires : goal.sum-requires
sum-requires c = (
  held-is c.whole-one.ensures (whole_held c.requires.held.s0.lo.width 1 (omega arith)),
  held-is (twice-is c.requires.held.s0.lo.width c.args.s c.whole.ensures c.product-twice.ensures) (twice-held c.requires),
)

pub sum-requires-2 : goal.sum-requires-2
sum-requires-2 c = (
  held-is (one-twice-is c.requires.held.s0.lo.width c.args.s c.whole-one.ensures c.whole.ensures c.product-twice.ensures c.sum.ensures)
      (one-twice_held c.requires),
  c.requires.held.s2,
)

pub returns : goal.returns
unfolding stiffness_factor
returns c =
    plus-of _
    (one-twice-is c.requires.held.s0.lo.width c.args.s c.whole-one.ensures c.whole.ensures c.product-twice.ensures c.sum.ensures)
    refl c.sum-2.ensures
