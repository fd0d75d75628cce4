-- `virial::polynomial::polynomial` meets its contract. Assumes nothing.
use mathlib.Core.Path.{◌≡◌, refl}
use Prim.Native.Nat.{ℕ, suc}
use native.Mathlib.Omega.{arith}
use Rattle.exact.specs.Fraction.{Fraction, nat}
use Rattle.sheet.specs.Range.{Width}
use Rattle.bracket.specs.declared.Bracket.{Bracket}
use Rattle.bracket.specs.Span.{whole}
use Rattle.bracket.specs.Rules.{ends, given, plus, times}
use Rattle.bracket.proofs.Operands.{whole_held}
use Rattle.doubles.specs.Double.{exact_of}
use Rattle.equation.proofs.Steps.{held-is, plus-of, times-of, whole_plus_of}
use Rattle.equation.proofs.Holds.{density_held}
use Rattle.equation.proofs.Taken.{density-of, density_finite}
use Rattle.virial.specs.Rules.{polynomial}
use Rattle.virial.proofs.Holds.{linear_held, bend_held, bent_held, one-linear_held}
use Rattle.virial.proofs.polynomial.polynomial.Goals as goal

-- 1 + (B times rho)
one-linear-is : {v : ℕ} → Width v → (b : Bracket) (rho : Fraction) {one density linear r : Bracket} → one ≡ given (suc v) (nat 1) → density ≡ given (suc v) rho
    → linear ≡ times (suc v) (ends b) (ends density) → r ≡ plus (suc v) (ends one) (ends linear)
    → r ≡ plus (suc v) (whole 1) (ends (times (suc v) (ends b) (ends (given (suc v) rho))))
one-linear-is {v} w b rho o d l e = whole_plus_of w 1 (omega arith) o (times-of (suc v) refl d l) e

pub given-density-requires : goal.given-density-requires
given-density-requires c = (c.requires.1.second.held.lo.width, density_finite c.args.rho c.requires.0)

pub product-linear-requires : goal.product-linear-requires
product-linear-requires c =
    let p = c.requires.1.second.held in
    (p, held-is c.given-density.ensures (density_held p.lo.width (density-of c.args.rho c.requires.0)))

pub product-requires : goal.product-requires
product-requires c =
    let p = c.requires.1.third.held in
    (p, held-is c.given-density.ensures (density_held p.lo.width (density-of c.args.rho c.requires.0)))

pub product-square-requires : goal.product-square-requires
product-square-requires c =
    let p = c.requires.1 in
    let d = density-of c.args.rho c.requires.0 in
    let g = c.given-density.ensures in
    (held-is (times-of _ refl g c.product.ensures) (bend_held c.args.x p d), held-is g (density_held p.third.held.lo.width d))

pub whole-one-requires : goal.whole-one-requires
whole-one-requires c = (c.requires.1.second.held.lo.width, omega arith)

pub sum-requires : goal.sum-requires
sum-requires c =
    let p = c.requires.1 in (
      held-is c.whole-one.ensures (whole_held p.second.held.lo.width 1 (omega arith)),
      held-is (times-of _ refl c.given-density.ensures c.product-linear.ensures) (linear_held c.args.x p (density-of c.args.rho c.requires.0)),
    )

pub sum-requires-2 : goal.sum-requires-2
sum-requires-2 c =
    let p = c.requires.1 in
    let d = density-of c.args.rho c.requires.0 in
    let g = c.given-density.ensures in (
      held-is (one-linear-is p.second.held.lo.width c.args.x.second (exact_of c.args.rho) c.whole-one.ensures g c.product-linear.ensures c.sum.ensures)
          (one-linear_held c.args.x p d),
      held-is (times-of _ (times-of _ refl g c.product.ensures) g c.product-square.ensures) (bent_held c.args.x p d),
    )

pub returns : goal.returns
unfolding polynomial
returns c =
    let g = c.given-density.ensures in
    plus-of _
    (one-linear-is c.requires.1.second.held.lo.width c.args.x.second (exact_of c.args.rho) c.whole-one.ensures g c.product-linear.ensures c.sum.ensures)
    (times-of _ (times-of _ refl g c.product.ensures) g c.product-square.ensures) c.sum-2.ensures
