-- `series::ratio::ratio_r` meets its contract: the brackets of the two densities, the vapour's times 2^k, and their quotient. Assumes nothing.
use mathlib.Core.Path.{◌≡◌, sym, ap, ◌∙◌, subst}
use Prim.Native.Nat.{ℕ, suc, ◌^◌, ◌<◌, ◌≤◌}
use Rattle.exact.specs.Fraction.{nat}
use Rattle.bracket.specs.declared.Bracket.{Bracket}
use Rattle.bracket.specs.Rules.{given}
use Rattle.bracket.proofs.Operands.{whole_held}
use Rattle.doubles.specs.Double.{exact_of}
use Rattle.series.proofs.ExponentialSteps.{held-as}
use Rattle.series.proofs.RatioHeld.{density_held}
use Rattle.series.proofs.RatioSteps.{liquid_finite, vapour_finite, liquid_least, liquid_most, vapour_least, vapour_most, exponent_few, small_power, divisor-is_held, divisor-is_above, r_is}
use Rattle.series.specs.Pair.{Pair}
use Rattle.doubles.specs.Ratio.{ratio_exponent}
use lib.Ieee.{Float}
use Rattle.series.proofs.ratio.ratio_r.Goals as goal

few : {liquid vapour : Float} {k : ℕ} → Pair liquid vapour → k ≡ ratio_exponent (exact_of liquid) (exact_of vapour) → k ≤ 21
few p e = subst (λ (k : ℕ). k ≤ 21) (sym e) (exponent_few p)

power-is : (w k : ℕ) {n : ℕ} {b : Bracket} → b ≡ given w (nat n) → n ≡ 2 ^ k → b ≡ given w (nat (2 ^ k))
power-is w k e f = e ∙ ap (λ (n : ℕ). given w (nat n)) f

pub given-requires : goal.given-requires
given-requires c = (c.requires.0, vapour_finite c.requires.1)

pub two_to-requires : goal.two_to-requires
two_to-requires c = few c.requires.1 c.requires.2

pub whole-requires : goal.whole-requires
whole-requires c =
    let p = c.requires in
    (p.0, subst (λ (n : ℕ). n < 2 ^ 32) (sym c.two_to.ensures) (small_power c.args.k (few p.1 p.2)))

pub product-divisor-requires : goal.product-divisor-requires
product-divisor-requires c =
    let p = c.requires in
    let n = suc c.args.v in
    let k = c.args.k in (
      held-as c.given.ensures (density_held p.0 (vapour_least p.1) (vapour_most p.1)),
      held-as (power-is n k c.whole.ensures c.two_to.ensures) (whole_held p.0 (2 ^ k) (small_power k (few p.1 p.2))),
    )

pub given-requires-2 : goal.given-requires-2
given-requires-2 c = let p = c.requires in (p.0, liquid_finite p.1)

pub quotient-requires : goal.quotient-requires
quotient-requires c =
    let p = c.requires in
    let a = c.args in
    let w = power-is (suc a.v) a.k c.whole.ensures c.two_to.ensures in
    let g = c.given.ensures in
    let d = c.product-divisor.ensures in
    let n = few p.1 p.2 in (
      held-as c.given-2.ensures (density_held p.0 (liquid_least p.1) (liquid_most p.1)),
      divisor-is_held p.0 (exact_of a.liquid) (exact_of a.vapour) a.k n g w d (vapour_least p.1) (vapour_most p.1),
      divisor-is_above p.0 (exact_of a.liquid) (exact_of a.vapour) a.k n g w d (vapour_least p.1),
    )

pub returns : goal.returns
returns c =
    let p = c.requires in
    let a = c.args in
    let w = power-is (suc a.v) a.k c.whole.ensures c.two_to.ensures in
    r_is p.0 (exact_of a.liquid) (exact_of a.vapour) a.k (few p.1 p.2) c.given.ensures w
    c.product-divisor.ensures c.given-2.ensures c.quotient.ensures
