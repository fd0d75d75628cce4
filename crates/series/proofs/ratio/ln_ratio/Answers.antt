-- `series::ratio::ln_ratio` meets its contract: k times ln 2 and the series at z, with the k of the exact densities. Assumes nothing.
use mathlib.Core.Path.{◌≡◌, sym, ap, ◌∙◌, subst}
use Prim.Native.Nat.{ℕ, suc}
use native.Mathlib.Omega.{arith}
use lib.Ieee.{Float}
use Rattle.exact.specs.Fraction.{nat}
use Rattle.sheet.specs.Range.{Width}
use Rattle.doubles.specs.Double.{exact_of}
use Rattle.doubles.specs.Ratio.{ratio_exponent}
use Rattle.bracket.specs.declared.Bracket.{Bracket}
use Rattle.bracket.specs.Rules.{given}
use Rattle.bracket.proofs.Operands.{whole_held}
use Rattle.series.specs.Logarithm.{ratio_r, ratio_z}
use Rattle.series.specs.Pair.{Pair, NearOne}
use Rattle.series.specs.Powers.{Argument}
use Rattle.series.proofs.ExponentialSteps.{held-as}
use Rattle.series.proofs.Arguments.{z_argument, series_held, ln_two-held}
use Rattle.series.proofs.RatioHeld.{r_near, multiple_held}
use Rattle.series.proofs.RatioSteps.{vapour_least, liquid_nonneg, exponent_largest, exponent_few, multiple_is, ln_r_is, ln_is}
use Rattle.series.proofs.ratio.ln_ratio.Goals as goal

-- k is the exact densities' own
exponent : (l v : Float) → ℕ
exponent l v = ratio_exponent (exact_of l) (exact_of v)

module _ {b : ℕ} (w : Width b) {l v : Float} (p : Pair l v) {k : ℕ} (e : k ≡ exponent l v) where
  r-at : {r : Bracket} → r ≡ ratio_r (suc b) (exact_of l) (exact_of v) k → r ≡ ratio_r (suc b) (exact_of l) (exact_of v) (exponent l v)
  r-at f = f ∙ ap (ratio_r (suc b) (exact_of l) (exact_of v)) e

  argument : {r z : Bracket} → r ≡ ratio_r (suc b) (exact_of l) (exact_of v) k → z ≡ ratio_z (suc b) r → Argument b z
  unfolding exponent
  argument f g = subst (Argument b) (sym (g ∙ ap (ratio_z (suc b)) (r-at f))) (z_argument w (exponent l v) (vapour_least p) (liquid_nonneg p) (exponent_largest p))

  whole-at : {n : Bracket} → n ≡ given (suc b) (nat k) → n ≡ given (suc b) (nat (exponent l v))
  whole-at f = f ∙ ap (λ (n : ℕ). given (suc b) (nat n)) e

pub ratio_z-requires : goal.ratio_z-requires
unfolding exponent
ratio_z-requires c =
    let p = c.requires in
    let a = c.args in
    subst (NearOne a.v) (sym (r-at p.0 p.1 c.ratio_exponent-k.ensures c.ratio_r-r.ensures))
    (r_near p.0 (exponent a.liquid a.vapour) (vapour_least p.1) (exponent_largest p.1))

pub ln_series-ln_r-requires : goal.ln_series-ln_r-requires
unfolding exponent
ln_series-ln_r-requires c =
    argument c.requires.0 c.requires.1 c.ratio_exponent-k.ensures c.ratio_r-r.ensures c.ratio_z.ensures

pub whole-requires : goal.whole-requires
whole-requires c =
    let p = c.requires in
    let h = exponent_few p.1 in
    let e = c.ratio_exponent-k.ensures in
    (p.0, omega arith)

pub product-powers-requires : goal.product-powers-requires
product-powers-requires c =
    let k = c.ratio_exponent-k in
    let p = c.requires in
    let h = exponent_few p.1 in
    let e = k.ensures in
    (held-as c.whole.ensures (whole_held p.0 k.result (omega arith)), held-as c.ln_two.ensures (ln_two-held p.0))

pub sum-requires : goal.sum-requires
unfolding exponent
sum-requires c =
    let w = c.requires.0 in
    let p = c.requires.1 in
    let a = c.args in
    let e = c.ratio_exponent-k.ensures in
    let k = exponent a.liquid a.vapour in (
      held-as (multiple_is w k (exponent_few p) (whole-at w p e c.whole.ensures) c.ln_two.ensures c.product-powers.ensures)
          (multiple_held w k (exponent_few p)),
      held-as c.ln_series-ln_r.ensures
          (series_held (argument w p e c.ratio_r-r.ensures c.ratio_z.ensures)),
    )

pub returns : goal.returns
unfolding exponent
returns c =
    let w = c.requires.0 in
    let p = c.requires.1 in
    let a = c.args in
    let e = c.ratio_exponent-k.ensures in
    let k = exponent a.liquid a.vapour in
    ln_is (suc a.v) (exact_of a.liquid) (exact_of a.vapour)
    (multiple_is w k (exponent_few p) (whole-at w p e c.whole.ensures) c.ln_two.ensures c.product-powers.ensures)
    (ln_r_is (suc a.v) (exact_of a.liquid) (exact_of a.vapour) k (r-at w p e c.ratio_r-r.ensures)
    c.ratio_z.ensures c.ln_series-ln_r.ensures)
    c.sum.ensures
