-- `equation::exponent::scale` meets its contract. Assumes nothing.
use mathlib.Core.Path.{refl, ◌∙◌}
use Prim.Native.Nat.{suc}
use native.Mathlib.Nat.{pos_of_ne-zero}
use native.Mathlib.Omega.{arith}
use Rattle.sheet.proofs.Live.{range_spelled}
use Rattle.equation.proofs.Steps.{held-is, times-of}
use Rattle.equation.proofs.Plain.{none-scaled, hundred_scaled, some_scaled}
use Rattle.equation.proofs.Holds.{factor_held}
use Rattle.equation.proofs.exponent.scale.Goals.{then-c-eq0-via-then-c-eq0, then-c-eq0-via-else-c-eq0+then-factor-eq100}
use Rattle.equation.proofs.exponent.scale.Goals as goal

pub returns-then-c-eq0 : goal.returns-then-c-eq0
returns-then-c-eq0 c =
    let a = c.args in
    let h = c.requires.0 in
    elim c.then-c-eq0.branch [
      | then-c-eq0-via-then-c-eq0 w ↦ none-scaled (suc a.v) a.c a.factor a.power w.if-c-eq0.true
      | then-c-eq0-via-else-c-eq0+then-factor-eq100 w ↦
          hundred_scaled a.v a.c a.factor a.power (record { lo = range_spelled h.lo; hi = range_spelled h.hi }) (record { order = h.order }) w.if-factor-eq100.true
    ]

pub given_ratio-requires : goal.given_ratio-requires
given_ratio-requires c = let p = c.requires in (p.0.lo.width, omega arith, omega (arith, p.1.1))

pub product-requires : goal.product-requires
product-requires c =
    let p = c.requires in
    (held-is c.given_ratio.ensures (factor_held p.0.lo.width c.args.factor (p.1.0 (pos_of_ne-zero c.if-c-eq0.false)) p.1.1), p.0)

pub returns : goal.returns
returns c =
    let a = c.args in
    times-of _ c.given_ratio.ensures refl c.product.ensures
    ∙ some_scaled (suc a.v) a.c a.factor a.power (pos_of_ne-zero c.if-c-eq0.false)
