-- `sheet::place::ended` meets its contract. Assumes nothing.
use mathlib.Core.Path.{sym, ◌∙◌}
use native.Mathlib.Omega.{arith}
use lib.Pow.{pow_pos}
use Rattle.sheet.specs.Magnitude.{Magnitude}
use Rattle.sheet.specs.Round.{away}
use Rattle.sheet.proofs.Finishing.{stays, whole, steps}
use Rattle.sheet.proofs.Signed.{away-ne, signed-pos}
use Rattle.sheet.proofs.place.ended.Goals.{else-up-neg-via-then-up-neg+else-x, else-up-neg-via-else-up-neg}
use Rattle.sheet.proofs.place.ended.Goals as goal

pub returns-then-x : goal.returns-then-x
returns-then-x c =
    let k = c.args in
    c.next.ensures
    ∙ steps k.v k.neg (record { m = k.x.m; e = k.x.e }) (away k.up k.neg) k.x.sticky (sym (away-ne k.up k.neg) ∙ c.if-up-neg.true) c.if-x.true

pub returns-else-up-neg : goal.returns-else-up-neg
returns-else-up-neg c =
    let k = c.args in
    let x : Magnitude = record { m = k.x.m; e = k.x.e } in
    sym (signed-pos k.neg k.x.m k.x.e (λ z. omega (arith, c.requires.1.low, pow_pos k.v)))
    ∙ elim c.else-up-neg.branch [
      | else-up-neg-via-then-up-neg+else-x w ↦ whole k.v k.neg x (away k.up k.neg) k.x.sticky w.if-x.false
      | else-up-neg-via-else-up-neg w ↦ stays k.v k.neg x (away k.up k.neg) k.x.sticky (sym (away-ne k.up k.neg) ∙ w.if-up-neg.false)
    ]
