-- `sheet::place::finished` meets its contract. Assumes nothing.
use mathlib.Core.Path.{ap₂, ◌∙◌}
use Rattle.sheet.specs.Magnitude.{Magnitude}
use Rattle.sheet.specs.Round.{away}
use Rattle.sheet.proofs.Finishing.{stays, whole, steps}
use Rattle.sheet.proofs.place.finished.Goals.{then-x+else-up+else-neg-2, else-x}
use Rattle.sheet.proofs.place.finished.Goals as goal

pub returns-then-neg : goal.returns-then-neg
unfolding away
returns-then-neg c =
    let k = c.args in
    c.signed.ensures ∙ stays k.v k.neg (record { m = k.x.m; e = k.x.e }) (away k.up k.neg) k.x.sticky (ap₂ away c.if-up.true c.if-neg.true)

pub returns-then-up : goal.returns-then-up
unfolding away
returns-then-up c =
    let k = c.args in
    c.next.ensures ∙ steps k.v k.neg (record { m = k.x.m; e = k.x.e }) (away k.up k.neg) k.x.sticky (ap₂ away c.if-up.true c.if-neg.false) c.if-x.true

pub returns-then-neg-2 : goal.returns-then-neg-2
unfolding away
returns-then-neg-2 c =
    let k = c.args in
    c.next-then-neg-2.ensures ∙ steps k.v k.neg (record { m = k.x.m; e = k.x.e }) (away k.up k.neg) k.x.sticky (ap₂ away c.if-up.false c.if-neg-2.true) c.if-x.true

pub returns : goal.returns
unfolding away
returns c =
    let k = c.args in
    let x : Magnitude = record { m = k.x.m; e = k.x.e } in
    c.signed-2.ensures
    ∙ elim c.if-x.branch [
      | then-x+else-up+else-neg-2 w ↦ stays k.v k.neg x (away k.up k.neg) k.x.sticky (ap₂ away w.if-up.false w.if-neg-2.false)
      | else-x w ↦ whole k.v k.neg x (away k.up k.neg) k.x.sticky w.if-x.false
    ]
