-- `equation::exponent::clip_at` meets its contract. Assumes nothing.
use mathlib.Core.Path.{sym, ◌∙◌}
use Prim.Native.Nat.{suc}
use native.Mathlib.Omega.{arith}
use Rattle.sheet.proofs.Live.{range_spelled}
use Rattle.equation.proofs.Clip.{most-spelled, at-lower, clip_most, clip_lower}
use Rattle.equation.proofs.Holds.{digits}
use Rattle.equation.proofs.exponent.clip_at.Goals as goal

pub whole-most-requires : goal.whole-most-requires
whole-most-requires c = (c.requires.held.lo.width, omega arith)

pub at_most-requires : goal.at_most-requires
at_most-requires c =
    let a = c.args in
    let p = c.requires in
    record { v = a.v; first = most-spelled (digits a.g p) c.whole-most.ensures; second = range_spelled p.held.lo }

pub returns-then-at_most : goal.returns-then-at_most
returns-then-at_most c =
    let a = c.args in
    let p = c.requires in
    let m = c.whole-most.ensures in
    m ∙ sym (clip_most (suc a.v) a.g (sym (at-lower (digits a.g p) m a.g) ∙ sym c.at_most.ensures ∙ c.if-at_most.true))

pub returns-else-at_most : goal.returns-else-at_most
returns-else-at_most c =
    let a = c.args in
    let p = c.requires in
    let m = c.whole-most.ensures in
    sym (clip_lower (suc a.v) a.g (sym (at-lower (digits a.g p) m a.g) ∙ sym c.at_most.ensures ∙ c.if-at_most.false))
