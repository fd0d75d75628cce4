-- `equation::exponent::factor_e` meets its contract. Assumes nothing.
use mathlib.Core.Path.{sym, ap, subst, ◌∙◌}
use Prim.Native.Nat.{suc}
use native.Mathlib.Omega.{arith}
use Rattle.bracket.specs.declared.Bracket.{Bracket}
use Rattle.bracket.specs.Rules.{ends}
use Rattle.bracket.specs.Held.{Held}
use Rattle.series.specs.Exponential.{expneg}
use Rattle.series.specs.Terms.{Taken}
use Rattle.equation.specs.Clip.{started_at}
use Rattle.equation.proofs.Clip.{e_none, e_taken}
use Rattle.equation.proofs.Holds.{digits, exponent_fits}
use Rattle.equation.proofs.exponent.factor_e.Goals as goal

pub expneg-requires : goal.expneg-requires
expneg-requires c =
    let a = c.args in
    subst (λ (x : Bracket). Held a.v x × Taken (ends x)) (sym c.exponent-x.ensures)
    (exponent_fits a.g c.requires _ (sym c.within-all.ensures))

pub whole-requires : goal.whole-requires
whole-requires c = (c.requires.held.lo.width, omega arith)

pub returns-then-c-gt0 : goal.returns-then-c-gt0
returns-then-c-gt0 c =
    let a = c.args in
    let e = c.expneg.ensures ∙ ap (λ (x : Bracket). expneg (suc a.v) (ends x)) c.exponent-x.ensures in
    c.started.ensures
    ∙ ap (started_at _) e
    ∙ e_taken a.v a.c (digits a.g c.requires) a.g c.if-c-gt0.true _ (sym c.within-all.ensures)

pub returns-else-c-gt0 : goal.returns-else-c-gt0
returns-else-c-gt0 c =
    let a = c.args in
    let l = c.if-c-gt0.false in
    c.whole.ensures ∙ sym (e_none (suc a.v) a.c a.g (omega arith))
