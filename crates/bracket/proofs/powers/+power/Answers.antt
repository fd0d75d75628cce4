-- `bracket::power` meets its contract. Assumes nothing.
use mathlib.Core.Path.{sym, ap, subst, ◌∙◌}
use Prim.Native.Nat.{suc, ◌-◌}
use native.Mathlib.Nat.{pos_of_ne-zero}
use native.Mathlib.Omega.{arith}
use Rattle.bracket.specs.declared.Bracket.{Bracket}
use Rattle.bracket.specs.Rules.{ends, times, power}
use Rattle.bracket.specs.Held.{Held}
use Rattle.bracket.proofs.PowerSteps.{power_zero, power-step}
use Rattle.bracket.proofs.powers.+power.Goals as goal

pub product-requires : goal.product-requires
product-requires t c =
    let p = pos_of_ne-zero c.if-n-eq0.false in
    (subst (Held c.args.v) (sym c.power.ensures) (c.requires.each (c.args.n - 1) (omega arith)), c.requires.base)

pub returns-then-n-eq0 : goal.returns-then-n-eq0
returns-then-n-eq0 t c = c.whole.ensures ∙ sym (ap (power (suc c.args.v) c.args.b) c.if-n-eq0.true ∙ power_zero (suc c.args.v) c.args.b)

pub returns-else-n-eq0 : goal.returns-else-n-eq0
returns-else-n-eq0 t c =
    c.product.ensures
    ∙ ap (λ (x : Bracket). times (suc c.args.v) (ends x) (ends c.args.b)) c.power.ensures
    ∙ power-step (suc c.args.v) c.args.b c.args.n (pos_of_ne-zero c.if-n-eq0.false)
