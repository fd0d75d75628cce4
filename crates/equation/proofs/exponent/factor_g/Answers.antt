-- `equation::exponent::factor_g` meets its contract. Assumes nothing.
use mathlib.Core.Path.{ap, ◌∙◌}
use Prim.Native.Nat.{suc}
use native.Mathlib.Omega.{arith}
use Rattle.bracket.specs.declared.Bracket.{Bracket}
use Rattle.equation.specs.Rules.{scaled}
use Rattle.equation.proofs.Steps.{held-is}
use Rattle.equation.proofs.Holds.{delta-powers, delta-power_held}
use Rattle.equation.proofs.exponent.factor_g.Goals as goal

pub power-requires : goal.power-requires
power-requires c = delta-powers c.args.delta c.requires.1 c.args.term.c (let m = c.requires.0.c_most in omega arith)

pub scale-requires : goal.scale-requires
scale-requires c =
    let s = c.requires.0 in
    let m = s.c_most in
    (held-is c.power.ensures (delta-power_held c.args.delta c.requires.1 c.args.term.c (omega arith)), (s.factor_above, s.factor_most))

pub returns : goal.returns
returns c =
    let a = c.args in
    c.scale.ensures ∙ ap (λ (b : Bracket). scaled (suc a.v) a.term.c a.term.factor b) c.power.ensures
