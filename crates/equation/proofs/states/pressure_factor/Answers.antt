-- `equation::states::pressure_factor` meets its contract. Assumes nothing.
use mathlib.Core.Path.{◌∙◌}
use native.Mathlib.Omega.{arith}
use Rattle.sheet.proofs.Live.{few-digits}
use Rattle.bracket.specs.Rules.{ends}
use Rattle.bracket.proofs.Operands.{whole_held, plus-whole}
use Rattle.equation.specs.Rules.{pressure_factor}
use Rattle.equation.proofs.Steps.{held-is}
use Rattle.equation.proofs.states.pressure_factor.Goals as goal

pub whole-one-requires : goal.whole-one-requires
whole-one-requires c = (c.requires.held.s0.lo.width, omega arith)

pub sum-requires : goal.sum-requires
sum-requires c = (held-is c.whole-one.ensures (whole_held c.requires.held.s0.lo.width 1 (omega arith)), c.requires.held.s1)

pub returns : goal.returns
unfolding pressure_factor
returns c =
    c.sum.ensures ∙ plus-whole c.args.v 1 (few-digits c.requires.held.s0.lo.width (omega arith)) c.whole-one.ensures (ends c.args.s.s1)
