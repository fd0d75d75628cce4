-- `equation::inputs::tau` meets its contract. Assumes nothing.
use mathlib.Core.Path.{sym, subst}
use native.Mathlib.Omega.{arith}
use Rattle.exact.specs.Fraction.{nat, ◌≺◌}
use Rattle.bracket.specs.declared.Bracket.{Bracket}
use Rattle.bracket.specs.Rules.{ends}
use Rattle.equation.specs.Rules.{tau}
use Rattle.equation.proofs.Steps.{held-is, divided-of}
use Rattle.equation.proofs.Holds.{critical-held, temperature_held, temperature_above}
use Rattle.equation.proofs.Taken.{temperature_of, temperature_finite}
use Rattle.equation.proofs.inputs.tau.Goals as goal

pub given_ratio-critical-requires : goal.given_ratio-critical-requires
given_ratio-critical-requires c = (c.requires.0, omega arith, omega arith)

pub given-temperature-requires : goal.given-temperature-requires
given-temperature-requires c = (c.requires.0, temperature_finite c.args.t c.requires.1)

pub quotient-requires : goal.quotient-requires
quotient-requires c =
    let w = c.requires.0 in
    let t = temperature_of c.args.t c.requires.1 in
    let e = c.given-temperature.ensures in
    (held-is c.given_ratio-critical.ensures (critical-held w), held-is e (temperature_held w t), subst (λ (b : Bracket). nat 0 ≺ (ends b).low) (sym e) (temperature_above _ t))

pub returns : goal.returns
unfolding tau
returns c = divided-of _ c.given_ratio-critical.ensures c.given-temperature.ensures c.quotient.ensures
