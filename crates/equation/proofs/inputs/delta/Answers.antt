-- `equation::inputs::delta` meets its contract. Assumes nothing.
use mathlib.Core.Path.{refl, sym, ◌∙◌, subst}
use Prim.Native.Nat.{suc}
use native.Mathlib.Omega.{arith}
use Rattle.exact.specs.Fraction.{nat, ◌≺◌}
use Rattle.bracket.specs.declared.Bracket.{Bracket}
use Rattle.sheet.proofs.Live.{few-digits}
use Rattle.bracket.specs.Rules.{ends, given}
use Rattle.bracket.proofs.Operands.{whole_held, divided-whole}
use Rattle.doubles.specs.Double.{exact_of}
use Rattle.equation.specs.Rules.{delta}
use Rattle.equation.proofs.Steps.{held-is, divided-of}
use Rattle.equation.proofs.Holds.{density_held, whole_above}
use Rattle.equation.proofs.Taken.{density-of, density_finite}
use Rattle.equation.proofs.inputs.delta.Goals as goal

pub given-density-requires : goal.given-density-requires
given-density-requires c = (c.requires.0, density_finite c.args.rho c.requires.1)

pub whole-critical-requires : goal.whole-critical-requires
whole-critical-requires c = (c.requires.0, omega arith)

pub quotient-requires : goal.quotient-requires
quotient-requires c =
    let rho = c.args.rho in
    let p = c.requires in
    (held-is c.given-density.ensures (density_held p.0 (density-of rho p.1)), held-is c.whole-critical.ensures (whole_held p.0 322 (omega arith)), subst (λ (b : Bracket). nat 0 ≺ (ends b).low) (sym c.whole-critical.ensures) (whole_above _ 322 (omega arith) (omega arith)))

pub returns : goal.returns
unfolding delta
returns c =
    let a = c.args in
    divided-of _ c.given-density.ensures c.whole-critical.ensures c.quotient.ensures ∙ divided-whole a.v 322 (few-digits c.requires.0 (omega arith)) refl (ends (given (suc a.v) (exact_of a.rho))) (omega arith)
