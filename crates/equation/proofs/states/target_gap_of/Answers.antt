-- `equation::states::target_gap_of` meets its contract. Assumes nothing.
use mathlib.Core.Path.{refl, sym, subst}
use lib.Dec.{T}
use Rattle.bracket.proofs.Operands.{double-held}
use Rattle.equation.proofs.Steps.{held-is, minus-of}
use Rattle.equation.proofs.Taken.{target_finite}
use Rattle.equation.proofs.states.target_gap_of.Goals as goal

pub given-aim-requires : goal.given-aim-requires
given-aim-requires c = (c.requires.0.held.lo.width, target_finite c.args.target c.requires.1)

pub difference-requires : goal.difference-requires
difference-requires c =
    (c.requires.0.held, held-is c.given-aim.ensures (double-held c.requires.0.held.lo.width c.args.target (subst T (sym c.well_formed.1.1.0.1) tt) (target_finite c.args.target c.requires.1)))

pub returns : goal.returns
returns c = minus-of _ refl c.given-aim.ensures c.difference.ensures
