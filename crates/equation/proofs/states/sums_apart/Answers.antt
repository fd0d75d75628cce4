-- `equation::states::sums_apart` meets its contract. Assumes nothing.
use Rattle.equation.specs.Rules.{sums_apart}
use Rattle.equation.proofs.Steps.{held-is, minus-of}
use Rattle.equation.proofs.HoldsStates.{zeroth_first_held}
use Rattle.equation.proofs.states.sums_apart.Goals as goal

pub difference-requires : goal.difference-requires
difference-requires c =
    let p = c.requires in
    (held-is c.sum-of_liquid.ensures (zeroth_first_held p.0), held-is c.sum-of_vapour.ensures (zeroth_first_held p.1))

pub returns : goal.returns
unfolding sums_apart
returns c = minus-of _ c.sum-of_liquid.ensures c.sum-of_vapour.ensures c.difference.ensures
