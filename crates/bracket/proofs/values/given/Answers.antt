-- `bracket::given` meets its contract. Assumes nothing.
use Rattle.bracket.proofs.Same.{rounded-is, ≃-refl}
use Rattle.bracket.proofs.values.given.Goals as goal

pub returns : goal.returns
returns c = rounded-is c.args.v (≃-refl _) c.given-lo.ensures c.given-hi.ensures
