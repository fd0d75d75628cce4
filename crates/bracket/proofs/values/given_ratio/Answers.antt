-- `bracket::given_ratio` meets its contract. Assumes nothing.
use Rattle.bracket.proofs.Same.{rounded-is, ≃-refl}
use Rattle.bracket.proofs.values.given_ratio.Goals as goal

pub returns : goal.returns
returns c =
    let x = c.ratio-x.ensures in
    rounded-is c.args.v (≃-refl _) x.0 x.1
