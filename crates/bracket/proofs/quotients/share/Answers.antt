-- `bracket::share` meets its contract. Assumes nothing.
use mathlib.Core.Path.{◌∙◌}
use Rattle.bracket.proofs.Ends.{held-ordered, divided-share}
use Rattle.bracket.proofs.quotients.share.Goals as goal

pub returns : goal.returns
returns c =
    let a = c.args in
    let h = c.requires in
    (λ i. record { lo = c.share-lo.ensures i; hi = c.share-hi.ensures i }) ∙ divided-share a.v a.a a.n (held-ordered h.0) h.1
