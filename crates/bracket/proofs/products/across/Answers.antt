-- `bracket::across` meets its contract: the least of two roundings is the rounding of the least. Assumes nothing.
use mathlib.Core.Bool.{true, false}
use Rattle.bracket.proofs.Ends.{rounding_spelled, lesser_is, greater_is}
use Rattle.bracket.proofs.products.across.Goals as goal

pub lesser-lo-requires : goal.lesser-lo-requires
lesser-lo-requires c =
    let v = c.args.v in
    record { v = v; first = rounding_spelled false v _ c.product-x.ensures; second = rounding_spelled false v _ c.product-y.ensures }

pub greater-hi-requires : goal.greater-hi-requires
greater-hi-requires c =
    let v = c.args.v in
    record { v = v; first = rounding_spelled true v _ c.product-u.ensures; second = rounding_spelled true v _ c.product-w.ensures }

pub returns : goal.returns
returns c =
    let v = c.args.v in
    λ i.
    record {
      lo = lesser_is false v _ _ c.product-x.ensures c.product-y.ensures c.lesser-lo.ensures i;
      hi = greater_is true v _ _ c.product-u.ensures c.product-w.ensures c.greater-hi.ensures i;
    }
