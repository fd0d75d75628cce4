-- `decode::given` meets its contract: the exact parts are rounded once. Assumes nothing.
use Prim.Native.Nat.{◌*◌, ◌^◌}
use mathlib.Core.Path.{sym, ◌∙◌}
use native.Mathlib.Nat.{mul-one}
use lib.Dec.{lit<}
use lib.Pow.{pow_pos}
use Rattle.exact.proofs.Fraction.Order.{≈-sym}
use Rattle.sheet.specs.Number.{bias}
use Rattle.sheet.proofs.Places.{place_whole}
use Rattle.sheet.proofs.Signed.{round_parts}
use Rattle.doubles.specs.Double.{exact_of}
use Rattle.doubles.proofs.decode.given.Goals as goal

pub returns : goal.returns
returns c =
    let at = c.args in
    let p = c.decode-p.result in
    c.rounded.ensures (p.m * 2 ^ p.e) 1 (place_whole p.m p.e)
    ∙ sym
    (round_parts at.up at.v (exact_of at.x) p.neg (p.m * 2 ^ p.e) (2 ^ bias) (p.m * 2 ^ p.e) 1 (pow_pos bias) (lit< tt) (≈-sym c.decode-p.ensures.value)
    (sym (mul-one (p.m * 2 ^ p.e * 2 ^ bias))))
