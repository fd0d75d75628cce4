-- `marks::operands::end` meets its contract. Assumes nothing.
use Rattle.std.proofs.Common.{◌-◌, arith}
use Rattle.sheet.proofs.Live.{bias-is}
use Rattle.marks.specs.Argument.{Placed, Argument}
use Rattle.marks.proofs.Arguments.{found_or}
use Rattle.marks.proofs.operands.end.Goals as goal

pub returns : goal.returns
returns c =
    let z = bias-is in
    let w = c.requires.high in
    found_or {Q = Argument c.args.v} _ _ c.unwrap_or.ensures c.placed.ensures
    (λ s (h : Placed c.args.v _ (262087 - c.args.v) (262149 - c.args.v) s). record { plain = h.sign; width = c.requires; digits = h.digits; least = omega (arith, h.low); most = omega (arith, h.high) }) c.one.ensures
