-- `marks::operands::operand` meets its contract. Assumes nothing.
use Rattle.sheet.specs.Range.{InRange}
use Rattle.marks.specs.Argument.{Placed}
use Rattle.marks.proofs.Arguments.{found_or, spaced, nothing}
use Rattle.marks.proofs.operands.operand.Goals as goal

pub returns : goal.returns
returns c =
    found_or {Q = InRange c.args.v} _ _ c.unwrap_or.ensures c.placed.ensures (λ s (h : Placed c.args.v _ _ _ s). spaced s c.requires h.digits h.low h.high) (nothing c.requires)
