-- `marks::operands::argument` meets its contract. Assumes nothing.
use Rattle.std.proofs.Common.{sym, ◌∙◌}
use Rattle.exact.proofs.Fraction.Order.{leq-true}
use Rattle.sheet.specs.Number.{value}
use Rattle.sheet.proofs.Live.{range_spelled}
use Rattle.marks.proofs.Arguments.{in_range, between, alone}
use Rattle.marks.proofs.operands.argument.Goals as goal

pub at_most-requires : goal.at_most-requires
at_most-requires c =
    let v = c.args.v in
    record {
      v = v;
      first = range_spelled (in_range v _ c.end-lo.ensures);
      second = range_spelled (in_range v _ c.end-hi.ensures);
    }

pub returns-then-at_most : goal.returns-then-at_most
returns-then-at_most c =
    let x = c.end-lo in
    let y = c.end-hi in
    between c.args.v x.result y.result x.ensures y.ensures
    (leq-true (value x.result) (value y.result) (sym c.at_most.ensures ∙ c.if-at_most.true))

pub returns-else-at_most : goal.returns-else-at_most
returns-else-at_most c = alone c.args.v c.end-lo.result c.end-lo.ensures
