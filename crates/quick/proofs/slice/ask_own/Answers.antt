-- `quick::slice::ask_own` meets its contract. Assumes nothing.
use Rattle.std.proofs.Common.{◌∙◌}
use Rattle.quick.proofs.Stated.{never_short}
use Rattle.quick.proofs.slice.ask_own.Goals as goal

pub returns-clause-value : goal.returns-clause-value
returns-clause-value c =
    (c.ask.ensures.stated.replied ∙ never_short c.args.width c.args.kind c.args.table.now c.args.question, c.ask.ensures.stated.numbers)
