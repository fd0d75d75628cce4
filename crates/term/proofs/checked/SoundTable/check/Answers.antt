-- `term::checked::SoundTable::check` meets its contract: a table that the check lets through is sound. Assumes nothing.
use mathlib.Core.Path.{sym, ◌∙◌}
use Rattle.term.proofs.Answers.{answer-sound}
use Rattle.term.proofs.checked.SoundTable.check.Goals as goal

pub invariant_of-result : goal.invariant_of-result
invariant_of-result c =
    record { sound = (answer-sound c.args.kind c.args.bytes.now c.in_ok-check_table.field-0 (sym c.check_table.ensures.0 ∙ c.in_ok-check_table.was)).0 }
