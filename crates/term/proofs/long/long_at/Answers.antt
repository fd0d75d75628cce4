-- `term::long::long_at` meets its contract: the reader takes each field where it lies. Assumes nothing.
use Rattle.term.specs.Long.{long_from}
use Rattle.term.proofs.long.long_at.Goals as goal

pub returns : goal.returns
unfolding long_from
returns c =
    rw (
      c.read_field.ensures,
      c.read_field-2.ensures,
      c.read_field-3.ensures,
      c.read_field-4.ensures,
      c.read_field-5.ensures,
      c.read_field-6.ensures,
    )
