-- `term::plain::plain_at` meets its contract: the reader takes each field where it lies. Assumes nothing.
use Rattle.term.specs.Packed.{plain_from}
use Rattle.term.proofs.plain.plain_at.Goals as goal

pub returns : goal.returns
unfolding plain_from
returns c =
    rw (
      c.plain_factor.ensures,
      c.read_field-c.ensures,
      c.read_field.ensures,
      c.read_field-2.ensures,
      c.read_field-3.ensures,
      c.read_field-4.ensures,
    )
