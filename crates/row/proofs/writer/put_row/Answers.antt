-- `row::writer::put_row` meets its contract. Assumes nothing.
use native.Mathlib.Omega.{arith}
use Rattle.lent.proofs.Joined.{put_then}
use Rattle.row.specs.Row.{row_text}
use Rattle.row.proofs.writer.put_row.Goals as goal

pub returns : goal.returns
unfolding row_text
returns c = record {
  put = put_then c.put_spaced-a.ensures.put
      (put_then c.put_spaced-b.ensures.put
      (put_then c.put_spaced-c.ensures.put
      (put_then c.put_front-d.ensures.put
      (put_then c.put_digits-e.ensures.put c.put_tail.ensures.put))));
  upper_bound = omega arith;
}
