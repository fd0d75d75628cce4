-- `row::reader::ten_at` meets its contract. The loop's invariant: the value is that of the digits passed. Assumes nothing.
use native.Mathlib.Omega.{arith}
use native.Mathlib.Numerals.{add-one}
use mathlib.Core.Path.{refl}
use lib.ListN.{drop}
use lib.Seq.{get_or-drop}
use Rattle.row.specs.Guess.{number_of}
use Rattle.row.proofs.Parts.{number-few}
use Rattle.row.proofs.reader.ten_at.Goals as goal

pub loop-i-init : goal.loop-i-init
unfolding number_of
loop-i-init c = refl

pub overflow_mul-value : goal.overflow_mul-value
overflow_mul-value c =
    let a = c.args in
    omega (arith, c.loop-i.invariant, number-few (drop a.at a.text.now) c.loop-i.i (omega arith))

pub overflow_add-value : goal.overflow_add-value
overflow_add-value c =
    let a = c.args in
    omega (arith, c.loop-i.invariant, number-few (drop a.at a.text.now) c.loop-i.i (omega arith))

pub loop-i-preserved : goal.loop-i-preserved
unfolding number_of
loop-i-preserved c = rw (add-one, get_or-drop, ← c.loop-i.invariant, ← c.figure_at.ensures.value)
