-- `text::reading::read_rows` meets its contract. The loop's invariant: the rows passed are good and stand before the place, and their terms
-- are packed. The measure is what is left of the text. Assumes nothing.
use Prim.Native.Nat.{◌*◌}
use native.Mathlib.Omega.{arith}
use mathlib.Core.Path.{ap, subst, ◌∙◌}
use lib.Seq.{sets}
use Rattle.term.specs.Pack.{pack}
use Rattle.row.specs.Standing.{Reads}
use Rattle.row.proofs.Length.{row_pos}
use Rattle.row.proofs.Saying.{good_fields}
use borrow.Author.Rules.{rules}
use Rattle.text.proofs.Rows.{passed_none, passed-more, passed-full, passed-bad, passed-empty, passed-end}
use Rattle.text.proofs.reading.read_rows.Goals as goal

pub loop-at-init : goal.loop-at-init
loop-at-init c = passed_none _ _ (search rules)

pub returns-then-count-eq64 : goal.returns-then-count-eq64
returns-then-count-eq64 c = passed-full c.loop-at.invariant (omega (arith, c.if-count-eq64.true)) c.loop-at-test.true

pub read_row-requires : goal.read_row-requires
read_row-requires c =
    let p = c.loop-at.invariant in
    (omega (arith, p.near, p.most), p.within)

pub overflow_add-result : goal.overflow_add-result
overflow_add-result c = omega (arith, c.loop-at.invariant.most)

pub returns-in_default : goal.returns-in_default
returns-in_default c =
    passed-bad c.loop-at.invariant c.loop-at-test.true c.in_default.ensures

pub overflow_mul-count : goal.overflow_mul-count
overflow_mul-count c = omega (arith, c.loop-at.invariant.most)

pub term_of-requires : goal.term_of-requires
term_of-requires c =
    let r = subst (Reads c.args.text.now c.loop-at.at) c.in-Some.is c.read_row.ensures in
    r.good

pub put_term-requires : goal.put_term-requires
put_term-requires c =
    let r = subst (Reads c.args.text.now c.loop-at.at) c.in-Some.is c.read_row.ensures in
    (omega (arith, c.loop-at.invariant.full, c.loop-at.invariant.most, c.if-count-eq64.false), rw c.term_of.ensures (good_fields _ r.good))

pub overflow_add-count : goal.overflow_add-count
overflow_add-count c = omega (arith, c.loop-at.invariant.most)

pub loop-at-smaller : goal.loop-at-smaller
loop-at-smaller c =
    let r = subst (Reads c.args.text.now c.loop-at.at) c.in-Some.is c.read_row.ensures in
    omega (arith, r.reached, r.within, row_pos c.in-Some.row, c.loop-at-test.true)

pub loop-at-preserved : goal.loop-at-preserved
loop-at-preserved c =
    let r = subst (Reads c.args.text.now c.loop-at.at) c.in-Some.is c.read_row.ensures in
    passed-more c.loop-at.invariant _ _ _ (omega (arith, c.loop-at.invariant.most, c.if-count-eq64.false)) r
    (c.put_term.ensures.bytes ∙ ap (λ x. sets c.loop-at.table (9 * c.loop-at.count) (pack x)) c.term_of.ensures)

pub overflow_mul-result : goal.overflow_mul-result
overflow_mul-result c = omega (arith, c.loop-at.invariant.most)

pub returns-then-count-eq0 : goal.returns-then-count-eq0
returns-then-count-eq0 c = passed-empty c.loop-at.invariant c.loop-at-test.false (omega (arith, c.if-count-eq0.true))

pub returns-else-count-eq0 : goal.returns-else-count-eq0
returns-else-count-eq0 c = passed-end c.loop-at.invariant c.loop-at-test.false (λ none. omega (arith, c.if-count-eq0.false))
