-- `text::writing::spell_terms` meets its contract. The loop's invariant: the terms passed have rows, and these are spelled. Assumes nothing.
use native.Mathlib.Omega.{arith}
use mathlib.Core.Path.{sym, subst, ◌∙◌}
use lib.Seq.{length-take-le}
use borrow.Author.Rules.{rules}
use Rattle.kind.specs.Kind.{by_kind}
use Rattle.lent.specs.Put.{Put}
use Rattle.term.proofs.Rules.{term_at-plain}
use Rattle.row.specs.Saying.{RowOf}
use Rattle.row.proofs.Reading.{test_good, put_front-length, put_front-take}
use Rattle.text.proofs.Terms.{done_none, done_more, done_no, done_all}
use Rattle.text.proofs.writing.spell_terms.Goals as goal

pub loop-i-init : goal.loop-i-init
loop-i-init c = done_none _ _ (search rules)

pub term_at-requires : goal.term_at-requires
unfolding by_kind
term_at-requires c = omega (arith, c.count_terms-i-end.ensures)

pub row_of-row-requires : goal.row_of-row-requires
row_of-row-requires c = rw c.term_at.ensures.0 (term_at-plain 38 (λ e. omega arith) _ _).factor_plain

pub returns-then-not-good : goal.returns-then-not-good
unfolding by_kind
returns-then-not-good c =
    let r = subst (λ t. RowOf t c.row_of-row.result) c.term_at.ensures.0 c.row_of-row.ensures in
    done_no c.loop-i.invariant _ (omega (arith, c.count_terms-i-end.ensures)) r (sym c.good.ensures ∙ c.if-not-good.true)

pub put_row-len-requires : goal.put_row-len-requires
put_row-len-requires c = test_good _ (sym c.good.ensures ∙ c.if-not-good.false)

pub put_bytes-at-requires : goal.put_bytes-at-requires
unfolding by_kind
put_bytes-at-requires c =
    let w = c.put_row-len.ensures in
    omega (arith, c.loop-i.invariant.near, c.loop-i.invariant.full, w.upper_bound, c.count_terms-i-end.ensures, c.requires, length-take-le c.put_row-len.result c.put_row-len.new.out (omega (arith, put_front-length w.put, w.upper_bound)))

pub loop-i-preserved : goal.loop-i-preserved
unfolding by_kind
loop-i-preserved c =
    let w = c.put_row-len.ensures in
    let f = put_front-take w.put (omega (arith, w.upper_bound)) in
    let g = test_good _ (sym c.good.ensures ∙ c.if-not-good.false) in
    let r = subst (λ t. RowOf t c.row_of-row.result) c.term_at.ensures.0 c.row_of-row.ensures in
    let e = subst (λ x. Put c.loop-i.text c.loop-i.at x c.put_bytes-at.new.out c.put_bytes-at.result) f.0 c.put_bytes-at.ensures in
    done_more c.loop-i.invariant _ _ _ (omega (arith, c.requires)) (omega (arith, c.count_terms-i-end.ensures)) g (r.says g) e.reached e.bytes

pub returns : goal.returns
unfolding by_kind
returns c =
    done_all c.loop-i.invariant (omega (arith, c.requires)) (omega (arith, c.count_terms-i-end.ensures))
