-- `convert::engine::pack_terms` meets its contract. The loop's invariant: the terms passed have a form, and stand packed. Assumes nothing.
use native.Mathlib.Omega.{arith}
use mathlib.Core.Path.{◌≡◌, sym, subst, ◌∙◌}
use mathlib.Core.Bool.{true, false}
use Rattle.term.specs.Bounds.{WithinKind}
use Rattle.lent.specs.Put.{Put}
use Rattle.term.specs.Tables.{pack_term}
use Rattle.term.proofs.Rules.{term_at-fields}
use Rattle.term.proofs.Answers.{sound-few}
use borrow.Author.Rules.{rules}
use Rattle.convert.specs.Form.{has_form}
use Rattle.convert.proofs.Forms.{form_within}
use Rattle.convert.proofs.Loop.{done_none, done_more, done_no, done_all, one-fits}
use Rattle.convert.proofs.engine.pack_terms.Goals as goal

pub loop-i-init : goal.loop-i-init
loop-i-init c = done_none _ _ _ _ (search rules)

pub returns-then-not-has_form : goal.returns-then-not-has_form
returns-then-not-has_form c =
    let none = sym c.has_form.ensures ∙ c.if-not-has_form.true in
    done_no c.loop-i.invariant (omega (arith, c.count-i-end.ensures)) (subst (λ x. has_form c.args.to x ≡ false) c.at-term.ensures.value none)

pub put_form-at-requires : goal.put_form-at-requires
put_form-at-requires c =
    let t = c.args.table in
    let formed = subst (λ x. has_form c.args.to x ≡ true) c.at-term.ensures.value (sym c.has_form.ensures ∙ c.if-not-has_form.false) in
    let within = form_within _ c.args.to (term_at-fields t.kind t.bytes.now c.loop-i.i) formed in
    let few = sound-few t.kind t.bytes.now t.sound in (
      omega (arith, c.loop-i.invariant.reached, c.loop-i.invariant.full, one-fits c.args.to c.loop-i.i c.count-i-end.result (omega arith) (omega (arith, c.count-i-end.ensures, few))),
      subst (WithinKind c.args.to) (sym c.at-term.ensures.value) within,
    )

pub loop-i-preserved : goal.loop-i-preserved
loop-i-preserved c =
    let t = c.args.table in
    let formed = subst (λ x. has_form c.args.to x ≡ true) c.at-term.ensures.value (sym c.has_form.ensures ∙ c.if-not-has_form.false) in
    let put = subst (λ x. Put c.loop-i.packed c.loop-i.at (pack_term c.args.to x) c.put_form-at.new.out c.put_form-at.result) c.at-term.ensures.value c.put_form-at.ensures in
    done_more c.loop-i.invariant _ _ (sound-few t.kind t.bytes.now t.sound) (omega (arith, c.count-i-end.ensures)) formed put.reached put.bytes

pub returns : goal.returns
returns c =
    let t = c.args.table in
    done_all c.loop-i.invariant (sound-few t.kind t.bytes.now t.sound) (omega (arith, c.count-i-end.ensures))
