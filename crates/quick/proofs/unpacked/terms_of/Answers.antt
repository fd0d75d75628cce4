-- `quick::unpacked::terms_of` meets its contract: after i turns the first i terms stand in front of blanks. Assumes nothing.
use mathlib.Core.Path.{◌≡◌, refl, ap, ◌∙◌}
use native.Mathlib.Omega.{arith}
use lib.ListN.{set, replicate, length-set}
use Rattle.term.specs.Packed.{count_terms, terms_from}
use Rattle.term.proofs.Answers.{sound-few}
use Rattle.quick.specs.Unpacked.{blank}
use Rattle.quick.proofs.Listed.{one-term, drop_blanks}
use Rattle.quick.proofs.unpacked.terms_of.Goals as goal

pub loop-i-init : goal.loop-i-init
unfolding terms_from
loop-i-init c = (refl, refl)

pub offset_bounds-list-i : goal.offset_bounds-list-i
offset_bounds-list-i c = let few = sound-few _ _ c.args.table.sound in record { fits = omega arith }

pub bounds-list-i : goal.bounds-list-i
bounds-list-i c = let few = sound-few _ _ c.args.table.sound in omega arith

pub loop-i-preserved : goal.loop-i-preserved
loop-i-preserved c =
    let t = c.args.table in
    let few = sound-few _ _ t.sound in
    let l = c.loop-i in (
      length-set l.list l.i _ ∙ l.invariant.0,
      ap (set l.list l.i) c.at.ensures.value ∙ one-term t.kind t.bytes.now l.list (replicate 64 blank) l.i (omega arith) l.invariant.1,
    )

pub returns : goal.returns
returns c =
    let t = c.args.table in
    let n = count_terms t.kind t.bytes.now in
    let all : c.loop-i.i ≡ n = omega arith in
    rw (← drop_blanks 64 n blank, ← all) c.loop-i.invariant.1
