-- `quick::slice::ask_at` meets its contract. Assumes nothing.
use Rattle.std.proofs.Common.{◌≡◌, sym, suc, ◌∙◌, length, arith}
use Rattle.quick.specs.Unpacked.{listed}
use Rattle.term.proofs.Answers.{sound-few}
use Rattle.quick.proofs.Laid.{count_sound, laid-all, reply_short, reply_plain}
use Rattle.quick.proofs.Same.{slice_kept_20}
use Rattle.quick.proofs.Stated.{laid-over}
use Rattle.quick.proofs.slice.ask_at.Goals as goal

pub returns-then-terms-count : goal.returns-then-terms-count
returns-then-terms-count c =
    let s = c.args.setting in
    let n = c.count-count.ensures in
    let k = count_sound _ _ _ (record { width_sound = s.width_sound; kind_sound = s.kind_sound; table_sound = s.table.sound }) in
    let l = c.if-terms-count.true in
    record {
      replied = reply_short _ _ _ _ c.args.question (omega (arith, n, k, l));
      numbers = tt;
      slice = sym (slice_kept_20 _ _ _ c.args.terms.now (omega (arith, n, l)));
    }

pub lay-requires : goal.lay-requires
lay-requires c =
    let n = c.count-count.ensures in
    let l = c.if-terms-count.false in
    (omega (arith, n, sound-few _ _ c.args.setting.table.sound), omega (arith, l))

pub returns : goal.returns
returns c =
    let s = c.args.setting in
    let n = c.count-count.ensures in
    let k = count_sound _ _ _ (record { width_sound = s.width_sound; kind_sound = s.kind_sound; table_sound = s.table.sound }) in
    let l = c.if-terms-count.false in
    let u = c.of-unpacked in
    let held : u.result.list ≡ listed s.table.kind s.table.bytes.now c.count-count.result = rw (n, ← u.ensures) u.result.holds in
    let all = laid-all (suc s.v) s.table.kind s.table.bytes.now (length c.args.terms.now) (omega (arith, n, k, l)) in
    record {
      replied = (rw u.ensures at c.quick.ensures.value) ∙ reply_plain _ _ _ _ c.args.question (omega (arith, n, k, l));
      numbers = c.quick.ensures.reply_numbers;
      slice = c.lay.ensures ∙ laid-over _ _ _ c.args.terms.now _ _ (n ∙ k ∙ all) held;
    }
