-- `verdict::settings::Setting::check` meets its contract. Assumes nothing.
use Rattle.std.specs.Prelude.{Some, None, []}
use Rattle.std.proofs.lemmas.Result.{err_from_is_err_and}
use mathlib.Core.Path.{◌≡◌, sym, ◌∙◌}
use mathlib.Core.Bool.{true}
use native.Mathlib.Omega.{arith}
use Rattle.term.specs.Sound.{sound_table}
use Rattle.verdict.specs.Rules.{first_refusal}
use Rattle.verdict.proofs.Order.{on_pass, all_pass, fails-at}
use Rattle.verdict.proofs.Tests.{passed, failed}
use Rattle.verdict.proofs.Tables.{on_fault, on_sound}
use Rattle.verdict.proofs.EitherWidth.{one_less}
use Rattle.verdict.proofs.settings.Setting.check.Goals as goal

pub returns-in_err-unless : goal.returns-in_err-unless
unfolding first_refusal
returns-in_err-unless c =
    let p = err_from_is_err_and c.from_residual.result c.from_residual.ensures.1 in
    rw (p.1, p.2, c.in_err-unless.ensures.1) (fails-at 0 _ None (failed c.sound_width.ensures c.in_err-unless.ensures.0))

pub returns-in_err-unless-2 : goal.returns-in_err-unless-2
unfolding first_refusal
returns-in_err-unless-2 c =
    let p = err_from_is_err_and c.from_residual-in_err-unless-2.result c.from_residual-in_err-unless-2.ensures.1 in
    rw (p.1, p.2, c.in_err-unless-2.ensures.1)
    (fails-at 1 _ None (passed c.sound_width.ensures c.in_ok-unless.ensures, failed c.sound_kind.ensures c.in_err-unless-2.ensures.0))

pub returns-in_err-table : goal.returns-in_err-table
unfolding first_refusal
returns-in_err-table c =
    let p = err_from_is_err_and c.from_residual-in_err-table.result c.from_residual-in_err-table.ensures.1 in
    rw (p.1, p.2)
    (on_pass _ _ None (passed c.sound_width.ensures c.in_ok-unless.ensures)
    ∙ on_pass _ _ None (passed c.sound_kind.ensures c.in_ok-unless-2.ensures)
    ∙ sym (on_fault Some _ _ [] None _ c.in_err-table.ensures))

pub overflow_sub-result : goal.overflow_sub-result
overflow_sub-result c = omega (arith, (one_less _ (passed c.sound_width.ensures c.in_ok-unless.ensures)).1)

pub invariant_of-result : goal.invariant_of-result
invariant_of-result c =
    let p = passed c.sound_width.ensures c.in_ok-unless.ensures in
    let k = passed c.sound_kind.ensures c.in_ok-unless-2.ensures in
    record { width_sound = rw (one_less _ p).1 p; kind_sound = rw c.in_ok-table.ensures.0 k }

pub returns : goal.returns
unfolding first_refusal
returns c =
    let p = passed c.sound_width.ensures c.in_ok-unless.ensures in
    let t = c.in_ok-table.ensures in
    let s : sound_table c.args.kind c.args.table.now ≡ true = rw (t.0, t.1) at c.in_ok-table.table.sound in (
      on_pass _ _ None p
          ∙ on_pass _ _ None (passed c.sound_kind.ensures c.in_ok-unless-2.ensures)
          ∙ on_sound Some _ _ [] None s
          ∙ all_pass [] None tt,
      (one_less _ p).1,
      t.0,
      t.1,
    )
