-- `quick::slice::ask` meets its contract. Assumes nothing.
use mathlib.Core.Path.{refl, sym, ◌∙◌}
use Rattle.quick.proofs.Laid.{refused-input, refused-reply}
use Rattle.quick.proofs.Same.{slice_kept_early}
use Rattle.quick.proofs.slice.ask.Goals as goal

pub returns-in-Ok : goal.returns-in-Ok
returns-in-Ok c =
    let s = c.in-Ok.ensures in
    record { stated = rw (s.1, s.2, s.3) at c.ask_at.ensures; table_stays = refl }

pub returns-in-Err : goal.returns-in-Err
returns-in-Err c =
    let e = c.in-Err.ensures in
    record {
      stated = record {
        replied = c.refused.ensures.value ∙ refused-reply _ _ _ _ _ _ e;
        numbers = c.refused.ensures.reply_numbers;
        slice = sym (slice_kept_early _ _ _ _ (refused-input _ _ _ _ e));
      };
      table_stays = refl;
    }
