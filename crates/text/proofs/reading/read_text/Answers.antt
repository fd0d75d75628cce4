-- `text::reading::read_text` meets its contract: what was read is delivered, or there is no room. Assumes nothing.
use mathlib.Core.Path.{◌≡◌, refl}
use borrow.Author.Rules.{rules}
use Rattle.std.specs.Prelude.{Ok}
use Rattle.text.proofs.Delivered.{told-bytes, taken-answer}
use Rattle.text.proofs.reading.read_text.Goals as goal

pub returns : goal.returns
returns c =
    let read : c.read_rows.result ≡ Ok c.in_ok-n.n = search rules in
    let t = told-bytes read c.read_rows.ensures in
    record { read_says = rw c.ok_or.ensures.value (taken-answer t _ c.deliver.ensures.delivered c.deliver.ensures.count); text_stays = refl }
