-- `convert::engine::convert` meets its contract: the terms of a sound table are delivered, or there is no room. Assumes nothing.
use mathlib.Core.Path.{◌≡◌, refl}
use borrow.Author.Rules.{rules}
use Rattle.std.specs.Prelude.{Ok}
use Rattle.term.proofs.Answers.{sound-answer}
use Rattle.convert.specs.Converts.{SoundTable}
use Rattle.convert.proofs.Delivered.{told-bytes, turned-answer}
use Rattle.convert.proofs.engine.convert.Goals as goal

pub returns-in_err-n-clause-says : goal.returns-in_err-n-clause-says
returns-in_err-n-clause-says c =
    let a = c.args in
    let checked : c.check.result ≡ Ok c.in_ok-sound.sound = search rules in
    let same = rw checked at c.check.ensures in
    let sound : SoundTable a.from a.table.now = sound-answer a.from a.table.now (rw (same.0, same.1) at c.in_ok-sound.sound.sound) in
    let packs = rw (same.0, same.1) at c.pack_terms.ensures in
    search rules

pub returns : goal.returns
returns c =
    let a = c.args in
    let checked : c.check.result ≡ Ok c.in_ok-sound.sound = search rules in
    let same = rw checked at c.check.ensures in
    let sound : SoundTable a.from a.table.now = sound-answer a.from a.table.now (rw (same.0, same.1) at c.in_ok-sound.sound.sound) in
    let packed : c.pack_terms.result ≡ Ok c.in_ok-n.n = search rules in
    let t = told-bytes packed (rw (same.0, same.1) at c.pack_terms.ensures) in
    record { says = rw c.ok_or.ensures.value (turned-answer t _ sound c.deliver.ensures.delivered c.deliver.ensures.count); table_stays = refl }
