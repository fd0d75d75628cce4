-- `text::writing::write_text` meets its contract: the text of a sound table is delivered, or there is no room. Assumes nothing.
use mathlib.Core.Path.{◌≡◌, refl, sym, ◌∙◌}
use borrow.Author.Rules.{rules}
use Rattle.std.specs.Prelude.{Ok}
use Rattle.kind.specs.Kind.{by_kind}
use Rattle.term.proofs.Answers.{answer-sound, sound-answer, sound-whole}
use Rattle.text.specs.Writes.{SoundTable}
use Rattle.text.proofs.Delivered.{told_text, typed_answer}
use Rattle.text.proofs.writing.write_text.Goals as goal

pub spell_terms-requires : goal.spell_terms-requires
unfolding by_kind
spell_terms-requires c =
    let checked : c.check_table.result ≡ Ok c.in_ok-map_err.field-0 = search rules in
    (sound-whole 38 _ (answer-sound 38 _ _ (sym c.check_table.ensures.0 ∙ checked)).0).most

pub returns-in_err-n-clause-write_says : goal.returns-in_err-n-clause-write_says
returns-in_err-n-clause-write_says c =
    let checked : c.check_table.result ≡ Ok c.in_ok-map_err.field-0 = search rules in
    let sound : SoundTable c.args.table.now = sound-answer 38 _ (answer-sound 38 _ _ (sym c.check_table.ensures.0 ∙ checked)).0 in
    search rules

pub returns : goal.returns
returns c =
    let checked : c.check_table.result ≡ Ok c.in_ok-map_err.field-0 = search rules in
    let sound : SoundTable c.args.table.now = sound-answer 38 _ (answer-sound 38 _ _ (sym c.check_table.ensures.0 ∙ checked)).0 in
    let spelled : c.spell_terms.result ≡ Ok c.in_ok-n.n = search rules in
    let t = told_text spelled c.spell_terms.ensures in
    record { write_says = rw c.ok_or.ensures.value (typed_answer t _ sound c.deliver.ensures.delivered c.deliver.ensures.count); table_stays = refl }
