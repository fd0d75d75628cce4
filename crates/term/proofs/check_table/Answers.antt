-- `term::check_table` meets its contract: the length decides first, then the place of the first broken term. Assumes nothing.
use mathlib.Core.Path.{refl, sym, ◌∙◌}
use Rattle.term.specs.Sound.{place_answer, table_answer}
use Rattle.term.proofs.Rules.{sound_length-whole, whole_widest, place_some}
use Rattle.term.proofs.check_table.Goals as goal

pub returns-then-not-sound_length : goal.returns-then-not-sound_length
unfolding table_answer
returns-then-not-sound_length c = (rw (sym c.sound_length.ensures ∙ c.if-not-sound_length.true), refl)

pub first_broken-requires : goal.first_broken-requires
first_broken-requires c = whole_widest (sound_length-whole _ _ (sym c.sound_length.ensures ∙ c.if-not-sound_length.false))

pub returns-in-None : goal.returns-in-None
unfolding table_answer place_answer
returns-in-None c = (rw (sym c.sound_length.ensures ∙ c.if-not-sound_length.false, c.in-None.ensures, c.count_terms.ensures), refl)

pub returns-in-Some : goal.returns-in-Some
unfolding table_answer
returns-in-Some c =
    let found = c.in-Some.ensures in
    (rw (sym c.sound_length.ensures ∙ c.if-not-sound_length.false, found.0) (place_some _ _ found.1), refl)
