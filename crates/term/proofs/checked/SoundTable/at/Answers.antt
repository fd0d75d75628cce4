-- `term::checked::SoundTable::at` meets its contract: a sound table's terms lie within it. Assumes nothing.
use mathlib.Core.Path.{sym, subst}
use Rattle.term.specs.Bounds.{Bounds}
use Rattle.term.proofs.Answers.{sound-bounds, sound-reach}
use Rattle.term.proofs.checked.SoundTable.at.Goals as goal

pub term_at-requires : goal.term_at-requires
term_at-requires c =
    let t = c.args.self in
    sound-reach t.kind t.bytes.now t.sound c.args.k c.requires

pub returns : goal.returns
returns c =
    let t = c.args.self in
    record {
      value = c.term_at.ensures.0;
      bounds = subst Bounds (sym c.term_at.ensures.0) (sound-bounds t.kind t.bytes.now t.sound c.args.k c.requires);
    }
