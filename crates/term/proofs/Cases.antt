-- P11: row 38's bytes give its fields; the table of that row alone is sound; and the same with twelve bytes. Assumes nothing.
use mathlib.Core.Path.{◌≡◌, refl}
use Rattle.kind.specs.Kind.{by_kind}
use Rattle.std.specs.Prelude.{Ok}
use Rattle.term.specs.Pieces.{wide, joined}
use Rattle.term.specs.Bits.{number, field}
use Rattle.term.specs.Pack.{bytes_of, pieces, pack}
use Rattle.term.specs.Long.{long_from, spare_bits, long_pieces, pack_long}
use Rattle.term.specs.Packed.{plain_factor, plain_from, term_from, spare_from, term_at, spare_at}
use Rattle.term.specs.Sound.{sound_size, matched, sound_term, sound_at, sound_length, broken_from, first_broken, place_answer, table_answer}
use Rattle.term.specs.Row.{row38, fields38, long38}

pub row38-read : term_at 38 row38 0 ≡ fields38
unfolding row38 fields38 term_at term_from plain_from plain_factor by_kind field number joined wide
row38-read = refl

pub row38-pack : pack fields38 ≡ row38
unfolding row38 fields38 pack bytes_of pieces joined wide
row38-pack = refl

pub row38-sound : table_answer 38 row38 ≡ Ok 1
unfolding row38 table_answer sound_length place_answer first_broken broken_from sound_at sound_term sound_size spare_at spare_from term_at term_from plain_from plain_factor by_kind field number joined wide
row38-sound = refl

pub long38-read : term_at 58 long38 0 ≡ fields38
unfolding long38 fields38 term_at term_from long_from by_kind field number joined wide
long38-read = refl

pub long38-pack : pack_long fields38 ≡ long38
unfolding long38 fields38 pack_long bytes_of long_pieces joined wide
long38-pack = refl

pub long38-sound : table_answer 58 long38 ≡ Ok 1
unfolding long38 table_answer sound_length place_answer first_broken broken_from sound_at sound_term sound_size matched spare_at spare_from spare_bits term_at term_from long_from by_kind field number joined wide
long38-sound = refl
