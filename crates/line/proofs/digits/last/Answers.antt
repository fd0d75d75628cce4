-- `line::digits::last` meets its contract: a remainder by a base of at most 16 has a letter. Assumes nothing.
use native.Mathlib.Nat.{mod-lt, lt_of_lt_of_le}
use Rattle.line.proofs.digits.last.Goals as goal

pub glyph-requires : goal.glyph-requires
glyph-requires c = lt_of_lt_of_le (mod-lt _ c.requires.base_nonzero) c.requires.base_bound

pub returns : goal.returns
returns c = rw (← c.glyph.ensures) c.put_byte.ensures
