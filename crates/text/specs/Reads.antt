-- What reading a text promises, answer by answer (02 c). Assumes nothing.
use Rattle.std.specs.Prelude.{ℕ, ◌<◌, ◌≡◌, List, length, Result, Ok, Err}
use Rattle.lent.specs.Front.{Front}
use Rattle.row.specs.declared.Row.{Row}
use Rattle.text.specs.declared.ReadFault.{ReadFault}
use Rattle.text.specs.declared.ReadFault.TheVariants.{BadRow, NoRoom}
use Rattle.text.specs.Table.{packed, Spells, FirstBad}

-- the text is a table, and the n bytes of its packed terms are at the buffer's front; behind them it is as before
pub record Taken (text before : List ℕ) (n : ℕ) (after : List ℕ) : Type 0 where
  pub rows : List Row
  pub spells : Spells text rows
  pub counted : n ≡ length (packed rows)
  pub front : Front before (packed rows) after

-- 18: the text is a table, and its packed terms are longer than the buffer
pub record NoRoomFor (text before : List ℕ) : Type 0 where
  pub rows : List Row
  pub spells : Spells text rows
  pub longer : length before < length (packed rows)

abbrev pub Checks : List ℕ → List ℕ → List ℕ → Result ℕ ℕ → Type 0
Checks text before after (Ok n) = Taken text before n after
Checks text before after (Err line) = FirstBad text line

-- the call: the bytes written, 16 with its line, or 18; a refusal has changed no byte
abbrev pub ReadSays : List ℕ → List ℕ → List ℕ → Result ℕ ReadFault → Type 0
ReadSays text before after (Ok n) = Taken text before n after
ReadSays text before after (Err (BadRow line)) = FirstBad text line × (after ≡ before)
ReadSays text before after (Err NoRoom) = NoRoomFor text before × (after ≡ before)
