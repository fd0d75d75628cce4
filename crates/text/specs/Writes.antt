-- What writing a table as text promises, answer by answer (02 c). Assumes nothing.
use Rattle.std.specs.Prelude.{ℕ, ◌+◌, ◌<◌, ◌≡◌, List, length, Result, Ok, Err}
use Rattle.lent.specs.Front.{Front}
use Rattle.term.specs.Packed.{term_at, terms_from, count_terms}
use Rattle.term.specs.Sound.{table_answer}
use Rattle.row.specs.declared.Row.{Row}
use Rattle.row.specs.Saying.{NoSpelling}
use Rattle.text.specs.declared.WriteFault.{WriteFault}
use Rattle.text.specs.declared.WriteFault.TheVariants.{Unsound, NoSpelling as Unspelled, TooLong}
use Rattle.text.specs.Table.{AllGood, rows_text, terms_of}

-- good rows say the first n terms of a table
pub record Spelling (table : List ℕ) (n : ℕ) (rows : List Row) : Type 0 where
  pub good : AllGood rows
  pub said : terms_of rows ≡ terms_from 38 table 0 n

-- 17: the term at this place, counted from 1, has no spelling, and each before it has one
pub record FirstUnspelled (table : List ℕ) (place : ℕ) : Type 0 where
  pub k : ℕ
  pub rows : List Row
  pub before : Spelling table k rows
  pub here : NoSpelling (term_at 38 table k)
  pub within : k < count_terms 38 table
  pub counted : place ≡ k + 1

-- the table's text, n bytes, is at the buffer's front; behind it the buffer is as before
pub record Typed (table before : List ℕ) (n : ℕ) (after : List ℕ) : Type 0 where
  pub rows : List Row
  pub spelling : Spelling table (count_terms 38 table) rows
  pub counted : n ≡ length (rows_text rows)
  pub front : Front before (rows_text rows) after

-- 18: the table's text is longer than the buffer
pub record NoRoomForText (table before : List ℕ) : Type 0 where
  pub rows : List Row
  pub spelling : Spelling table (count_terms 38 table) rows
  pub longer : length before < length (rows_text rows)

abbrev pub SpellsOut : List ℕ → List ℕ → List ℕ → Result ℕ ℕ → Type 0
SpellsOut table before after (Ok n) = Typed table before n after
SpellsOut table before after (Err place) = FirstUnspelled table place

abbrev pub SoundTable : List ℕ → Type 0
SoundTable table = table_answer 38 table ≡ Ok (count_terms 38 table)

-- the call: the bytes written; 1 and 2 as the table's check gives them; 17 with its place; or 18. A refusal has changed no byte
abbrev pub WriteSays : List ℕ → List ℕ → List ℕ → Result ℕ WriteFault → Type 0
WriteSays table before after (Ok n) = SoundTable table × Typed table before n after
WriteSays table before after (Err (Unsound fault)) = (table_answer 38 table ≡ Err fault) × (after ≡ before)
WriteSays table before after (Err (Unspelled place)) = SoundTable table × FirstUnspelled table place × (after ≡ before)
WriteSays table before after (Err TooLong) = SoundTable table × NoRoomForText table before × (after ≡ before)
