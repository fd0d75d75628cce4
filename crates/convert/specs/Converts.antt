-- What a conversion from one kind of table to another promises, answer by answer (document 02, h). Assumes nothing.
use Rattle.std.specs.Prelude.{ℕ, ◌+◌, ◌<◌, ◌≡◌, true, false, List, length, Result, Ok, Err}
use Rattle.lent.specs.Front.{Front}
use Rattle.term.specs.Packed.{term_at, terms, count_terms}
use Rattle.term.specs.Tables.{pack_table}
use Rattle.term.specs.Sound.{table_answer}
use Rattle.convert.specs.declared.ConvertFault.{ConvertFault}
use Rattle.convert.specs.declared.ConvertFault.TheVariants.{Unsound, NoOldForm, NoRoom}
use Rattle.convert.specs.Form.{has_form}

-- the terms of a table of one kind, packed as the other kind's
unfoldable pub converted : (from to : ℕ) → List ℕ → List ℕ
converted from to table = pack_table to (terms from table)

abbrev pub lengthened : List ℕ → List ℕ
lengthened = converted 38 58

abbrev pub shortened : List ℕ → List ℕ
shortened = converted 58 38

-- the first n terms have a form of the other kind
abbrev pub FormBelow : (from to : ℕ) → List ℕ → ℕ → Type 0
FormBelow from to table n = (k : ℕ) → k < n → has_form to (term_at from table k) ≡ true

-- 22: the term at this place, counted from 1, has none, and each before it has one
pub record FirstWithout (from to : ℕ) (table : List ℕ) (place : ℕ) : Type 0 where
  pub k : ℕ
  pub within : k < count_terms from table
  pub here : has_form to (term_at from table k) ≡ false
  pub before : FormBelow from to table k
  pub counted : place ≡ k + 1

-- the converted table, n bytes, is at the buffer's front; behind it the buffer is as before
pub record Turned (from to : ℕ) (table before : List ℕ) (n : ℕ) (after : List ℕ) : Type 0 where
  pub form : FormBelow from to table (count_terms from table)
  pub counted : n ≡ length (converted from to table)
  pub front : Front before (converted from to table) after

-- 18: the converted table is longer than the buffer
pub record NoRoomFor (from to : ℕ) (table before : List ℕ) : Type 0 where
  pub form : FormBelow from to table (count_terms from table)  -- else it is 22
  pub longer : length before < length (converted from to table)

abbrev pub Packs : (from to : ℕ) → List ℕ → List ℕ → List ℕ → Result ℕ ℕ → Type 0
Packs from to table before after (Ok n) = Turned from to table before n after
Packs from to table before after (Err place) = FirstWithout from to table place

abbrev pub SoundTable : ℕ → List ℕ → Type 0
SoundTable from table = table_answer from table ≡ Ok (count_terms from table)

-- the call: the bytes written; 1 and 2 as the table's check gives them; 22 with its place; or 18. A refusal has changed no byte
abbrev pub Says : (from to : ℕ) → List ℕ → List ℕ → List ℕ → Result ℕ ConvertFault → Type 0
Says from to table before after (Ok n) = SoundTable from table × Turned from to table before n after
Says from to table before after (Err (Unsound fault)) = (table_answer from table ≡ Err fault) × (after ≡ before)
Says from to table before after (Err (NoOldForm place)) = SoundTable from table × FirstWithout from to table place × (after ≡ before)
Says from to table before after (Err NoRoom) = SoundTable from table × NoRoomFor from to table before × (after ≡ before)
