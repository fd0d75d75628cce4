-- A text table (02 c): 1 to 64 rows one behind the other, and the packed terms that they say; and what it is for a line to be the first bad
-- row. There is no parser here. Assumes nothing.
use Rattle.std.specs.Prelude.{ℕ, ◌+◌, ◌≤◌, ◌<◌, ◌≡◌, List, [], ◌∷◌, ◌++◌, length}
use Rattle.term.specs.declared.Term.{Term}
use Rattle.term.specs.Tables.{pack_table}
use Rattle.row.specs.declared.Row.{Row}
use Rattle.row.specs.Row.{Good, row_text, term_of}
use Rattle.row.specs.Standing.{NoRow}

-- every row is good
abbrev pub AllGood : List Row → Type 0
AllGood [] = Unit {0}
AllGood (row ∷ rows) = Good row × AllGood rows

-- the rows' bytes
unfoldable pub rows_text : List Row → List ℕ
rows_text [] = []
rows_text (row ∷ rows) = row_text row ++ rows_text rows

-- the terms that they say
unfoldable pub terms_of : List Row → List Term
terms_of [] = []
terms_of (row ∷ rows) = term_of row ∷ terms_of rows

-- those terms packed, in nine bytes each
unfoldable pub packed : List Row → List ℕ
packed rows = pack_table 38 (terms_of rows)

-- the grammar: the text is a table of these rows
pub record Spells (text : List ℕ) (rows : List Row) : Type 0 where
  pub some : 0 < length rows
  pub most : length rows ≤ 64
  pub good : AllGood rows
  pub bytes : text ≡ rows_text rows

-- "the first bad text row or a 65th, with its line": behind `line` - 1 good rows stands something that does not begin with a row, or anything
-- at all behind 64 of them; an empty text is bad at line 1
pub record FirstBad (text : List ℕ) (line : ℕ) : Type 0 where
  pub rows : List Row
  pub rest : List ℕ
  pub good : AllGood rows
  pub bytes : text ≡ rows_text rows ++ rest
  pub counted : line ≡ length rows + 1
  pub most : length rows ≤ 64
  pub more : rest ≡ [] → length rows ≡ 0
  pub bad : length rows < 64 → NoRow rest
