-- What stands at a place of a text: a row, or none. Assumes nothing.
use Rattle.std.specs.Prelude.{ℕ, ◌+◌, ◌≤◌, ◌≡◌, Bool, true, false, List, ◌++◌, length, drop, Option, Some, None}
use Rattle.row.specs.declared.Row.{Row}
use Rattle.row.specs.Row.{Good, row_text}

-- no row stands at the front of these bytes
abbrev pub NoRow : List ℕ → Type 0
NoRow s = (row : Row) (rest : List ℕ) → Good row → s ≡ row_text row ++ rest → ⊥

-- a row stands at a place, and `next` is the place behind it
pub record RowAt (s : List ℕ) (at : ℕ) (row : Row) (next : ℕ) : Type 0 where
  pub good : Good row
  pub here : drop at s ≡ row_text row ++ drop next s
  pub reached : next ≡ at + length (row_text row)
  pub within : next ≤ length s

-- what reading at a place finds
abbrev pub Reads : List ℕ → ℕ → Option (Row × ℕ) → Type 0
Reads s at (Some found) = RowAt s at found.0 found.1
Reads s at None = NoRow (drop at s)

-- whether some bytes stand at a place of a list
pub record Stands (s : List ℕ) (at : ℕ) (bytes : List ℕ) (r : Bool) : Type 0 where
  pub yes : r ≡ true → (drop at s ≡ bytes ++ drop (at + length bytes) s) × (at + length bytes ≤ length s)
  pub no : r ≡ false → (rest : List ℕ) → drop at s ≡ bytes ++ rest → ⊥
