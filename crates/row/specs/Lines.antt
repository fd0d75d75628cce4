-- The line at the front of some bytes: up to its line feed, that included, or all of them if there is none; and how many line feeds there are.
-- Assumes nothing.
use Rattle.std.specs.Prelude.{ℕ, ◌+◌, cond, List, [], ◌∷◌, eqb}
use Rattle.row.specs.Row.{feed}

unfoldable pub line_of : List ℕ → List ℕ
line_of [] = []
line_of (x ∷ s) = x ∷ cond (eqb x feed) [] (line_of s)

unfoldable pub feeds : List ℕ → ℕ
feeds [] = 0
feeds (x ∷ s) = cond (eqb x feed) 1 0 + feeds s
