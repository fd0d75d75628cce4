-- The line of the first bad row: one more than the line feeds before it. Assumes nothing.
use Prim.Native.Nat.{ℕ, ◌+◌}
use native.Mathlib.Omega.{arith}
use mathlib.Core.Path.{◌≡◌, ap, ◌∙◌}
use mathlib.Core.List.{List, [], ◌∷◌, ◌++◌, append_assoc}
use lib.ListN.{length}
use Rattle.row.specs.declared.Row.{Row}
use Rattle.row.specs.Row.{row_text}
use Rattle.row.specs.Lines.{feeds}
use Rattle.row.proofs.Lines.{row_feeds}
use Rattle.text.specs.Table.{rows_text, FirstBad}

rows_feeds : (rows : List Row) (rest : List ℕ) → feeds (rows_text rows ++ rest) ≡ length rows + feeds rest
unfolding rows_text
rows_feeds [] rest = omega arith
rows_feeds (r ∷ rows) rest = ap feeds (append_assoc (row_text r) (rows_text rows) rest) ∙ row_feeds r (rows_text rows ++ rest) ∙ omega (arith, rows_feeds rows rest)

pub bad-line : {text : List ℕ} {line : ℕ} (q : FirstBad text line) → line + feeds q.rest ≡ feeds text + 1
bad-line {text} {line} q = omega (arith, q.counted, ap feeds q.bytes, rows_feeds q.rows q.rest)
