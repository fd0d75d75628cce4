-- A text of more than 1,664 bytes is no table, and its first 1,665 bytes tell its first bad line. So a program need not hold more. Assumes nothing.
use Prim.Native.Nat.{ℕ, ◌+◌, ◌*◌, ◌≤◌, ◌<◌}
use native.Mathlib.Omega.{arith}
use mathlib.Core.Path.{◌≡◌, refl, sym, ap, ◌∙◌}
use mathlib.Core.Logic.{◌⊎◌, inl, inr}
use mathlib.Core.List.{List, [], ◌∷◌, ◌++◌, append_assoc}
use lib.ListN.{length, take, drop, length-append, take-append-drop}
use lib.Seq.{take_at, take-append-le, length-take-le}
use Rattle.row.specs.declared.Row.{Row}
use Rattle.row.specs.Row.{row_text}
use Rattle.row.specs.Standing.{NoRow}
use Rattle.row.proofs.Length.{row_length}
use Rattle.text.specs.Table.{rows_text, FirstBad}
use Rattle.text.proofs.Decided.{Table, Bad, table_or_bad}

rows_length : (rows : List Row) → length (rows_text rows) ≤ 26 * length rows
unfolding rows_text
rows_length [] = omega arith
rows_length (r ∷ rows) = simp length-append (omega (arith, row_length r, rows_length rows))

-- whether a row stands at the front is told by as many bytes as a row can have
more-no_row : (rest more : List ℕ) → 26 ≤ length rest → NoRow rest → NoRow (rest ++ more)
more-no_row rest more h none row r g e =
    let n : ℕ = length (row_text row) in
    let front : take n rest ≡ row_text row =
    sym (take-append-le n rest more (omega (arith, row_length row))) ∙ ap (take n) e ∙ take_at (row_text row) r n refl in
    none row (drop n rest) g (sym (take-append-drop n rest) ∙ ap (λ x. x ++ drop n rest) front)

-- what follows so many bytes moves no bad line
more-bad : (text more : List ℕ) (line : ℕ) → 1664 < length text → FirstBad text line → FirstBad (text ++ more) line
more-bad text more line h q =
    let size : length text ≡ length (rows_text q.rows) + length q.rest = ap length q.bytes ∙ length-append (rows_text q.rows) q.rest in
    record {
      rows = q.rows;
      rest = q.rest ++ more;
      good = q.good;
      bytes = ap (λ x. x ++ more) q.bytes ∙ append_assoc (rows_text q.rows) q.rest more;
      counted = q.counted;
      most = q.most;
      more = λ e. absurd (omega (arith, ap length e, length-append q.rest more, rows_length q.rows, q.most));
      bad = λ l. more-no_row q.rest more (omega (arith, rows_length q.rows)) (q.bad l);
    }

pub too_long : (text : List ℕ) → 1664 < length text → Bad text
too_long text h = by (table_or_bad text)
  where
    by : Table text ⊎ Bad text → Bad text
    by (inl t) = absurd (omega (arith, ap length t.spells.bytes, rows_length t.rows, t.spells.most))
    by (inr b) = b

pub enough : (text : List ℕ) → 1664 < length text → (line : ℕ) × FirstBad (take 1665 text) line × FirstBad text line
enough text h =
    let part : List ℕ = take 1665 text in
    let size : 1664 < length part = omega (arith, length-take-le 1665 text (omega arith)) in
    let b = too_long part size in
    let whole : FirstBad (part ++ drop 1665 text) b.line = more-bad part (drop 1665 text) b.line size b.first in
    (b.line, b.first, rw take-append-drop at whole)
