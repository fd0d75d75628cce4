-- A text is a table of at most one list of rows, or has at most one first bad line, and not both. Assumes nothing.
use Prim.Native.Nat.{ℕ, zero, suc, ◌+◌, ◌≤◌, ◌<◌}
use native.Mathlib.Omega.{arith}
use mathlib.Core.Path.{◌≡◌, refl, sym, ap, ap₂, ◌∙◌}
use mathlib.Core.List.{List, [], ◌∷◌, ◌++◌, append_assoc, append-nil}
use lib.ListN.{length}
use Rattle.row.specs.declared.Row.{Row}
use Rattle.row.specs.Row.{row_text}
use Rattle.row.specs.Standing.{NoRow}
use Rattle.row.proofs.Back.{one-row}
use Rattle.row.proofs.Length.{row_some}
use Rattle.text.specs.Table.{AllGood, rows_text, Spells, FirstBad}

-- rows that go on as far as rows go, or to a count, are the same rows
pub same_rows : (k : ℕ) (xs bs : List Row) (x y : List ℕ) → AllGood xs → AllGood bs → length xs ≤ k → length bs ≤ k
    → (length xs < k → NoRow x) → (length bs < k → NoRow y) → rows_text xs ++ x ≡ rows_text bs ++ y → (xs ≡ bs) × (x ≡ y)
unfolding rows_text
same_rows k [] [] x y ga gb la lb na nb e = (refl, e)
same_rows k [] (b ∷ bs) x y ga gb la lb na nb e = absurd (na (omega arith) b (rows_text bs ++ y) gb.0 (e ∙ append_assoc (row_text b) (rows_text bs) y))
same_rows k (a ∷ xs) [] x y ga gb la lb na nb e = absurd (nb (omega arith) a (rows_text xs ++ x) ga.0 (sym e ∙ append_assoc (row_text a) (rows_text xs) x))
same_rows zero (a ∷ xs) (b ∷ bs) x y ga gb la lb na nb e = absurd (omega arith)
same_rows (suc k) (a ∷ xs) (b ∷ bs) x y ga gb la lb na nb e =
    let one = one-row a b (rows_text xs ++ x) (rows_text bs ++ y) ga.0 gb.0 (sym (append_assoc (row_text a) (rows_text xs) x) ∙ e ∙ append_assoc (row_text b) (rows_text bs) y) in
    let rest = same_rows k xs bs x y ga.1 gb.1 (omega arith) (omega arith) (λ l. na (omega arith)) (λ l. nb (omega arith)) one.1 in
    (ap₂ (λ r rs. r ∷ rs) one.0 rest.0, rest.1)

pub no_row-nil : NoRow []
no_row-nil row rest g e = row_some row rest e

-- a text spells at most one table
pub spells_one : {text : List ℕ} {a b : List Row} → Spells text a → Spells text b → a ≡ b
spells_one {text} {a} {b} p q =
    (same_rows 64 a b [] [] p.good q.good p.most q.most (λ _. no_row-nil) (λ _. no_row-nil)
    (append-nil (rows_text a) ∙ sym p.bytes ∙ q.bytes ∙ sym (append-nil (rows_text b)))).0

-- it has at most one first bad line
pub bad-one : {text : List ℕ} {m n : ℕ} → FirstBad text m → FirstBad text n → m ≡ n
bad-one p q =
    let same = (same_rows 64 p.rows q.rows p.rest q.rest p.good q.good p.most q.most p.bad q.bad (sym p.bytes ∙ q.bytes)).0 in
    p.counted ∙ ap (λ r. length r + 1) same ∙ sym q.counted

-- a table has no bad line
pub spells-not_bad : {text : List ℕ} {rows : List Row} {n : ℕ} → Spells text rows → FirstBad text n → ⊥
spells-not_bad {text} {rows} p q =
    let same = same_rows 64 rows q.rows [] q.rest p.good q.good p.most q.most (λ _. no_row-nil) q.bad (append-nil (rows_text rows) ∙ sym p.bytes ∙ q.bytes) in
    omega (arith, p.some, q.more (sym same.1), ap length same.0)
