-- Every text is a table or has a first bad line. Assumes nothing.
use Prim.Native.Nat.{ℕ, zero, suc, ◌+◌, ◌≤◌, ◌<◌}
use native.Mathlib.Omega.{arith}
use mathlib.Core.Path.{◌≡◌, refl, sym, ap, ◌∙◌}
use mathlib.Core.Logic.{◌⊎◌, inl, inr, ⊎_elim}
use mathlib.Core.List.{List, [], ◌∷◌, ◌++◌, append_assoc, append-nil}
use lib.ListN.{length, length-append}
use Rattle.row.specs.declared.Row.{Row}
use Rattle.row.specs.Row.{row_text}
use Rattle.row.specs.Standing.{NoRow}
use Rattle.row.proofs.Decided.{Begins, row_or_none}
use Rattle.text.specs.Table.{AllGood, rows_text, Spells, FirstBad}
use Rattle.text.proofs.Rows.{good_snoc, text_snoc}

pub record Table (text : List ℕ) : Type 0 where
  pub rows : List Row
  pub spells : Spells text rows

pub record Bad (text : List ℕ) : Type 0 where
  pub line : ℕ
  pub first : FirstBad text line

some : (x : ℕ) (rest : List ℕ) → x ∷ rest ≡ [] → ⊥
some x rest e = let z : ◌≡◌ {A = ℕ} 0 1 = cc in omega arith

module _ (text : List ℕ) where
  -- good rows, and what stands behind them
  record Behind (rows : List Row) (rest : List ℕ) : Type 0 where
    good : AllGood rows
    bytes : text ≡ rows_text rows ++ rest
    most : length rows ≤ 64

  bad : (rows : List Row) (rest : List ℕ) → Behind rows rest → (rest ≡ [] → length rows ≡ 0) → (length rows < 64 → NoRow rest) → Bad text
  bad rows rest b more none =
      record {
        line = length rows + 1;
        first = record { rows = rows; rest = rest; good = b.good; bytes = b.bytes; counted = refl; most = b.most; more = λ end. omega (arith, more end); bad = none };
      }

  one_more : (rows : List Row) (rest : List ℕ) → Behind rows rest → (w : Begins rest) → length rows < 64 → Behind (rows ++ (w.row ∷ [])) w.rest
  one_more rows rest b w l =
      record {
        good = good_snoc rows w.row b.good w.good;
        bytes = b.bytes ∙ ap (λ x. rows_text rows ++ x) w.here ∙ sym (append_assoc (rows_text rows) (row_text w.row) w.rest) ∙ ap (λ x. x ++ w.rest) (sym (text_snoc rows w.row));
        most = omega (arith, length-append rows (w.row ∷ []));
      }

  -- no row goes on: the text ends there, or something else stands there
  stop : (rows : List Row) (rest : List ℕ) → Behind rows rest → (length rows < 64 → NoRow rest) → Table text ⊎ Bad text
  stop [] [] b none = inr (bad [] [] b (λ _. refl) none)
  stop (r ∷ rows) [] b none =
      inl (record {
        rows = r ∷ rows;
        spells = record { some = omega arith; most = b.most; good = b.good; bytes = b.bytes ∙ append-nil (rows_text (r ∷ rows)) };
      })
  stop rows (x ∷ rest) b none = inr (bad rows (x ∷ rest) b (λ k. absurd (some x rest k)) none)

  -- with `left` more rows allowed
  from : (left : ℕ) (rows : List Row) (rest : List ℕ) → Behind rows rest → length rows + left ≡ 64 → Table text ⊎ Bad text
  from zero rows rest b e = stop rows rest b (λ l. absurd (omega arith))
  from (suc left) rows rest b e =
      ⊎_elim
      (λ w. from left (rows ++ (w.row ∷ [])) w.rest (one_more rows rest b w (omega arith)) (omega (arith, length-append rows (w.row ∷ []))))
      (λ none. stop rows rest b (λ _. none))
      (row_or_none rest)

  pub table_or_bad : Table text ⊎ Bad text
  unfolding rows_text
  table_or_bad = from 64 [] text (record { good = tt; bytes = refl; most = omega arith }) refl
