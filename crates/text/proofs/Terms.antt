-- The loop over the terms of a table: what is known with so many terms spelled, and what follows at each way out. Assumes nothing.
use Prim.Native.Nat.{ℕ, ◌+◌, ◌*◌, ◌≤◌, ◌<◌}
use native.Mathlib.Nat.{zero-add}
use native.Mathlib.Numerals.{add-one}
use native.Mathlib.Omega.{arith}
use mathlib.Core.Path.{◌≡◌, refl, sym, ap, subst, ◌∙◌}
use mathlib.Core.Bool.{false, false≢true}
use mathlib.Core.List.{List, [], ◌∷◌, ◌++◌}
use lib.ListN.{length, drop, length-append}
use lib.Seq.{sets, length-sets}
use Rattle.lent.proofs.Behind.{behind}
use Rattle.term.specs.Packed.{term_at, terms_from, count_terms}
use Rattle.term.proofs.Terms.{from_more}
use Rattle.row.specs.declared.Row.{Row}
use Rattle.row.specs.Row.{Good, good_row, row_text, term_of}
use Rattle.row.specs.Saying.{RowOf}
use Rattle.row.proofs.Length.{row_length}
use Rattle.row.proofs.Reading.{good_test}
use Rattle.text.specs.Table.{rows_text, terms_of}
use Rattle.text.specs.Writes.{Spelling, FirstUnspelled, Typed}
use Rattle.text.proofs.Rows.{text_snoc, good_snoc}

pub terms-snoc : (rows : List Row) (row : Row) → terms_of (rows ++ (row ∷ [])) ≡ terms_of rows ++ (term_of row ∷ [])
unfolding terms_of
terms-snoc [] row = refl
terms-snoc (r ∷ rows) row = ap (λ l. term_of r ∷ l) (terms-snoc rows row)

-- with i terms passed
pub record Done (table text₀ : List ℕ) (at i : ℕ) (text : List ℕ) : Type 0 where
  pub rows : List Row
  pub spelling : Spelling table i rows
  pub reached : at ≡ length (rows_text rows)
  pub most : i ≤ count_terms 38 table
  pub near : at ≤ 26 * i
  pub room : length text₀ ≡ 1664
  pub full : length text ≡ 1664
  pub written : text ≡ rows_text rows ++ drop at text₀

pub done_none : (table text₀ : List ℕ) → length text₀ ≡ 1664 → Done table text₀ 0 0 text₀
unfolding rows_text terms_of terms_from
done_none table text₀ h =
    record {
      rows = [];
      spelling = record { good = tt; said = refl };
      reached = refl;
      most = omega arith;
      near = omega arith;
      room = h;
      full = h;
      written = refl;
    }

module _ {table text₀ : List ℕ} {at i : ℕ} {text : List ℕ} (p : Done table text₀ at i text) where
  pub done_more : (row : Row) (next : ℕ) (text' : List ℕ) → count_terms 38 table ≤ 64 → i < count_terms 38 table → Good row → term_of row ≡ term_at 38 table i
      → next ≡ at + length (row_text row) → text' ≡ sets text at (row_text row) → Done table text₀ next (i + 1) text'
  done_more row next text' few l g t n e =
      let last : terms_from 38 table 0 (i + 1) ≡ terms_from 38 table 0 i ++ (term_at 38 table i ∷ []) =
      ap (terms_from 38 table 0) (add-one i) ∙ from_more 38 table 0 i ∙ ap (λ k. terms_from 38 table 0 i ++ (term_at 38 table k ∷ [])) (zero-add i) in
      record {
        rows = p.rows ++ (row ∷ []);
        spelling =
            record {
              good = good_snoc p.rows row p.spelling.good g;
              said = terms-snoc p.rows row ∙ ap (λ x. x ++ (term_of row ∷ [])) p.spelling.said ∙ ap (λ x. terms_from 38 table 0 i ++ (x ∷ [])) t ∙ sym last;
            };
        reached = n ∙ ap (λ k. k + length (row_text row)) p.reached ∙ sym (ap length (text_snoc p.rows row) ∙ length-append (rows_text p.rows) (row_text row));
        most = omega arith;
        near = omega (arith, row_length row, p.near);
        room = p.room;
        full = ap length e ∙ length-sets text at (row_text row) ∙ p.full;
        written = e ∙ ap (λ x. sets x at (row_text row)) p.written
            ∙ behind (rows_text p.rows) text₀ at (row_text row) (sym p.reached) (omega (arith, row_length row, p.near, p.room))
            ∙ rw (text_snoc p.rows row, n);
      }

  pub done_no : (row : Row) → i < count_terms 38 table → RowOf (term_at 38 table i) row → good_row row ≡ false → FirstUnspelled table (i + 1)
  done_no row l w bad =
      record {
        k = i;
        rows = p.rows;
        before = p.spelling;
        here = λ r g e. false≢true (sym bad ∙ ap good_row (w.only r g e) ∙ good_test r g);
        within = l;
        counted = refl;
      }

  pub done_all : count_terms 38 table ≤ 64 → count_terms 38 table ≤ i → Typed table text₀ at text
  done_all few l =
      let all : i ≡ count_terms 38 table = omega (arith, p.most) in
      record {
        rows = p.rows;
        spelling = subst (λ k. Spelling table k p.rows) all p.spelling;
        counted = p.reached;
        front = record { room = omega (arith, p.reached, p.near, p.room); bytes = p.written ∙ ap (λ k. rows_text p.rows ++ drop k text₀) p.reached };
      }
