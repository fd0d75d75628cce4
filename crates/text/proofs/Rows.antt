-- The loop over the rows of a text: what is known with so many rows passed, and what follows at each way out. Assumes nothing.
use Prim.Native.Nat.{ℕ, suc, ◌+◌, ◌*◌, ◌≤◌, ◌<◌}
use native.Mathlib.Omega.{arith}
use mathlib.Core.Path.{◌≡◌, refl, sym, ap, ◌∙◌}
use mathlib.Core.List.{List, [], ◌∷◌, ◌++◌, append_assoc, append-nil}
use lib.ListN.{length, drop, length-append, drop_of_length-le, length-drop}
use lib.Seq.{sets, length-sets}
use Rattle.lent.proofs.Behind.{behind}
use Rattle.kind.specs.Kind.{by_kind}
use Rattle.term.specs.Pack.{pack}
use Rattle.term.specs.Tables.{pack_term, pack_table}
use Rattle.term.proofs.Reading.{pack-length, pack_table-length}
use Rattle.row.specs.declared.Row.{Row}
use Rattle.row.specs.Row.{Good, row_text, term_of}
use Rattle.row.specs.Standing.{NoRow, RowAt}
use Rattle.row.proofs.Length.{row_length, row_some}
use Rattle.text.specs.Table.{AllGood, rows_text, terms_of, packed, FirstBad}
use Rattle.text.specs.Reads.{Taken}

pub good_snoc : (rows : List Row) (row : Row) → AllGood rows → Good row → AllGood (rows ++ (row ∷ []))
good_snoc [] row a g = (g, tt)
good_snoc (r ∷ rows) row a g = (a.0, good_snoc rows row a.1 g)

pub text_snoc : (rows : List Row) (row : Row) → rows_text (rows ++ (row ∷ [])) ≡ rows_text rows ++ row_text row
unfolding rows_text
text_snoc [] row = append-nil (row_text row)
text_snoc (r ∷ rows) row = ap (λ l. row_text r ++ l) (text_snoc rows row) ∙ sym (append_assoc (row_text r) (rows_text rows) (row_text row))

pub packed-snoc : (rows : List Row) (row : Row) → packed (rows ++ (row ∷ [])) ≡ packed rows ++ pack (term_of row)
unfolding packed terms_of pack_table pack_term
packed-snoc [] row = append-nil (pack (term_of row))
packed-snoc (r ∷ rows) row = ap (λ l. pack (term_of r) ++ l) (packed-snoc rows row) ∙ sym (append_assoc (pack (term_of r)) (packed rows) (pack (term_of row)))

pub terms-count : (rows : List Row) → length (terms_of rows) ≡ length rows
unfolding terms_of
terms-count [] = refl
terms-count (r ∷ rows) = ap suc (terms-count rows)

pub packed-length : (rows : List Row) → length (packed rows) ≡ 9 * length rows
unfolding packed by_kind
packed-length rows = pack_table-length 38 (terms_of rows) ∙ ap (λ n. 9 * n) (terms-count rows)

-- with `count` rows passed: they are good, they stand before the place, and their terms are at the table's front
pub record Passed (text table₀ : List ℕ) (at count : ℕ) (table : List ℕ) : Type 0 where
  pub rows : List Row
  pub good : AllGood rows
  pub bytes : text ≡ rows_text rows ++ drop at text
  pub counted : count ≡ length rows
  pub most : count ≤ 64
  pub within : at ≤ length text
  pub near : at ≤ 26 * count
  pub room : length table₀ ≡ 576
  pub full : length table ≡ 576
  pub written : table ≡ packed rows ++ drop (9 * count) table₀

pub passed_none : (text table₀ : List ℕ) → length table₀ ≡ 576 → Passed text table₀ 0 0 table₀
unfolding rows_text packed terms_of pack_table
passed_none text table₀ h =
    record {
      rows = [];
      good = tt;
      bytes = refl;
      counted = refl;
      most = omega arith;
      within = omega arith;
      near = omega arith;
      room = h;
      full = h;
      written = refl;
    }

module _ {text table₀ : List ℕ} {at count : ℕ} {table : List ℕ} (p : Passed text table₀ at count table) where
  pub passed-more : (row : Row) (next : ℕ) (table' : List ℕ) → count < 64 → RowAt text at row next
      → table' ≡ sets table (9 * count) (pack (term_of row)) → Passed text table₀ next (count + 1) table'
  unfolding pack_term by_kind
  passed-more row next table' l r e =
      let nine : length (pack (term_of row)) ≡ 9 = pack-length 38 (term_of row) in
      let long : length (packed p.rows) ≡ 9 * count = packed-length p.rows ∙ ap (λ n. 9 * n) (sym p.counted) in
      let place : 9 * (count + 1) ≡ 9 * count + length (pack (term_of row)) = omega (arith, nine) in
      record {
        rows = p.rows ++ (row ∷ []);
        good = good_snoc p.rows row p.good r.good;
        bytes = p.bytes ∙ ap (λ x. rows_text p.rows ++ x) r.here
            ∙ sym (append_assoc (rows_text p.rows) (row_text row) (drop next text))
            ∙ ap (λ x. x ++ drop next text) (sym (text_snoc p.rows row));
        counted = sym (length-append p.rows (row ∷ []) ∙ ap (λ n. n + 1) (sym p.counted));
        most = omega arith;
        within = r.within;
        near = omega (arith, r.reached, row_length row, p.near);
        room = p.room;
        full = ap length e ∙ length-sets table (9 * count) (pack (term_of row)) ∙ p.full;
        written = e ∙ ap (λ x. sets x (9 * count) (pack (term_of row))) p.written
            ∙ behind (packed p.rows) table₀ (9 * count) (pack (term_of row)) long (omega (arith, nine, p.room))
            ∙ rw (packed-snoc p.rows row, place);
      }

  some_left : at < length text → drop at text ≡ [] → ⊥
  some_left l e = omega (arith, ap length e, length-drop at text)

  -- a 65th row
  pub passed-full : 64 ≤ count → at < length text → FirstBad text 65
  passed-full e l =
      record {
        rows = p.rows;
        rest = drop at text;
        good = p.good;
        bytes = p.bytes;
        counted = omega (arith, p.counted, p.most);
        most = omega (arith, p.counted, p.most);
        more = λ n. absurd (some_left l n);
        bad = λ k. absurd (omega (arith, p.counted));
      }

  pub passed-bad : at < length text → NoRow (drop at text) → FirstBad text (count + 1)
  passed-bad l r =
      record {
        rows = p.rows;
        rest = drop at text;
        good = p.good;
        bytes = p.bytes;
        counted = omega (arith, p.counted);
        most = omega (arith, p.counted, p.most);
        more = λ n. absurd (some_left l n);
        bad = λ _. r;
      }

  end : length text ≤ at → drop at text ≡ []
  end l = drop_of_length-le text l

  pub passed-end : length text ≤ at → (count ≡ 0 → ⊥) → Taken text table₀ (9 * count) table
  passed-end l some =
      let long : 9 * count ≡ length (packed p.rows) = ap (λ n. 9 * n) p.counted ∙ sym (packed-length p.rows) in
      record {
        rows = p.rows;
        spells =
            record {
              some = omega (arith, p.counted);
              most = omega (arith, p.counted, p.most);
              good = p.good;
              bytes = p.bytes ∙ ap (λ x. rows_text p.rows ++ x) (end l) ∙ append-nil (rows_text p.rows);
            };
        counted = long;
        front = record { room = omega (arith, p.room, p.most); bytes = p.written ∙ ap (λ n. packed p.rows ++ drop n table₀) long };
      }

  -- an empty text
  pub passed-empty : length text ≤ at → count ≡ 0 → FirstBad text 1
  passed-empty l none =
      record {
        rows = p.rows;
        rest = drop at text;
        good = p.good;
        bytes = p.bytes;
        counted = omega (arith, p.counted);
        most = omega (arith, p.counted);
        more = λ _. omega (arith, p.counted);
        bad = λ _ row rest g e. row_some row rest (sym (end l) ∙ e);
      }
