-- Row 38 by itself is a table, and its packed term is the nine bytes that document 01 prints. Assumes nothing.
use native.Mathlib.Omega.{arith}
use mathlib.Core.Path.{◌≡◌, refl, sym, ap, ◌∙◌}
use mathlib.Core.List.{[], ◌∷◌, append-nil}
use Rattle.term.specs.Row.{row38, fields38}
use Rattle.term.specs.Pieces.{joined, wide}
use Rattle.term.specs.Pack.{bytes_of, pieces, pack}
use Rattle.term.specs.Tables.{pack_term, pack_table}
use Rattle.row.specs.Row.{row_text}
use Rattle.row.specs.Printed.{typed38, fields_typed38}
use Rattle.row.proofs.Cases.{row38-text, row38-good, row38-term}
use Rattle.text.specs.Table.{rows_text, terms_of, packed, Spells}

pub row38-table : Spells typed38 (fields_typed38 ∷ [])
unfolding rows_text
row38-table =
    record {
      some = omega arith;
      most = omega arith;
      good = (row38-good, tt);
      bytes = sym (append-nil (row_text fields_typed38) ∙ row38-text);
    }

row38-pack : pack fields38 ≡ row38
unfolding pack pieces bytes_of joined wide fields38 row38
row38-pack = refl

pub row38-packed : packed (fields_typed38 ∷ []) ≡ row38
unfolding packed terms_of pack_table pack_term
row38-packed = append-nil (pack _) ∙ ap pack row38-term ∙ row38-pack
