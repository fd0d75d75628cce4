-- Reading: exactly when each answer is given, and with which bytes; so two answers that keep the promise are equal, and so are the buffers.
-- Assumes nothing.
use Prim.Native.Nat.{ℕ, ◌≤◌, ◌<◌}
use native.Mathlib.Omega.{arith}
use mathlib.Core.Path.{◌≡◌, refl, sym, ap, ◌∙◌}
use mathlib.Core.List.{List, ◌++◌}
use lib.ListN.{length, drop}
use Rattle.row.specs.declared.Row.{Row}
use Rattle.std.specs.Prelude.{Result, Ok, Err}
use Rattle.text.specs.declared.ReadFault.{ReadFault}
use Rattle.text.specs.declared.ReadFault.TheVariants.{BadRow, NoRoom}
use Rattle.text.specs.Table.{packed, Spells, FirstBad}
use Rattle.text.specs.Reads.{ReadSays}
use Rattle.text.proofs.One.{spells_one, bad-one, spells-not_bad}

module _ (text before after : List ℕ) where
  -- 16 with its line, where the text has a first bad line
  pub read_16 : (r : Result ℕ ReadFault) → ReadSays text before after r → (line : ℕ) → FirstBad text line → (r ≡ Err (BadRow line)) × (after ≡ before)
  read_16 (Ok n) s line q = absurd (spells-not_bad s.spells q)
  read_16 (Err (BadRow m)) s line q = (ap (λ l. Err (BadRow l)) (bad-one s.0 q), s.1)
  read_16 (Err NoRoom) s line q = absurd (spells-not_bad s.0.spells q)

  -- 18, where the text is a table whose packed terms are longer than the buffer
  pub read_18 : (r : Result ℕ ReadFault) → ReadSays text before after r → (rows : List Row) → Spells text rows → length before < length (packed rows) → (r ≡ Err NoRoom) × (after ≡ before)
  read_18 (Ok n) s rows q l = absurd (omega (arith, s.front.room, ap (λ rs. length (packed rs)) (spells_one s.spells q)))
  read_18 (Err (BadRow m)) s rows q l = absurd (spells-not_bad q s.0)
  read_18 (Err NoRoom) s rows q l = (refl, s.1)

  -- 0, where it is a table and they are not
  pub read_0 : (r : Result ℕ ReadFault) → ReadSays text before after r → (rows : List Row) → Spells text rows → length (packed rows) ≤ length before
      → (r ≡ Ok (length (packed rows))) × (after ≡ packed rows ++ drop (length (packed rows)) before)
  read_0 (Ok n) s rows q l =
      let same = spells_one s.spells q in
      (ap Ok (s.counted ∙ ap (λ rs. length (packed rs)) same), s.front.bytes ∙ ap (λ rs. packed rs ++ drop (length (packed rs)) before) same)
  read_0 (Err (BadRow m)) s rows q l = absurd (spells-not_bad q s.0)
  read_0 (Err NoRoom) s rows q l = absurd (omega (arith, s.0.longer, ap (λ rs. length (packed rs)) (spells_one s.0.spells q)))

pub read_settled : (text before after after' : List ℕ) (r r' : Result ℕ ReadFault) → ReadSays text before after r → ReadSays text before after' r' → (r ≡ r') × (after ≡ after')
read_settled text before after after' (Ok n) r' p q =
    let other = read_0 text before after' r' q p.rows p.spells p.front.room in
    let mine = read_0 text before after (Ok n) p p.rows p.spells p.front.room in
    (mine.0 ∙ sym other.0, mine.1 ∙ sym other.1)
read_settled text before after after' (Err (BadRow m)) r' p q =
    let other = read_16 text before after' r' q m p.0 in
    (sym other.0, p.1 ∙ sym other.1)
read_settled text before after after' (Err NoRoom) r' p q =
    let other = read_18 text before after' r' q p.0.rows p.0.spells p.0.longer in
    (sym other.0, p.1 ∙ sym other.1)
