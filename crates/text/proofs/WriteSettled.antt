-- Writing: exactly when each answer is given, and with which bytes; so two answers that keep the promise are equal, and so are the buffers.
-- Assumes nothing.
use Prim.Native.Nat.{ℕ, ◌≤◌, ◌<◌}
use native.Mathlib.Omega.{arith}
use mathlib.Core.Path.{◌≡◌, refl, sym, ap, ◌∙◌}
use mathlib.Core.List.{List, ◌++◌}
use lib.ListN.{length, drop}
use Rattle.std.specs.Prelude.{Result, Ok, Err}
use Rattle.term.specs.declared.Fault.{Fault}
use Rattle.term.specs.declared.Fault.TheVariants.{Length, Broken}
use Rattle.term.specs.Packed.{count_terms}
use Rattle.term.specs.Sound.{table_answer}
use Rattle.row.specs.declared.Row.{Row}
use Rattle.text.specs.declared.WriteFault.{WriteFault}
use Rattle.text.specs.declared.WriteFault.TheVariants.{Unsound, NoSpelling, TooLong}
use Rattle.text.specs.Table.{rows_text}
use Rattle.text.specs.Writes.{Spelling, FirstUnspelled, SoundTable, WriteSays}
use Rattle.text.proofs.OneSpelling.{spelling_one, spelling_not_unspelled, unspelled_one}

-- the check of a table gives one answer
unsound : {answer : Result ℕ Fault} {n : ℕ} {fault : Fault} → answer ≡ Ok n → answer ≡ Err fault → ⊥
unsound s f = cc

module _ (table before after : List ℕ) where
  -- 1, where the table's length is none, and 2 with its place, where a term breaks a rule
  write_fault : (r : Result ℕ WriteFault) → WriteSays table before after r → (fault : Fault) → table_answer 38 table ≡ Err fault → (r ≡ Err (Unsound fault)) × (after ≡ before)
  write_fault (Ok n) s fault h = absurd (unsound s.0 h)
  write_fault (Err (Unsound other)) s fault h = let e = s.0 in (cc, s.1)
  write_fault (Err (NoSpelling place)) s fault h = absurd (unsound s.0 h)
  write_fault (Err TooLong) s fault h = absurd (unsound s.0 h)

  pub write_1 : (r : Result ℕ WriteFault) → WriteSays table before after r → table_answer 38 table ≡ Err Length → (r ≡ Err (Unsound Length)) × (after ≡ before)
  write_1 r s h = write_fault r s Length h

  pub write_2 : (r : Result ℕ WriteFault) → WriteSays table before after r → (place : ℕ) → table_answer 38 table ≡ Err (Broken place) → (r ≡ Err (Unsound (Broken place))) × (after ≡ before)
  write_2 r s place h = write_fault r s (Broken place) h

  -- 17 with its place, where a term of a sound table has no spelling
  pub write_17 : (r : Result ℕ WriteFault) → WriteSays table before after r → (place : ℕ) → SoundTable table → FirstUnspelled table place → (r ≡ Err (NoSpelling place)) × (after ≡ before)
  write_17 (Ok n) s place h q = absurd (spelling_not_unspelled s.1.spelling q q.within)
  write_17 (Err (Unsound fault)) s place h q = absurd (unsound h s.0)
  write_17 (Err (NoSpelling other)) s place h q = (ap (λ p. Err (NoSpelling p)) (unspelled_one s.1 q), s.2)
  write_17 (Err TooLong) s place h q = absurd (spelling_not_unspelled s.1.spelling q q.within)

  -- 18, where rows say all terms of a sound table and their text is longer than the buffer
  pub write_18 : (r : Result ℕ WriteFault) → WriteSays table before after r → (rows : List Row) → SoundTable table → Spelling table (count_terms 38 table) rows
      → length before < length (rows_text rows) → (r ≡ Err TooLong) × (after ≡ before)
  write_18 (Ok n) s rows h q l = absurd (omega (arith, s.1.front.room, ap (λ rs. length (rows_text rs)) (spelling_one s.1.spelling q)))
  write_18 (Err (Unsound fault)) s rows h q l = absurd (unsound h s.0)
  write_18 (Err (NoSpelling other)) s rows h q l = absurd (spelling_not_unspelled q s.1 s.1.within)
  write_18 (Err TooLong) s rows h q l = (refl, s.2)

  -- 0, where it is not
  pub write_0 : (r : Result ℕ WriteFault) → WriteSays table before after r → (rows : List Row) → SoundTable table → Spelling table (count_terms 38 table) rows
      → length (rows_text rows) ≤ length before → (r ≡ Ok (length (rows_text rows))) × (after ≡ rows_text rows ++ drop (length (rows_text rows)) before)
  write_0 (Ok n) s rows h q l =
      let same = spelling_one s.1.spelling q in
      (ap Ok (s.1.counted ∙ ap (λ rs. length (rows_text rs)) same), s.1.front.bytes ∙ ap (λ rs. rows_text rs ++ drop (length (rows_text rs)) before) same)
  write_0 (Err (Unsound fault)) s rows h q l = absurd (unsound h s.0)
  write_0 (Err (NoSpelling other)) s rows h q l = absurd (spelling_not_unspelled q s.1 s.1.within)
  write_0 (Err TooLong) s rows h q l = absurd (omega (arith, s.1.longer, ap (λ rs. length (rows_text rs)) (spelling_one s.1.spelling q)))

pub write_settled : (table before after after' : List ℕ) (r r' : Result ℕ WriteFault) → WriteSays table before after r → WriteSays table before after' r' → (r ≡ r') × (after ≡ after')
write_settled table before after after' (Ok n) r' p q =
    let other = write_0 table before after' r' q p.1.rows p.0 p.1.spelling p.1.front.room in
    let mine = write_0 table before after (Ok n) p p.1.rows p.0 p.1.spelling p.1.front.room in
    (mine.0 ∙ sym other.0, mine.1 ∙ sym other.1)
write_settled table before after after' (Err (Unsound fault)) r' p q =
    let other = write_fault table before after' r' q fault p.0 in
    (sym other.0, p.1 ∙ sym other.1)
write_settled table before after after' (Err (NoSpelling place)) r' p q =
    let other = write_17 table before after' r' q place p.0 p.1 in
    (sym other.0, p.2 ∙ sym other.1)
write_settled table before after after' (Err TooLong) r' p q =
    let other = write_18 table before after' r' q p.1.rows p.0 p.1.spelling p.1.longer in
    (sym other.0, p.2 ∙ sym other.1)
