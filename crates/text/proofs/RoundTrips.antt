-- Reading what was written gives the same bytes, and writing what was read the same text. Assumes nothing.
use Prim.Native.Nat.{ℕ, ◌≤◌, ◌<◌}
use native.Mathlib.Omega.{arith}
use mathlib.Core.Path.{◌≡◌, sym, ap, subst, ◌∙◌}
use mathlib.Core.Bool.{true}
use mathlib.Core.List.{List, [], ◌∷◌, ◌++◌}
use lib.ListN.{length, take, drop}
use Rattle.lent.proofs.Fronts.{front-taken}
use Rattle.term.specs.Bits.{Bytes}
use Rattle.kind.specs.Kind.{by_kind}
use Rattle.term.specs.Bounds.{AllWithin}
use Rattle.term.specs.Tables.{pack_table}
use Rattle.term.specs.Packed.{terms, count_terms}
use Rattle.term.specs.Sound.{sound_table}
use Rattle.term.proofs.Rules.{within-plain}
use Rattle.term.proofs.Answers.{sound-answer, answer-sound, sound-whole, sound-spare}
use Rattle.term.proofs.SoundTables.{AllSound, pack_table-sound}
use Rattle.term.proofs.Terms.{terms-length}
use Rattle.term.proofs.Reading.{terms-pack}
use Rattle.term.proofs.Repacked.{table_back}
use Rattle.row.specs.declared.Row.{Row}
use Rattle.row.proofs.Saying.{good_fields, good_sound}
use Rattle.std.specs.Prelude.{Result, Ok}
use Rattle.text.specs.declared.ReadFault.{ReadFault}
use Rattle.text.specs.declared.WriteFault.{WriteFault}
use Rattle.text.specs.Table.{AllGood, rows_text, terms_of, packed, Spells}
use Rattle.text.specs.Reads.{ReadSays}
use Rattle.text.specs.Writes.{Spelling, SoundTable, WriteSays}
use Rattle.text.proofs.Rows.{terms-count}
use Rattle.text.proofs.ReadSettled.{read_0}
use Rattle.text.proofs.WriteSettled.{write_0}

all_fields : (rows : List Row) → AllGood rows → AllWithin 38 (terms_of rows)
unfolding terms_of
all_fields [] g = tt
all_fields (r ∷ rows) g = (within-plain (good_fields r g.0), all_fields rows g.1)

all_sound : (rows : List Row) → AllGood rows → AllSound 38 (terms_of rows)
unfolding terms_of
all_sound [] g = tt
all_sound (r ∷ rows) g = (good_sound r g.0, all_sound rows g.1)

-- the packed rows of a text are a sound table of their terms
module _ (rows : List Row) (g : AllGood rows) where
  packed-terms : terms 38 (packed rows) ≡ terms_of rows
  unfolding packed
  packed-terms = terms-pack 38 (terms_of rows) (all_fields rows g)

  pub packed-sound : 0 < length rows → length rows ≤ 64 → sound_table 38 (packed rows) ≡ true
  unfolding packed
  packed-sound some most =
      let n : length (terms_of rows) ≡ length rows = terms-count rows in
      pack_table-sound 38 (terms_of rows) (all_fields rows g) (all_sound rows g) (omega arith) (omega arith)

  packed-spelling : Spelling (packed rows) (count_terms 38 (packed rows)) rows
  unfolding terms
  packed-spelling = record { good = g; said = sym packed-terms }

-- writing what was read gives the same text: `table` is the buffer that was read into, and its first n bytes are written
pub write_read : (text buffer table out₀ out : List ℕ) (n : ℕ) (r : Result ℕ WriteFault) → ReadSays text buffer table (Ok n) → WriteSays (take n table) out₀ out r
    → length text ≤ length out₀ → (r ≡ Ok (length text)) × (out ≡ text ++ drop (length text) out₀)
write_read text buffer table out₀ out n r s w room =
    let rows = s.rows in
    let sp = s.spells in
    let w' : WriteSays (packed rows) out₀ out r = subst (λ x. WriteSays x out₀ out r) (front-taken s.front n (sym s.counted)) w in
    let sound : SoundTable (packed rows) = sound-answer 38 (packed rows) (packed-sound rows sp.good sp.some sp.most) in
    let fits : length (rows_text rows) ≤ length out₀ = omega (arith, ap length sp.bytes) in
    let a = write_0 (packed rows) out₀ out r w' rows sound (packed-spelling rows sp.good) fits in
    (a.0 ∙ ap (λ x. Ok (length x)) (sym sp.bytes), a.1 ∙ ap (λ x. x ++ drop (length x) out₀) (sym sp.bytes))

-- reading what was written gives the same bytes: `text` is the buffer that was written into, and its first n bytes are read
pub read_write : (table buffer text out₀ out : List ℕ) (n : ℕ) (r : Result ℕ ReadFault) → Bytes table → WriteSays table buffer text (Ok n) → ReadSays (take n text) out₀ out r
    → length table ≤ length out₀ → (r ≡ Ok (length table)) × (out ≡ table ++ drop (length table) out₀)
unfolding packed terms by_kind
read_write table buffer text out₀ out n r small s w room =
    let t = s.1 in
    let rows = t.rows in
    let sound = (answer-sound 38 table (count_terms 38 table) s.0).0 in
    let whole = sound-whole 38 table sound in
    let count : length rows ≡ count_terms 38 table = sym (terms-count rows) ∙ ap length t.spelling.said ∙ terms-length 38 table in
    let back : packed rows ≡ table = ap (pack_table 38) t.spelling.said ∙ table_back 38 table small whole.whole (sound-spare 38 table sound) in
    let sp : Spells (take n text) rows =
    record { some = omega (arith, whole.some); most = omega (arith, whole.most); good = t.spelling.good; bytes = front-taken t.front n (sym t.counted) } in
    let a = read_0 (take n text) out₀ out r w rows sp (omega (arith, ap length back)) in
    (a.0 ∙ ap (λ x. Ok (length x)) back, a.1 ∙ ap (λ x. x ++ drop (length x) out₀) back)
