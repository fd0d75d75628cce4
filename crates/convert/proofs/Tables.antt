-- A converted table is a sound table of its kind, reads the same terms, and converted back is the same bytes. So every old table lengthened and
-- shortened returns. Assumes nothing.
use Prim.Native.Nat.{ℕ, zero, suc, ◌+◌, ◌≤◌, ◌<◌}
use native.Mathlib.Omega.{arith}
use mathlib.Core.Path.{◌≡◌, refl, sym, ap, subst, ◌∙◌}
use mathlib.Core.Bool.{true}
use mathlib.Core.List.{List, ◌++◌}
use lib.ListN.{length, get_or, take, drop}
use Rattle.lent.proofs.Fronts.{front-taken}
use Rattle.term.specs.declared.Term.{Term}
use Rattle.term.specs.Bits.{Bytes}
use Rattle.term.specs.Bounds.{AllWithin}
use Rattle.term.specs.Packed.{term_at, terms_from, terms, count_terms}
use Rattle.term.specs.Tables.{pack_table}
use Rattle.term.specs.Sound.{sound_table}
use Rattle.term.proofs.Rules.{term_at-fields}
use Rattle.term.proofs.Answers.{sound-answer, answer-sound, sound-whole, sound-some, sound-few, sound-spare, sound-size, sound-matched, sound-bounds, sound-plain}
use Rattle.term.proofs.Terms.{terms-length, terms-at}
use Rattle.term.proofs.Reading.{terms-pack}
use Rattle.term.proofs.Repacked.{table_back}
use Rattle.term.proofs.SoundTables.{AllSound, pack_table-sound}
use Rattle.std.specs.Prelude.{Result, Ok}
use Rattle.convert.specs.declared.ConvertFault.{ConvertFault}
use Rattle.convert.specs.Form.{OldForm, has_form}
use Rattle.convert.specs.Converts.{converted, lengthened, shortened, FormBelow, Says}
use Rattle.convert.proofs.Forms.{old-form, form_long, form_plain, form_within, form_sound}
use Rattle.convert.proofs.Settled.{says_0}

-- ---- any two kinds, where the table is sound and each of its terms has a form
module _ (from to : ℕ) (table : List ℕ) (sound : sound_table from table ≡ true) (form : FormBelow from to table (count_terms from table)) where
  from_within : (k n : ℕ) → k + n ≤ count_terms from table → AllWithin to (terms_from from table k n)
  unfolding terms_from
  from_within k zero h = tt
  from_within k (suc n) h = (form_within _ to (term_at-fields from table k) (form k (omega arith)), from_within (k + 1) n (omega arith))

  from_sound : (k n : ℕ) → k + n ≤ count_terms from table → AllSound to (terms_from from table k n)
  unfolding terms_from
  from_sound k zero h = tt
  from_sound k (suc n) h =
      (form_sound _ to (sound-size from table sound k (omega arith)) (sound-matched from table sound k (omega arith)) (form k (omega arith)), from_sound (k + 1) n (omega arith))

  within : AllWithin to (terms from table)
  unfolding terms
  within = from_within 0 (count_terms from table) (omega arith)

  -- it reads the same terms
  pub converted-terms : terms to (converted from to table) ≡ terms from table
  unfolding converted
  converted-terms = terms-pack to (terms from table) within

  pub converted-count : count_terms to (converted from to table) ≡ count_terms from table
  converted-count = sym (terms-length to (converted from to table)) ∙ ap length converted-terms ∙ terms-length from table

  pub converted-at : (k : ℕ) → k < count_terms from table → term_at to (converted from to table) k ≡ term_at from table k
  converted-at k h =
      let other : Term = term_at from table 0 in
      let there : k < count_terms to (converted from to table) = subst (λ n. k < n) (sym converted-count) h in
      sym (terms-at to (converted from to table) k other there) ∙ ap (λ ts. get_or ts k other) converted-terms ∙ terms-at from table k other h

  -- it is a sound table
  pub converted-sound : sound_table to (converted from to table) ≡ true
  unfolding converted terms
  converted-sound =
      let size = terms-length from table in
      pack_table-sound to (terms from table) within (from_sound 0 (count_terms from table) (omega arith)) (rw size (sound-some from table sound)) (rw size (sound-few from table sound))

  -- and back it is the table
  pub converted-back : Bytes table → converted to from (converted from to table) ≡ table
  unfolding converted
  converted-back small =
      ap (pack_table from) converted-terms ∙ table_back from table small (sound-whole from table sound).whole (sound-spare from table sound)

-- ---- lengthened and shortened

-- every term has a new form
pub new_forms : (table : List ℕ) (n : ℕ) → FormBelow 38 58 table n
new_forms table n k h = form_long _ 58 refl

-- and a nine-byte term its old one
old_forms : (table : List ℕ) → sound_table 38 table ≡ true → FormBelow 58 38 (lengthened table) (count_terms 58 (lengthened table))
old_forms table sound k h =
    let all = new_forms table (count_terms 38 table) in
    let l : k < count_terms 38 table = subst (λ n. k < n) (converted-count 38 58 table sound all) h in
    let plain = sound-plain table sound k l in
    let old : OldForm (term_at 38 table k) =
    record {
      c_most = omega (arith, plain.c_below);
      factor_plain = plain.factor_plain;
      d_above = (sound-bounds 38 table sound k l).d_above;
      d_most = omega (arith, plain.d_below);
      t_most = plain.t_most;
    } in
    ap (has_form 38) (converted-at 38 58 table sound all k l) ∙ form_plain _ 38 (λ e. omega arith) ∙ (old-form _).1 old

module _ (table : List ℕ) (sound : sound_table 38 table ≡ true) where
  pub lengthened-sound : sound_table 58 (lengthened table) ≡ true
  lengthened-sound = converted-sound 38 58 table sound (new_forms table (count_terms 38 table))

  pub lengthened-count : count_terms 58 (lengthened table) ≡ count_terms 38 table
  lengthened-count = converted-count 38 58 table sound (new_forms table (count_terms 38 table))

  pub lengthened-at : (k : ℕ) → k < count_terms 38 table → term_at 58 (lengthened table) k ≡ term_at 38 table k
  lengthened-at = converted-at 38 58 table sound (new_forms table (count_terms 38 table))

  pub lengthened-back : Bytes table → shortened (lengthened table) ≡ table
  lengthened-back = converted-back 38 58 table sound (new_forms table (count_terms 38 table))

module _ (table : List ℕ) (sound : sound_table 58 table ≡ true) (form : FormBelow 58 38 table (count_terms 58 table)) where
  pub shortened-sound : sound_table 38 (shortened table) ≡ true
  shortened-sound = converted-sound 58 38 table sound form

  pub shortened-at : (k : ℕ) → k < count_terms 58 table → term_at 38 (shortened table) k ≡ term_at 58 table k
  shortened-at = converted-at 58 38 table sound form

  pub shortened-back : Bytes table → lengthened (shortened table) ≡ table
  shortened-back = converted-back 58 38 table sound form

-- "every valid old table returns the same": `long` is the buffer that a table was lengthened into, and its first n bytes are shortened
pub there_and_back : (table buffer long out₀ out : List ℕ) (n : ℕ) (r : Result ℕ ConvertFault) → Bytes table → Says 38 58 table buffer long (Ok n) → Says 58 38 (take n long) out₀ out r
    → length table ≤ length out₀ → (r ≡ Ok (length table)) × (out ≡ table ++ drop (length table) out₀)
there_and_back table buffer long out₀ out n r small s w room =
    let t = s.1 in
    let sound = (answer-sound 38 table (count_terms 38 table) s.0).0 in
    let w' : Says 58 38 (lengthened table) out₀ out r = subst (λ x. Says 58 38 x out₀ out r) (front-taken t.front n (sym t.counted)) w in
    let back : shortened (lengthened table) ≡ table = lengthened-back table sound small in
    let a = says_0 58 38 (lengthened table) out₀ out r w' (sound-answer 58 (lengthened table) (lengthened-sound table sound)) (old_forms table sound) (omega (arith, ap length back)) in
    (a.0 ∙ ap (λ x. Ok (length x)) back, a.1 ∙ ap (λ x. x ++ drop (length x) out₀) back)
