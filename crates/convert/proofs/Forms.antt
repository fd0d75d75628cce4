-- The test of an old form says its bounds; a term of a sound table has an old form exactly if nine bytes read as it; and a term that has a form
-- fits the record of that kind, and keeps its rules. Assumes nothing.
use Prim.Native.Nat.{ℕ, ◌<◌}
use native.Mathlib.Omega.{arith}
use mathlib.Core.Path.{◌≡◌, refl, sym, ap, subst, ◌∙◌}
use mathlib.Core.Bool.{Bool, true, false}
use mathlib.Core.List.{List, [], ◌∷◌}
use mathlib.Core.Logic.{◌↔◌}
use borrow.Author.Tests.{ltb-true, leb-true, eqb-true, eqb-false, lt-ltb, le-leb, eq-eqb, ne_eqb}
use lib.Dec.{ltb, leb, eqb}
use lib.ListN.{length, get_or}
use Rattle.kind.specs.Kind.{by_kind}
use Rattle.term.specs.declared.Term.{Term}
use Rattle.term.specs.Bits.{Bytes}
use Rattle.term.specs.Bounds.{WithinLong, WithinKind, AllWithin}
use Rattle.term.specs.Packed.{plain_factor, term_at, terms, count_terms}
use Rattle.term.specs.Tables.{pack_table}
use Rattle.term.specs.Sound.{sound_size, matched, sound_term, sound_table}
use Rattle.term.proofs.Rules.{both, term_at-fields}
use Rattle.term.proofs.Answers.{sound-bounds, sound-plain, sound-size, sound-matched}
use Rattle.term.proofs.Terms.{terms-at}
use Rattle.term.proofs.Reading.{terms-pack, pack_table-length, pack_table-bytes, pack_table-count}
use Rattle.term.proofs.SoundTables.{pack_table-sound}
use Rattle.convert.specs.Form.{OldForm, old_form, has_form}

module _ (term : Term) where
  pub old-form : old_form term ≡ true ↔ OldForm term
  unfolding old_form
  old-form = (to, back)
    where
      to : old_form term ≡ true → OldForm term
      to h =
          let p = both _ (leb term.t 24) h in
          let q = both _ _ p.0 in
          let r = both _ (ltb 0 term.d) q.0 in
          let s = both (leb term.c 3) (eqb term.factor (plain_factor term.c)) r.0 in
          record {
            c_most = leb-true term.c 3 s.0;
            factor_plain = eqb-true term.factor (plain_factor term.c) s.1;
            d_above = ltb-true 0 term.d r.1;
            d_most = leb-true _ _ q.1;
            t_most = leb-true term.t 24 p.1;
          }

      back : OldForm term → old_form term ≡ true
      back f =
          rw (
            le-leb term.c 3 f.c_most,
            eq-eqb term.factor (plain_factor term.c) f.factor_plain,
            lt-ltb 0 term.d f.d_above,
            le-leb _ _ f.d_most,
            le-leb term.t 24 f.t_most,
          )

  pub form_long : (kind : ℕ) → kind ≡ 58 → has_form kind term ≡ true
  unfolding has_form
  form_long kind e = rw (eq-eqb kind 58 e)

  pub form_plain : (kind : ℕ) → (kind ≡ 58 → ⊥) → has_form kind term ≡ old_form term
  unfolding has_form
  form_plain kind n = rw (ne_eqb kind 58 n)

  -- a term that has a form fits that record
  pub form_within : (kind : ℕ) → WithinLong term → has_form kind term ≡ true → WithinKind kind term
  form_within kind w h =
      record {
        long = λ _. w;
        plain = λ n.
            let f = old-form.0 (sym (form_plain kind n) ∙ h) in
            record { c_below = omega (arith, f.c_most); factor_plain = f.factor_plain; d_below = omega (arith, f.d_most); t_below = omega (arith, f.t_most); magnitude_below = w.magnitude_below };
      }

  -- and keeps its rules, where it keeps those that both kinds share
  pub form_sound : (kind : ℕ) → sound_size term ≡ true → matched term ≡ true → has_form kind term ≡ true → sound_term kind term ≡ true
  unfolding sound_term
  form_sound kind size match h = go (eqb kind 58) refl
    where
      go : (b : Bool) → eqb kind 58 ≡ b → sound_term kind term ≡ true
      go true e = rw (e, size, match)
      go false e = rw (e, size) (le-leb term.t 24 (old-form.0 (sym (form_plain kind (eqb-false kind 58 e)) ∙ h)).t_most)

-- ---- an old form is nine bytes that read as the term

-- nine bytes that are a sound table of kind 38, whose one term this is
pub record Nine (term : Term) : Type 0 where
  pub bytes : List ℕ
  pub small : Bytes bytes
  pub nine : length bytes ≡ 9
  pub sound : sound_table 38 bytes ≡ true
  pub read : term_at 38 bytes 0 ≡ term

pub nine_old : {term : Term} → Nine term → OldForm term
unfolding by_kind
nine_old {term} n =
    let l : 0 < count_terms 38 n.bytes = omega (arith, n.nine) in
    let plain = sound-plain n.bytes n.sound 0 l in
    subst OldForm n.read
    (record {
      c_most = omega (arith, plain.c_below);
      factor_plain = plain.factor_plain;
      d_above = (sound-bounds 38 n.bytes n.sound 0 l).d_above;
      d_most = omega (arith, plain.d_below);
      t_most = plain.t_most;
    })

-- of the terms whose magnitude keeps the rule, each that has an old form
pub old_nine : {term : Term} → sound_size term ≡ true → matched term ≡ true → WithinLong term → OldForm term → Nine term
unfolding by_kind terms
old_nine {term} size match fields f =
    let form : has_form 38 term ≡ true = form_plain term 38 (λ e. omega arith) ∙ (old-form term).1 f in
    let one : List Term = term ∷ [] in
    let within : AllWithin 38 one = (form_within term 38 fields form, tt) in
    let count : count_terms 38 (pack_table 38 one) ≡ 1 = pack_table-count 38 one in
    record {
      bytes = pack_table 38 one;
      small = pack_table-bytes 38 one;
      nine = pack_table-length 38 one;
      sound = pack_table-sound 38 one within (form_sound term 38 size match form, tt) (omega arith) (omega arith);
      read = sym (terms-at 38 (pack_table 38 one) 0 term (omega arith)) ∙ ap (λ ts. get_or ts 0 term) (terms-pack 38 one within);
    }

-- so a term of a sound table of kind 58 goes back exactly if it has an old form
pub goes_back : (table : List ℕ) → sound_table 58 table ≡ true → (k : ℕ) → k < count_terms 58 table → OldForm (term_at 58 table k) ↔ Nine (term_at 58 table k)
goes_back table sound k l = (old_nine (sound-size 58 table sound k l) (sound-matched 58 table sound k l) (term_at-fields 58 table k), nine_old)
