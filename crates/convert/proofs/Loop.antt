-- The loop over the terms of a table: what is known with so many terms packed, and what follows at each way out. Assumes nothing.
use Prim.Native.Nat.{ℕ, ◌+◌, ◌*◌, ◌≤◌, ◌<◌}
use native.Mathlib.Nat.{zero-add}
use native.Mathlib.Numerals.{add-one}
use native.Mathlib.Omega.{arith}
use mathlib.Core.Path.{◌≡◌, refl, sym, ap, subst, ◌∙◌}
use mathlib.Core.Bool.{true, false}
use mathlib.Core.List.{List, [], ◌∷◌, ◌++◌, append_assoc, append-nil}
use borrow.Author.Count.{below_more}
use lib.ListN.{length, drop}
use lib.Seq.{sets, length-sets}
use Rattle.kind.specs.Kind.{term_bytes}
use Rattle.kind.proofs.Either.{by_either}
use Rattle.lent.proofs.Behind.{behind}
use Rattle.term.specs.declared.Term.{Term}
use Rattle.term.specs.Packed.{term_at, terms_from, terms, count_terms}
use Rattle.term.specs.Tables.{pack_term, pack_table}
use Rattle.term.proofs.Terms.{from_more, from_length}
use Rattle.term.proofs.Reading.{pack-length, pack_table-length}
use Rattle.convert.specs.Form.{has_form}
use Rattle.convert.specs.Converts.{converted, FormBelow, FirstWithout, Turned}

pack-snoc : (kind : ℕ) (ts : List Term) (t : Term) → pack_table kind (ts ++ (t ∷ [])) ≡ pack_table kind ts ++ pack_term kind t
unfolding pack_table
pack-snoc kind [] t = append-nil (pack_term kind t)
pack-snoc kind (x ∷ ts) t = ap (λ l. pack_term kind x ++ l) (pack-snoc kind ts t) ∙ sym (append_assoc (pack_term kind x) (pack_table kind ts) (pack_term kind t))

-- with i terms passed: they have a form, and they stand packed before the place
pub record Done (from to : ℕ) (table packed₀ : List ℕ) (at i : ℕ) (packed : List ℕ) : Type 0 where
  pub form : FormBelow from to table i
  pub reached : at ≡ term_bytes to * i
  pub most : i ≤ count_terms from table
  pub room : length packed₀ ≡ 768
  pub full : length packed ≡ 768
  pub written : packed ≡ pack_table to (terms_from from table 0 i) ++ drop at packed₀

-- one term more has room
pub one-fits : (to i count : ℕ) → i < count → count ≤ 64 → term_bytes to * i + term_bytes to ≤ 768
one-fits to i count l few = by_either to (λ one. one * i + one ≤ 768) (omega arith) (omega arith)

pub done_none : (from to : ℕ) (table packed₀ : List ℕ) → length packed₀ ≡ 768 → Done from to table packed₀ 0 0 packed₀
unfolding pack_table terms_from
done_none from to table packed₀ h =
    record {
      form = λ k l. absurd (omega arith);
      reached = by_either to (λ one. 0 ≡ one * 0) (omega arith) (omega arith);
      most = omega arith;
      room = h;
      full = h;
      written = refl;
    }

module _ {from to : ℕ} {table packed₀ : List ℕ} {at i : ℕ} {packed : List ℕ} (p : Done from to table packed₀ at i packed) where
  pub done_more : (next : ℕ) (packed' : List ℕ) → count_terms from table ≤ 64 → i < count_terms from table → has_form to (term_at from table i) ≡ true
      → next ≡ at + length (pack_term to (term_at from table i)) → packed' ≡ sets packed at (pack_term to (term_at from table i)) → Done from to table packed₀ next (i + 1) packed'
  done_more next packed' few l form n e =
      let term : Term = term_at from table i in
      let ts : List Term = terms_from from table 0 i in
      let last : terms_from from table 0 (i + 1) ≡ ts ++ (term ∷ []) =
      ap (terms_from from table 0) (add-one i) ∙ from_more from table 0 i ∙ ap (λ k. ts ++ (term_at from table k ∷ [])) (zero-add i) in
      let size : length (pack_table to ts) ≡ at = pack_table-length to ts ∙ ap (λ k. term_bytes to * k) (from_length from table 0 i) ∙ sym p.reached in
      let one : length (pack_term to term) ≡ term_bytes to = pack-length to term in
      record {
        form = below_more (λ k. has_form to (term_at from table k) ≡ true) i p.form form;
        reached = n ∙ omega (arith, p.reached, one) ∙ by_either to (λ b. b * i + b ≡ b * (i + 1)) (omega arith) (omega arith);
        most = omega arith;
        room = p.room;
        full = ap length e ∙ length-sets packed at (pack_term to term) ∙ p.full;
        written = e ∙ ap (λ x. sets x at (pack_term to term)) p.written
            ∙ behind (pack_table to ts) packed₀ at (pack_term to term) size (omega (arith, one, p.reached, p.room, one-fits to i (count_terms from table) l few))
            ∙ ap (λ x. x ++ drop (at + length (pack_term to term)) packed₀) (sym (ap (pack_table to) last ∙ pack-snoc to ts term))
            ∙ ap (λ k. pack_table to (terms_from from table 0 (i + 1)) ++ drop k packed₀) (sym n);
      }

  pub done_no : i < count_terms from table → has_form to (term_at from table i) ≡ false → FirstWithout from to table (i + 1)
  done_no l bad = record { k = i; within = l; here = bad; before = p.form; counted = refl }

  pub done_all : count_terms from table ≤ 64 → count_terms from table ≤ i → Turned from to table packed₀ at packed
  unfolding converted terms
  done_all few l =
      let all : i ≡ count_terms from table = omega (arith, p.most) in
      let ts : List Term = terms from table in
      let size : at ≡ length (converted from to table) =
      p.reached ∙ ap (λ k. term_bytes to * k) (all ∙ sym (from_length from table 0 (count_terms from table))) ∙ sym (pack_table-length to ts) in
      let enough : term_bytes to * i ≤ 768 = by_either to (λ one. one * i ≤ 768) (omega arith) (omega arith) in
      record {
        form = subst (FormBelow from to table) all p.form;
        counted = size;
        front =
            record {
              room = omega (arith, size, p.reached, p.room);
              bytes = p.written ∙ ap (λ k. pack_table to (terms_from from table 0 k) ++ drop at packed₀) all ∙ ap (λ k. pack_table to ts ++ drop k packed₀) size;
            };
      }
