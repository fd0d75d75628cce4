-- Reading back what was packed: the k-th term of a table of either kind, and the whole table. Assumes nothing.
use Prim.Native.Nat.{ℕ, zero, suc, ◌+◌, ◌*◌, ◌/◌, ◌≤◌}
use mathlib.Core.Path.{◌≡◌, refl, sym, ap, ◌∙◌}
use mathlib.Core.Bool.{Bool, true, false}
use mathlib.Core.List.{List, [], ◌∷◌, ◌++◌, append_assoc}
use borrow.Author.Tests.{eqb-true, eqb-false}
use native.Mathlib.Omega.{arith}
use native.Mathlib.Nat.{add-zero}
use lib.Dec.{eqb}
use lib.ListN.{length, length-append}
use Rattle.kind.specs.Kind.{by_kind, term_bytes}
use Rattle.kind.proofs.Either.{by_either}
use Rattle.term.specs.declared.Term.{Term}
use Rattle.term.specs.Bits.{field, Bytes}
use Rattle.term.specs.Bounds.{WithinKind, AllWithin}
use Rattle.term.specs.Pack.{pack, pieces}
use Rattle.term.specs.Long.{long_from, spare_bits, long_pieces, pack_long}
use Rattle.term.specs.Pieces.{joined}
use Rattle.term.specs.Packed.{plain_from, term_from, spare_from, term_at, spare_at, terms_from, terms}
use Rattle.term.specs.Tables.{pack_term, pack_table}
use Rattle.term.proofs.Fields.{field_within}
use Rattle.term.proofs.Packing.{bytes_of-length, bytes_of-bytes, pack-read, long_read, spare_none}

-- a term that lies within some bytes of a table is the term of those bytes
module _ (before bytes after : List ℕ) (small : Bytes after) where
  first_field : (bits : ℕ) → bits ≤ 8 * length bytes → field (before ++ (bytes ++ after)) (8 * length before) bits ≡ field bytes 0 bits
  first_field bits h = ap (λ (first : ℕ). field (before ++ (bytes ++ after)) first bits) (sym (add-zero (8 * length before))) ∙ field_within before bytes after 0 bits small (omega arith)

  plain_within : length bytes ≡ 9 → plain_from (before ++ (bytes ++ after)) (8 * length before) ≡ plain_from bytes 0
  unfolding plain_from
  plain_within h =
      rw (
        first_field 2 (omega arith),
        field_within before bytes after 2 4 small (omega arith),
        field_within before bytes after 6 5 small (omega arith),
        field_within before bytes after 11 1 small (omega arith),
        field_within before bytes after 12 60 small (omega arith),
      )

  long_within : length bytes ≡ 12 → long_from (before ++ (bytes ++ after)) (8 * length before) ≡ long_from bytes 0
  unfolding long_from
  long_within h =
      rw (
        first_field 4 (omega arith),
        field_within before bytes after 4 10 small (omega arith),
        field_within before bytes after 14 5 small (omega arith),
        field_within before bytes after 19 6 small (omega arith),
        field_within before bytes after 25 1 small (omega arith),
        field_within before bytes after 26 60 small (omega arith),
      )

  pub term-within : (kind : ℕ) → length bytes ≡ term_bytes kind → term_from kind (before ++ (bytes ++ after)) (8 * length before) ≡ term_from kind bytes 0
  unfolding term_from by_kind
  term-within kind h = go (eqb kind 58) refl
    where
      go : (b : Bool) → eqb kind 58 ≡ b → term_from kind (before ++ (bytes ++ after)) (8 * length before) ≡ term_from kind bytes 0
      go true e = rw e (long_within (rw e at h))
      go false e = rw e (plain_within (rw e at h))

  pub spare_within : (kind : ℕ) → length bytes ≡ term_bytes kind → spare_from kind (before ++ (bytes ++ after)) (8 * length before) ≡ spare_from kind bytes 0
  unfolding spare_from spare_bits by_kind
  spare_within kind h = go (eqb kind 58) refl
    where
      go : (b : Bool) → eqb kind 58 ≡ b → spare_from kind (before ++ (bytes ++ after)) (8 * length before) ≡ spare_from kind bytes 0
      go true e =
          let twelve : length bytes ≡ 12 = rw e at h in
          rw e (field_within before bytes after 86 10 small (omega arith))
      go false e = rw e

-- ---- a term packed into the bytes of its kind
module _ (kind : ℕ) where
  pub pack-length : (term : Term) → length (pack_term kind term) ≡ term_bytes kind
  unfolding pack_term pack pack_long by_kind
  pack-length term = go (eqb kind 58) refl
    where
      go : (b : Bool) → eqb kind 58 ≡ b → length (pack_term kind term) ≡ term_bytes kind
      go true e = rw e (bytes_of-length 12 (joined (long_pieces term)))
      go false e = rw e (bytes_of-length 9 (joined (pieces term)))

  pack-bytes : (term : Term) → Bytes (pack_term kind term)
  unfolding pack_term pack pack_long
  pack-bytes term = go (eqb kind 58) refl
    where
      go : (b : Bool) → eqb kind 58 ≡ b → Bytes (pack_term kind term)
      go true e = rw e (bytes_of-bytes 12 (joined (long_pieces term)))
      go false e = rw e (bytes_of-bytes 9 (joined (pieces term)))

  pub term-read : (term : Term) → WithinKind kind term → term_from kind (pack_term kind term) 0 ≡ term
  unfolding term_from pack_term
  term-read term w = go (eqb kind 58) refl
    where
      go : (b : Bool) → eqb kind 58 ≡ b → term_from kind (pack_term kind term) 0 ≡ term
      go true e = rw e (long_read term (w.long (eqb-true kind 58 e)))
      go false e = rw e (pack-read term (w.plain (eqb-false kind 58 e)))

  -- a term packed as the k-th of a table is read as the k-th
  pub term_at-pack : (before : List ℕ) (term : Term) (after : List ℕ) (k : ℕ) → length before ≡ term_bytes kind * k → Bytes after → WithinKind kind term
      → term_at kind (before ++ (pack_term kind term ++ after)) k ≡ term
  unfolding term_at
  term_at-pack before term after k h small fields =
      rw (← h) (term-within before (pack_term kind term) after small kind (pack-length term) ∙ term-read term fields)

  -- and no spare bit is set
  spare_read : (term : Term) → WithinKind kind term → spare_from kind (pack_term kind term) 0 ≡ 0
  unfolding spare_from pack_term
  spare_read term w = go (eqb kind 58) refl
    where
      go : (b : Bool) → eqb kind 58 ≡ b → spare_from kind (pack_term kind term) 0 ≡ 0
      go true e = rw e (spare_none term (w.long (eqb-true kind 58 e)))
      go false e = rw e

  pub spare_at-pack : (before : List ℕ) (term : Term) (after : List ℕ) (k : ℕ) → length before ≡ term_bytes kind * k → Bytes after → WithinKind kind term
      → spare_at kind (before ++ (pack_term kind term ++ after)) k ≡ 0
  unfolding spare_at
  spare_at-pack before term after k h small fields =
      rw (← h) (spare_within before (pack_term kind term) after small kind (pack-length term) ∙ spare_read term fields)

  -- ---- terms packed into a table

  bytes_append : (xs ys : List ℕ) → Bytes xs → Bytes ys → Bytes (xs ++ ys)
  bytes_append [] ys hx hy i = hy i
  bytes_append (x ∷ xs) ys hx hy zero = hx 0
  bytes_append (x ∷ xs) ys hx hy (suc i) = bytes_append xs ys (λ j. hx (suc j)) hy i

  pub pack_table-bytes : (ts : List Term) → Bytes (pack_table kind ts)
  unfolding pack_table
  pack_table-bytes [] i = omega arith
  pack_table-bytes (t ∷ ts) i = bytes_append (pack_term kind t) (pack_table kind ts) (pack-bytes t) (pack_table-bytes ts) i

  one_more : (n : ℕ) → term_bytes kind + term_bytes kind * n ≡ term_bytes kind * suc n
  one_more n = by_either kind (λ one. one + one * n ≡ one * suc n) (omega arith) (omega arith)

  pub pack_table-length : (ts : List Term) → length (pack_table kind ts) ≡ term_bytes kind * length ts
  unfolding pack_table
  pack_table-length [] = by_either kind (λ one. 0 ≡ one * 0) (omega arith) (omega arith)
  pack_table-length (t ∷ ts) = omega (arith, length-append (pack_term kind t) (pack_table kind ts), pack-length t, pack_table-length ts, one_more (length ts))

  pub pack-next : (before : List ℕ) (term : Term) (k : ℕ) → length before ≡ term_bytes kind * k → length (before ++ pack_term kind term) ≡ term_bytes kind * (k + 1)
  pack-next before term k h =
      let n : ℕ = length (pack_term kind term) in
      length-append before (pack_term kind term)
      ∙ by_either kind (λ one. length before ≡ one * k → n ≡ one → length before + n ≡ one * (k + 1)) (λ p q. omega arith) (λ p q. omega arith) h (pack-length term)

  rest_read : (before : List ℕ) (ts : List Term) (k : ℕ) → length before ≡ term_bytes kind * k → AllWithin kind ts → terms_from kind (before ++ pack_table kind ts) k (length ts) ≡ ts
  unfolding pack_table terms_from
  rest_read before [] k h fields = refl
  rest_read before (t ∷ ts) k h fields =
      let later : terms_from kind (before ++ (pack_term kind t ++ pack_table kind ts)) (k + 1) (length ts) ≡ ts =
      rw (← append_assoc before (pack_term kind t) (pack_table kind ts)) (rest_read (before ++ pack_term kind t) ts (k + 1) (pack-next before t k h) fields.1) in
      rw (term_at-pack before t (pack_table kind ts) k h (pack_table-bytes ts) fields.0, later)

  pub pack_table-count : (ts : List Term) → length (pack_table kind ts) / term_bytes kind ≡ length ts
  pack_table-count ts = by_either kind (λ one. length (pack_table kind ts) ≡ one * length ts → length (pack_table kind ts) / one ≡ length ts) (λ h. omega arith) (λ h. omega arith) (pack_table-length ts)

  -- a table of packed terms reads as those terms
  pub terms-pack : (ts : List Term) → AllWithin kind ts → terms kind (pack_table kind ts) ≡ ts
  unfolding terms
  terms-pack ts fields =
      let none : 0 ≡ term_bytes kind * 0 = by_either kind (λ one. 0 ≡ one * 0) (omega arith) (omega arith) in
      rw (pack_table-count ts) (rest_read [] ts 0 none fields)
