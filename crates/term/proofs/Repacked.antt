-- What was read, packed again: a list of bytes from its number, a term's bytes, and a whole table of either kind. Assumes nothing.
use Prim.Native.Nat.{ℕ, zero, suc, ◌+◌, ◌-◌, ◌*◌, ◌/◌, ◌%◌, ◌^◌, ◌≤◌, ◌<◌}
use native.Mathlib.Nat.{mod-eq_of_lt, div-one}
use native.Mathlib.Omega.{arith}
use mathlib.Core.Path.{◌≡◌, refl, sym, ap, ap₂, ◌∙◌}
use mathlib.Core.Bool.{Bool, true, false}
use mathlib.Core.List.{List, [], ◌∷◌, ◌++◌, map}
use borrow.Author.Tests.{eqb-true, eqb-false, ltb-true, ltb-false}
use lib.ListN.{length, get_or, take, drop, take-append-drop, length-drop, drop_of_length-le, get_or-eq_default}
use lib.Seq.{length-take-le, get_or-drop, get_or-take, drop-drop}
use lib.Dec.{eqb, ltb}
use lib.Pow.{high}
use Rattle.kind.specs.Kind.{by_kind, term_bytes}
use Rattle.kind.proofs.Either.{by_either}
use Rattle.term.specs.Pieces.{Piece, wide, joined}
use Rattle.term.specs.Bits.{eight, number, field, Bytes}
use Rattle.term.specs.Pack.{bytes_of, pieces, sign_bit, pack}
use Rattle.term.specs.Long.{long_from, spare_bits, long_pieces, pack_long}
use Rattle.term.specs.Packed.{plain_from, term_from, spare_from, term_at, spare_at, terms_from, terms, count_terms}
use Rattle.term.specs.Tables.{pack_term, pack_table}
use Rattle.term.proofs.Joined.{joined-below}
use Rattle.term.proofs.Fields.{field_below, field_join, wide-eight, fit_eight}
use Rattle.term.proofs.Bytes.{bytes_low}
use Rattle.term.proofs.Reading.{term-within, spare_within}

number-below : (s : List ℕ) → Bytes s → number s < 2 ^ (8 * length s)
unfolding number
number-below s h = rw wide-eight at (joined-below (map eight s) (fit_eight s h))

-- the bytes of the number of a list are the list
pub number-bytes : (s : List ℕ) → Bytes s → bytes_of (length s) (number s) ≡ s
unfolding number joined bytes_of
number-bytes [] h = refl
number-bytes (x ∷ s) h =
    let n : ℕ = 8 * length s in
    let later : Bytes s = λ i. h (suc i) in
    let whole : number (x ∷ s) ≡ x * 2 ^ n + number s = ap (λ k. x * 2 ^ k + number s) (wide-eight s) in
    let first : (x * 2 ^ n + number s) / 2 ^ n % 256 ≡ x = ap (λ k. k % 256) (high x n (number-below s later)) ∙ mod-eq_of_lt (h 0) in
    ap₂ (λ a b. a ∷ b)
    (ap (λ k. k / 2 ^ n % 256) whole ∙ first)
    (ap (bytes_of (length s)) whole ∙ bytes_low (length s) x (number s) ∙ number-bytes s later)

bit_back : (s : ℕ) → s < 2 → sign_bit (eqb s 1) ≡ s
bit_back s h = by (eqb s 1) refl
  where
    by : (b : Bool) → eqb s 1 ≡ b → sign_bit (eqb s 1) ≡ s
    by true e = rw e (sym (eqb-true s 1 e))
    by false e =
        let other : s ≡ 1 → ⊥ = eqb-false s 1 e in
        rw e (omega arith)

-- ---- a record cut into fields and joined again

total : List ℕ → ℕ
total [] = 0
total (w ∷ ws) = w + total ws

-- neighbouring fields of these widths, as pieces
cut : List ℕ → ℕ → List ℕ → List Piece
cut bytes first [] = []
cut bytes first (w ∷ ws) = record { bits = w; value = field bytes first w } ∷ cut bytes (first + w) ws

cut-wide : (bytes : List ℕ) (first : ℕ) (ws : List ℕ) → wide (cut bytes first ws) ≡ total ws
unfolding wide total cut
cut-wide bytes first [] = refl
cut-wide bytes first (w ∷ ws) = ap (λ k. w + k) (cut-wide bytes (first + w) ws)

cut-joined : (bytes : List ℕ) (first : ℕ) (ws : List ℕ) → first + total ws ≤ 8 * length bytes → joined (cut bytes first ws) ≡ field bytes first (total ws)
unfolding joined total cut
cut-joined bytes first [] h = omega (arith, field_below bytes first 0)
cut-joined bytes first (w ∷ ws) h =
    rw (cut-wide bytes (first + w) ws, cut-joined bytes (first + w) ws (omega arith)) (sym (field_join bytes first w (total ws) h))

-- all bytes are one field, so the bytes of their fields joined are the bytes
cut-back : (bytes ws : List ℕ) → Bytes bytes → total ws ≡ 8 * length bytes → bytes_of (length bytes) (joined (cut bytes 0 ws)) ≡ bytes
unfolding field
cut-back bytes ws small h =
    let z : 8 * length bytes - (0 + total ws) ≡ 0 = omega arith in
    let all : field bytes 0 (total ws) ≡ number bytes = rw (z, div-one (number bytes), h) (mod-eq_of_lt (number-below bytes small)) in
    ap (bytes_of (length bytes)) (cut-joined bytes 0 ws (omega arith) ∙ all) ∙ number-bytes bytes small

module _ (bytes : List ℕ) (small : Bytes bytes) where
  -- nine bytes read as a term and packed again
  plain_back : length bytes ≡ 9 → pack (plain_from bytes 0) ≡ bytes
  unfolding pack plain_from pieces total cut
  plain_back size =
      let widths : List ℕ = 2 ∷ 4 ∷ 5 ∷ 1 ∷ 60 ∷ [] in
      let same : joined (pieces (plain_from bytes 0)) ≡ joined (cut bytes 0 widths) = rw (bit_back (field bytes 11 1) (field_below bytes 11 1)) in
      ap (bytes_of 9) same ∙ ap (λ n. bytes_of n (joined (cut bytes 0 widths))) (sym size) ∙ cut-back bytes widths small (omega arith)

  -- twelve bytes, where no spare bit is set
  long_back : length bytes ≡ 12 → spare_bits bytes 0 ≡ 0 → pack_long (long_from bytes 0) ≡ bytes
  unfolding pack_long long_from long_pieces spare_bits total cut
  long_back size none =
      let widths : List ℕ = 4 ∷ 10 ∷ 5 ∷ 6 ∷ 1 ∷ 60 ∷ 10 ∷ [] in
      let same : joined (long_pieces (long_from bytes 0)) ≡ joined (cut bytes 0 widths) = rw (bit_back (field bytes 25 1) (field_below bytes 25 1), none) in
      ap (bytes_of 12) same ∙ ap (λ n. bytes_of n (joined (cut bytes 0 widths))) (sym size) ∙ cut-back bytes widths small (omega arith)

  pub record_back : (kind : ℕ) → length bytes ≡ term_bytes kind → spare_from kind bytes 0 ≡ 0 → pack_term kind (term_from kind bytes 0) ≡ bytes
  unfolding pack_term term_from spare_from by_kind
  record_back kind size none = go (eqb kind 58) refl
    where
      go : (b : Bool) → eqb kind 58 ≡ b → pack_term kind (term_from kind bytes 0) ≡ bytes
      go true e = rw e (long_back (rw e at size) (rw e at none))
      go false e = rw e (plain_back (rw e at size))

-- ---- a table cut into its terms

-- the bytes of the k-th term
unfoldable pub bytes_at : ℕ → List ℕ → ℕ → List ℕ
bytes_at kind table k = take (term_bytes kind) (drop (term_bytes kind * k) table)

module _ (kind : ℕ) (table : List ℕ) (small : Bytes table) where
  abbrev Reached : ℕ → Type 0
  Reached k = term_bytes kind * k + term_bytes kind ≤ length table

  bytes_first : (k : ℕ) → drop (term_bytes kind * k) table ≡ bytes_at kind table k ++ drop (term_bytes kind * (k + 1)) table
  unfolding bytes_at
  bytes_first k =
      let one : ℕ = term_bytes kind in
      let e : one * k + one ≡ one * (k + 1) = by_either kind (λ n. n * k + n ≡ n * (k + 1)) (omega arith) (omega arith) in
      sym (take-append-drop one (drop (one * k) table)) ∙ ap (λ l. take one (drop (one * k) table) ++ l) (drop-drop one (one * k) table ∙ ap (λ n. drop n table) e)

  bytes_length : (k : ℕ) → Reached k → length (bytes_at kind table k) ≡ term_bytes kind
  unfolding bytes_at
  bytes_length k h = length-take-le (term_bytes kind) (drop (term_bytes kind * k) table) (omega (arith, length-drop (term_bytes kind * k) table))

  bytes_small : (k : ℕ) → Reached k → Bytes (bytes_at kind table k)
  unfolding bytes_at
  bytes_small k h i = by (ltb i (term_bytes kind)) refl
    where
      by : (b : Bool) → ltb i (term_bytes kind) ≡ b → get_or (take (term_bytes kind) (drop (term_bytes kind * k) table)) i 0 < 256
      by true e =
          rw (get_or-take (term_bytes kind) (drop (term_bytes kind * k) table) i 0 (ltb-true i (term_bytes kind) e), get_or-drop (term_bytes kind * k) table i 0)
          (small (term_bytes kind * k + i))
      by false e =
          let none = get_or-eq_default (bytes_at kind table k) 0 {n = i} (omega (arith, ltb-false i (term_bytes kind) e, bytes_length k h)) in
          rw none (omega arith)

  -- what is read of the table at a place is read of the bytes there
  module _ (k : ℕ) (h : Reached k) where
    read_there : {A : Type 0} (read : List ℕ → ℕ → A)
        → ((before bytes after : List ℕ) → Bytes after → length bytes ≡ term_bytes kind → read (before ++ (bytes ++ after)) (8 * length before) ≡ read bytes 0)
        → read table (8 * (term_bytes kind * k)) ≡ read (bytes_at kind table k) 0
    read_there read within =
        let before : List ℕ = take (term_bytes kind * k) table in
        let after : List ℕ = drop (term_bytes kind * (k + 1)) table in
        let place : 8 * (term_bytes kind * k) ≡ 8 * length before = ap (λ n. 8 * n) (sym (length-take-le (term_bytes kind * k) table (omega arith))) in
        let whole : table ≡ before ++ (bytes_at kind table k ++ after) = sym (take-append-drop (term_bytes kind * k) table) ∙ ap (λ l. before ++ l) (bytes_first k) in
        ap₂ read whole place ∙ within before (bytes_at kind table k) after (λ i. rw get_or-drop (small (term_bytes kind * (k + 1) + i))) (bytes_length k h)

    pub term-there : term_at kind table k ≡ term_from kind (bytes_at kind table k) 0
    unfolding term_at
    term-there = read_there (term_from kind) (λ before bytes after few size. term-within before bytes after few kind size)

    spare_there : spare_at kind table k ≡ spare_from kind (bytes_at kind table k) 0
    unfolding spare_at
    spare_there = read_there (spare_from kind) (λ before bytes after few size. spare_within before bytes after few kind size)

    pub term-back : spare_at kind table k ≡ 0 → pack_term kind (term_at kind table k) ≡ bytes_at kind table k
    term-back none = ap (pack_term kind) term-there ∙ record_back (bytes_at kind table k) (bytes_small k h) kind (bytes_length k h) (sym spare_there ∙ none)

  rest_back : (k n : ℕ) → length table ≡ term_bytes kind * (k + n) → ((j : ℕ) → j < k + n → spare_at kind table j ≡ 0) → pack_table kind (terms_from kind table k n) ≡ drop (term_bytes kind * k) table
  unfolding pack_table terms_from
  rest_back k zero h none =
      let e : k + 0 ≡ k = omega arith in
      let all : length table ≡ term_bytes kind * k = rw e at h in
      sym (drop_of_length-le table {i = term_bytes kind * k} (omega arith))
  rest_back k (suc n) h none =
      let reach : Reached k = by_either kind (λ one. length table ≡ one * (k + suc n) → one * k + one ≤ length table) (λ e. omega arith) (λ e. omega arith) h in
      let e : k + suc n ≡ k + 1 + n = omega arith in
      ap₂ (λ a b. a ++ b) (term-back k reach (none k (omega arith))) (rest_back (k + 1) n (rw e at h) (λ j l. none j (omega arith))) ∙ sym (bytes_first k)

  -- the terms of a table whose spare bits are zero, packed, are its bytes
  pub table_back : term_bytes kind * count_terms kind table ≡ length table → ((k : ℕ) → k < count_terms kind table → spare_at kind table k ≡ 0) → pack_table kind (terms kind table) ≡ table
  unfolding terms
  table_back h none =
      let all : 0 + count_terms kind table ≡ count_terms kind table = omega arith in
      let start : term_bytes kind * 0 ≡ 0 = by_either kind (λ one. one * 0 ≡ 0) (omega arith) (omega arith) in
      rest_back 0 (count_terms kind table) (rw all (sym h)) (λ k l. none k (omega arith)) ∙ ap (λ n. drop n table) start
