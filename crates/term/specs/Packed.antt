-- The packed terms of both kinds of table: the nine bytes of document 01 and the twelve of document 02, h; the term at a place of a table, and
-- the table as a list of terms. A kind other than 58 is read as 38 is. Assumes nothing.
use Rattle.std.specs.Prelude.{ℕ, zero, suc, ◌+◌, ◌*◌, ◌/◌, cond, List, [], ◌∷◌, length, eqb}
use Rattle.kind.specs.Kind.{term_bytes}
use Rattle.term.specs.declared.Term.{Term}
use Rattle.term.specs.Bits.{field}
use Rattle.term.specs.Long.{long_from, spare_bits}

-- the factor of a nine-byte term, in hundredths: 1, or 0 where there is no exponential
unfoldable pub plain_factor : ℕ → ℕ
plain_factor zero = 0
plain_factor (suc c) = 100

-- the term of nine bytes whose first bit is `first`: c, d, t, sign and magnitude follow one another
unfoldable pub plain_from : List ℕ → ℕ → Term
plain_from bytes first =
    record {
      c = field bytes first 2;
      factor = plain_factor (field bytes first 2);
      d = field bytes (first + 2) 4;
      t = field bytes (first + 6) 5;
      negative = eqb (field bytes (first + 11) 1) 1;
      magnitude = field bytes (first + 12) 60;
    }

-- the term of a kind whose first bit is `first`, and its spare bits, of which nine bytes have none
unfoldable pub term_from : ℕ → List ℕ → ℕ → Term
term_from kind bytes first = cond (eqb kind 58) (long_from bytes first) (plain_from bytes first)

unfoldable pub spare_from : ℕ → List ℕ → ℕ → ℕ
spare_from kind bytes first = cond (eqb kind 58) (spare_bits bytes first) 0

-- the k-th term of a table, k counted from 0, and its spare bits
unfoldable pub term_at : ℕ → List ℕ → ℕ → Term
term_at kind table k = term_from kind table (8 * (term_bytes kind * k))

unfoldable pub spare_at : ℕ → List ℕ → ℕ → ℕ
spare_at kind table k = spare_from kind table (8 * (term_bytes kind * k))

-- how many whole terms the bytes hold
abbrev pub count_terms : ℕ → List ℕ → ℕ
count_terms kind table = length table / term_bytes kind

-- n terms in order, from the k-th
unfoldable pub terms_from : ℕ → List ℕ → ℕ → ℕ → List Term
terms_from kind table k zero = []
terms_from kind table k (suc n) = term_at kind table k ∷ terms_from kind table (k + 1) n

-- the table as a list of terms
unfoldable pub terms : ℕ → List ℕ → List Term
terms kind table = terms_from kind table 0 (count_terms kind table)
