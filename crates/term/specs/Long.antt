-- The twelve-byte term of document 02, h: where its fields and its spare bits lie, and how it is packed. Assumes nothing.
use Rattle.std.specs.Prelude.{ℕ, ◌+◌, ◌*◌, List, [], ◌∷◌, eqb}
use Rattle.term.specs.declared.Term.{Term}
use Rattle.term.specs.Pieces.{Piece, joined}
use Rattle.term.specs.Bits.{field}
use Rattle.term.specs.Pack.{bytes_of, sign_bit}

-- the term of twelve bytes whose first bit is `first`: c, factor, d, t, sign and magnitude follow one another
unfoldable pub long_from : List ℕ → ℕ → Term
long_from bytes first =
    record {
      c = field bytes first 4;
      factor = field bytes (first + 4) 10;
      d = field bytes (first + 14) 5;
      t = field bytes (first + 19) 6;
      negative = eqb (field bytes (first + 25) 1) 1;
      magnitude = field bytes (first + 26) 60;
    }

-- its last ten bits
unfoldable pub spare_bits : List ℕ → ℕ → ℕ
spare_bits bytes first = field bytes (first + 86) 10

-- "c (4 bits), factor in hundredths (10), d (5), t (6), sign (1), magnitude (60), then 10 zero bits"
unfoldable pub long_pieces : Term → List Piece
long_pieces term =
    record { bits = 4; value = term.c }
    ∷ record { bits = 10; value = term.factor }
    ∷ record { bits = 5; value = term.d }
    ∷ record { bits = 6; value = term.t }
    ∷ record { bits = 1; value = sign_bit term.negative }
    ∷ record { bits = 60; value = term.magnitude }
    ∷ record { bits = 10; value = 0 }
    ∷ []

-- the 26 bits before the magnitude as a number
unfoldable pub long_head : Term → ℕ
long_head term = (((term.c * 1024 + term.factor) * 32 + term.d) * 64 + term.t) * 2 + sign_bit term.negative

-- a term as its twelve bytes
unfoldable pub pack_long : Term → List ℕ
pack_long term = bytes_of 12 (joined (long_pieces term))
