-- How a term is packed: its fields as pieces, and the pieces' number as nine bytes. Assumes nothing.
use Rattle.std.specs.Prelude.{ℕ, zero, suc, ◌+◌, ◌*◌, ◌/◌, ◌%◌, ◌^◌, List, [], ◌∷◌, Bool, cond}
use Rattle.term.specs.declared.Term.{Term}
use Rattle.term.specs.Pieces.{Piece, joined}

-- the lowest n bytes of a number, the most significant byte foremost
unfoldable pub bytes_of : ℕ → ℕ → List ℕ
bytes_of zero x = []
bytes_of (suc n) x = x / 2 ^ (8 * n) % 2 ^ 8 ∷ bytes_of n x

-- the sign's bit, set for negative
abbrev pub sign_bit : Bool → ℕ
sign_bit negative = cond negative 1 0

-- "The packed term": c in 2 bits, d in 4, t in 5, the sign in 1, and the magnitude in 60
unfoldable pub pieces : Term → List Piece
pieces term =
    record { bits = 2; value = term.c }
    ∷ record { bits = 4; value = term.d }
    ∷ record { bits = 5; value = term.t }
    ∷ record { bits = 1; value = sign_bit term.negative }
    ∷ record { bits = 60; value = term.magnitude }
    ∷ []

-- the first twelve bits of a term as a number
unfoldable pub head_of : Term → ℕ
head_of term = ((term.c * 16 + term.d) * 32 + term.t) * 2 + sign_bit term.negative

-- a term as its nine bytes
unfoldable pub pack : Term → List ℕ
pack term = bytes_of 9 (joined (pieces term))
