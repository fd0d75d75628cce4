-- Pieces of bits, one behind the other, most significant first, as one number. Bytes and the fields of a record are such pieces.
-- Assumes nothing.
use Rattle.std.specs.Prelude.{ℕ, ◌+◌, ◌*◌, ◌^◌, ◌<◌, List, [], ◌∷◌}

-- so many bits that hold a value
pub record Piece : Type 0 where
  pub bits : ℕ
  pub value : ℕ

-- how many bits the pieces have together
unfoldable pub wide : List Piece → ℕ
wide [] = 0
wide (piece ∷ rest) = piece.bits + wide rest

-- the pieces as one number, the first piece foremost
unfoldable pub joined : List Piece → ℕ
joined [] = 0
joined (piece ∷ rest) = piece.value * 2 ^ wide rest + joined rest

-- each value fits its bits
abbrev pub Fit : List Piece → Type 0
Fit [] = Unit {0}
Fit (piece ∷ rest) = (piece.value < 2 ^ piece.bits) × Fit rest
