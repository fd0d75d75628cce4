-- The bits of a list of bytes as one number, and a field of it by its first bit and its count of bits. Any packed record reads by these.
-- Assumes nothing.
use Rattle.std.specs.Prelude.{ℕ, ◌+◌, ◌-◌, ◌*◌, ◌/◌, ◌%◌, ◌^◌, ◌≤◌, ◌<◌, List, map, length, get_or}
use Rattle.term.specs.Pieces.{Piece, joined}

-- a byte is a piece of eight bits
abbrev pub eight : ℕ → Piece
eight byte = record { bits = 8; value = byte }

-- all bits of the bytes, the first byte's most significant bit foremost, as one number
unfoldable pub number : List ℕ → ℕ
number bytes = joined (map eight bytes)

-- the field of `bits` bits whose first, most significant bit stands `first` bits behind the front
unfoldable pub field : List ℕ → ℕ → ℕ → ℕ
field bytes first bits = number bytes / 2 ^ (8 * length bytes - (first + bits)) % 2 ^ bits

-- every element is a byte
abbrev pub Bytes : List ℕ → Type 0
Bytes s = (i : ℕ) → get_or s i 0 < 256

-- a field that lies within the bytes and fits a number of 64 bits, as its place does
pub record Within (bytes : List ℕ) (first bits : ℕ) : Type 0 where
  pub inside : first + bits ≤ 8 * length bytes
  pub reached : first + bits < 2 ^ 64
  pub short : bits ≤ 64
