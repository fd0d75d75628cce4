-- A number's digits as ASCII text (01, "The bench program"). Assumes nothing.
use Rattle.std.specs.Prelude.{ℕ, zero, suc, ◌+◌, ◌-◌, ◌/◌, ◌%◌, Bool, true, false, ◌||◌, cond, List, [], ◌∷◌, ◌++◌, leb, ltb}

-- a digit below 16: from '0' on, and from ten on the small letters from 'a'
unfoldable pub glyph_of : ℕ → ℕ
glyph_of d = cond (ltb d 10) (48 + d) (97 + (d - 10))

-- n in a base, the most significant digit first, at most so many digits: without zeros in front, or with zeros up to that many
unfoldable pub digits_of : (base : ℕ) (zeros : Bool) (most n : ℕ) → List ℕ
digits_of base zeros zero n = []
digits_of base zeros (suc k) n = cond (zeros || leb base n) (digits_of base zeros k (n / base)) [] ++ glyph_of (n % base) ∷ []

-- a u64 has at most twenty decimal digits
unfoldable pub decimal_of : ℕ → List ℕ
decimal_of n = digits_of 10 false 20 n

-- the bits of an f64: sixteen digits
unfoldable pub hex_of : ℕ → List ℕ
hex_of n = digits_of 16 true 16 n
