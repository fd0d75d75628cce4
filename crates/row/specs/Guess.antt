-- What a row's fields must be if a text begins with one: read off at fixed places, no byte refused. The reader and the laws cite this; the
-- grammar does not. Assumes nothing.
use Rattle.std.specs.Prelude.{ℕ, zero, suc, ◌+◌, ◌-◌, ◌*◌, ◌%◌, Bool, cond, List, get_or, drop, eqb}
use Rattle.row.specs.declared.Row.{Row}
use Rattle.row.specs.Row.{space, minus}

-- the digit that a byte is, if it is one
unfoldable pub figure : ℕ → ℕ
figure byte = (byte - 48) % 10

-- a whole number of one digit, else of two; and where the field behind it begins
unfoldable pub short_small : List ℕ → Bool
short_small s = eqb (get_or s 1 0) space

unfoldable pub small_of : List ℕ → ℕ
small_of s = cond (short_small s) (figure (get_or s 0 0)) (figure (get_or s 0 0) * 10 + figure (get_or s 1 0))

unfoldable pub past : List ℕ → ℕ
past s = cond (short_small s) 2 3

-- the coefficient's sign, and where its digits begin
unfoldable pub sign_of : List ℕ → Bool
sign_of s = eqb (get_or s 0 0) minus

unfoldable pub front_past : List ℕ → ℕ
front_past s = cond (sign_of s) 3 2

-- the number of k digits
unfoldable pub number_of : List ℕ → ℕ → ℕ
number_of s zero = 0
number_of s (suc k) = number_of s k * 10 + figure (get_or s k 0)

-- the power, counted from -6, of what begins with e
unfoldable pub power_of : List ℕ → ℕ
power_of s = cond (eqb (get_or s 1 0) minus) (6 - figure (get_or s 2 0)) (6 + figure (get_or s 1 0))

-- field by field, from the last
unfoldable pub guess4 : (c d t : ℕ) → Bool → List ℕ → Row
guess4 c d t negative s = record { c = c; d = d; t = t; negative = negative; ten = number_of s 10; power = power_of (drop 10 s) }

unfoldable pub guess3 : (c d t : ℕ) → List ℕ → Row
guess3 c d t s = guess4 c d t (sign_of s) (drop (front_past s) s)

unfoldable pub guess2 : (c d : ℕ) → List ℕ → Row
guess2 c d s = guess3 c d (small_of s) (drop (past s) s)

unfoldable pub guess1 : ℕ → List ℕ → Row
guess1 c s = guess2 c (small_of s) (drop (past s) s)

unfoldable pub guess_of : List ℕ → Row
guess_of s = guess1 (small_of s) (drop (past s) s)
