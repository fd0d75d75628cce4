-- A row of a text table (02 c): its fields, the bytes that spell them, the rules that they keep, and the term that it says. There is no parser
-- here. Assumes nothing.
use Rattle.std.specs.Prelude.{ℕ, zero, suc, ◌+◌, ◌-◌, ◌*◌, ◌/◌, ◌%◌, ◌^◌, ◌≤◌, ◌<◌, Bool, true, false, cond, ◌&&◌, List, [], ◌∷◌, ◌++◌, ltb, leb}
use Rattle.term.specs.declared.Term.{Term}
use Rattle.term.specs.Packed.{plain_factor}
use Rattle.row.specs.declared.Row.{Row}

-- the bytes of a row: a digit, and what stands between
abbrev pub digit : ℕ → ℕ
digit n = 48 + n

abbrev pub feed : ℕ
feed = 10

abbrev pub space : ℕ
space = 32

abbrev pub minus : ℕ
minus = 45

abbrev pub point : ℕ
point = 46

abbrev pub letter_e : ℕ
letter_e = 101

-- a whole number below 100 in decimal: one digit below ten, else two, so that no zero stands in front
unfoldable pub small : ℕ → List ℕ
small n = cond (ltb n 10) (digit n ∷ []) (digit (n / 10) ∷ digit (n % 10) ∷ [])

-- a whole number and the one space behind it
unfoldable pub spaced : ℕ → List ℕ
spaced n = small n ++ (space ∷ [])

-- the coefficient's front: a minus only where needed, then 0 and the point
unfoldable pub front : Bool → List ℕ
front true = minus ∷ digit 0 ∷ point ∷ []
front false = digit 0 ∷ point ∷ []

-- the last k decimal digits of n
unfoldable pub digits : ℕ → ℕ → List ℕ
digits zero n = []
digits (suc k) n = digits k (n / 10) ++ (digit (n % 10) ∷ [])

-- e, the power that lies `power` above -6, and the line feed: a minus below 0, and a plus nowhere
unfoldable pub tail : ℕ → List ℕ
tail power = cond (ltb power 6) (letter_e ∷ minus ∷ digit (6 - power) ∷ feed ∷ []) (letter_e ∷ digit (power - 6) ∷ feed ∷ [])

-- a row's bytes: c, d, t and the coefficient, with its line feed
unfoldable pub row_text : Row → List ℕ
row_text row =
    spaced row.c ++ (spaced row.d ++ (spaced row.t ++ (front row.negative ++ (digits 10 row.ten ++ tail row.power))))

-- what the fields of a row keep: the packed term's own rules, ten digits of which the first is not zero, and a power from -6 to 1
pub record Good (row : Row) : Type 0 where
  pub c_below : row.c < 4
  pub d_above : 0 < row.d
  pub d_below : row.d < 16
  pub t_most : row.t ≤ 24
  pub ten_above : 10 ^ 9 ≤ row.ten
  pub ten_below : row.ten < 10 ^ 10
  pub power_most : row.power ≤ 7

-- the same as a test
unfoldable pub good_row : Row → Bool
good_row row =
    ltb row.c 4 && ltb 0 row.d && ltb row.d 16 && leb row.t 24 && leb (10 ^ 9) row.ten && ltb row.ten (10 ^ 10) && leb row.power 7

-- the term that a row says, with a nine-byte term's factor: 0.D x 10^(power - 6) is D x 10^power in units of 10^-16
unfoldable pub term_of : Row → Term
term_of row =
    record { c = row.c; factor = plain_factor row.c; d = row.d; t = row.t; negative = row.negative; magnitude = row.ten * 10 ^ row.power }
