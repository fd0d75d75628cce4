-- The two kinds of table (document 02, h), each named by its paper's count of rows, and every limit that depends on the kind: 38 has the
-- limits of document 01 ("Inputs"), 58 those of document 02, h. A number that names no kind is refused before any of them is asked.
-- Assumes nothing.
use Rattle.std.specs.Prelude.{ℕ, ◌*◌, ◌^◌, Bool, cond, ◌||◌, eqb}

-- a kind is 38 or 58
unfoldable pub sound_kind : ℕ → Bool
sound_kind kind = eqb kind 38 || eqb kind 58

-- one number for each kind
unfoldable pub by_kind : ℕ → (plain long : ℕ) → ℕ
by_kind kind plain long = cond (eqb kind 58) long plain

-- the kind whose limits hold those of the other
abbrev pub widest : ℕ
widest = 58

-- how many bytes a packed term has
abbrev pub term_bytes : ℕ → ℕ
term_bytes kind = by_kind kind 9 12

-- how many bytes the longest table has, 64 terms
abbrev pub longest : ℕ → ℕ
longest kind = by_kind kind 576 768

-- the least temperature of the state sheet and the density check, in K
abbrev pub coldest : ℕ → ℕ
coldest kind = by_kind kind 273 252

-- the greatest density, in kg/m3
abbrev pub densest : ℕ → ℕ
densest kind = by_kind kind 1288 2576

-- the greatest target, and the ceiling of a pressure's upper end, in Pa
abbrev pub highest : ℕ → ℕ
highest kind = by_kind kind (10 ^ 9) (25 * 10 ^ 9)
