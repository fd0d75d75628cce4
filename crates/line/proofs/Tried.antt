-- The line computed: the three that document 01 prints, and one with letters and the longest numbers. Assumes nothing.
use mathlib.Core.Path.{◌≡◌, refl}
use Prim.Native.Nat.{ℕ, ◌-◌, ◌^◌}
use mathlib.Core.List.{List, [], ◌∷◌, ◌++◌}
use lib.ListN.{length, replicate}
use Rattle.line.specs.Digits.{glyph_of, digits_of, decimal_of, hex_of}
use Rattle.line.specs.Line.{line_of}

-- sixteen zeros, a space, sixteen zeros and a line feed
zero_ends : List ℕ
zero_ends = replicate 16 48 ++ 32 ∷ replicate 16 48 ++ 10 ∷ []

-- 1 3 0
first_line : line_of 1 3 0 0 0 ≡ 49 ∷ 32 ∷ 51 ∷ 32 ∷ 48 ∷ 32 ∷ zero_ends
unfolding glyph_of digits_of decimal_of hex_of line_of zero_ends
first_line = refl

-- 2 7 0
middle_line : line_of 2 7 0 0 0 ≡ 50 ∷ 32 ∷ 55 ∷ 32 ∷ 48 ∷ 32 ∷ zero_ends
unfolding glyph_of digits_of decimal_of hex_of line_of zero_ends
middle_line = refl

-- 3 12 0
last_line : line_of 3 12 0 0 0 ≡ 51 ∷ 32 ∷ 49 ∷ 50 ∷ 32 ∷ 48 ∷ 32 ∷ zero_ends
unfolding glyph_of digits_of decimal_of hex_of line_of zero_ends
last_line = refl

-- 0123456789abcdef
letters : hex_of 0x0123456789abcdef ≡ 48 ∷ 49 ∷ 50 ∷ 51 ∷ 52 ∷ 53 ∷ 54 ∷ 55 ∷ 56 ∷ 57 ∷ 97 ∷ 98 ∷ 99 ∷ 100 ∷ 101 ∷ 102 ∷ []
unfolding glyph_of digits_of hex_of
letters = refl

-- the longest line fills the room
longest : length (line_of (2 ^ 64 - 1) (2 ^ 64 - 1) (2 ^ 64 - 1) (2 ^ 64 - 1) (2 ^ 64 - 1)) ≡ 97
unfolding glyph_of digits_of decimal_of hex_of line_of
longest = refl
