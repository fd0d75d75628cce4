-- The words that name the bench program's width (02 d), 32 or 53, and the kind of its table (02 h), 38 or 58: two digits, and nothing else.
-- Assumes nothing.
use Rattle.std.specs.Prelude.{ℕ, Bool, cond, ◌&&◌, List, length, get_or, eqb}

-- the word is the bytes a and b
abbrev pub spells : List ℕ → (a b : ℕ) → Bool
spells word a b = eqb (length word) 2 && (eqb (get_or word 0 0) a && eqb (get_or word 1 0) b)

-- one of two numbers by its two digits, whose bytes are a and b, or c and d; 0 for any other word
unfoldable pub named : List ℕ → (a b first c d second : ℕ) → ℕ
named word a b first c d second = cond (spells word a b) first (cond (spells word c d) second 0)

-- '2' is the byte 50; 0 is no width and no kind
abbrev pub width_of : List ℕ → ℕ
width_of word = named word 51 50 32 53 51 53

abbrev pub kind_of : List ℕ → ℕ
kind_of word = named word 51 56 38 53 56 58
