-- Row 38 of the coefficient table: document 01 gives its nine bytes and its fields; and the twelve bytes of the same fields. Assumes nothing.
use Rattle.std.specs.Prelude.{ℕ, List, [], ◌∷◌, true}
use Rattle.term.specs.declared.Term.{Term}

unfoldable pub row38 : List ℕ
row38 = 0xD5 ∷ 0xF0 ∷ 0x00 ∷ 0x6E ∷ 0x9B ∷ 0x73 ∷ 0xB1 ∷ 0x85 ∷ 0x00 ∷ []

-- the coefficient -0.1216139400 x 10^-1 in units of 10^-16
unfoldable pub fields38 : Term
fields38 = record { c = 3; factor = 100; d = 5; t = 15; negative = true; magnitude = 121_613_940_000_000 }

unfoldable pub long38 : List ℕ
long38 = 0x31 ∷ 0x90 ∷ 0xA7 ∷ 0xC0 ∷ 0x01 ∷ 0xBA ∷ 0x6D ∷ 0xCE ∷ 0xC6 ∷ 0x14 ∷ 0x00 ∷ 0x00 ∷ []
