-- The line that the bench program writes for one proposal (01, "The bench program"). Assumes nothing.
use Rattle.std.specs.Prelude.{ℕ, ◌-◌, ◌≤◌, ◌≡◌, List, [], ◌∷◌, ◌++◌, length, take, replicate}
use Rattle.line.specs.declared.Line.{Line}
use Rattle.line.specs.Digits.{decimal_of, hex_of}

-- the count, the number and the place in decimal, the two ends in hexadecimal, a space between, and a line feed
unfoldable pub line_of : (count number place lower upper : ℕ) → List ℕ
line_of count number place lower upper =
    (decimal_of count ++ 32 ∷ [])
    ++ (decimal_of number ++ 32 ∷ [])
    ++ (decimal_of place ++ 32 ∷ [])
    ++ (hex_of lower ++ 32 ∷ [])
    ++ (hex_of upper ++ 10 ∷ [])

-- a text in the room of a line, with zeros after it
unfoldable pub held : List ℕ → Line
held text = record { bytes = text ++ replicate (97 - length text) 0; len = length text }

-- the text's length counts bytes of the line
abbrev pub Within : Line → Type 0
Within line = (line.len ≤ length line.bytes) × (line.len ≡ length (take line.len line.bytes))
