-- An answer's values in the order of document 01's choices ("What belongs to it"): the number, the place, then the ends as f64 bits. Assumes nothing.
use Rattle.std.specs.Prelude.{ℕ, List, [], ◌∷◌, Float}
use Rattle.std.specs.Float.Ieee.{to_bits}
use Rattle.std.specs.Float.{binary64}
use Rattle.verdict.specs.declared.Ends.{Ends}
use Rattle.verdict.specs.Reading.{SheetAnswer, Answer, number, place, handed, sheet_number, sheet_place, sheet_pressure, sheet_stiffness}
use Rattle.virial.specs.Reading.{CardAnswer, card_number, card_place, card_second, card_third, card_pressure}

abbrev pub bits : Float → ℕ
bits end = to_bits binary64 end

-- a number with no place and two ends
abbrev pub end_values : ℕ → Ends → List ℕ
end_values number ends = number ∷ 0 ∷ bits ends.lower ∷ bits ends.upper ∷ []

unfoldable pub check_values : Answer → List ℕ
check_values answer = number answer ∷ place answer ∷ bits (handed answer).lower ∷ bits (handed answer).upper ∷ []

unfoldable pub sheet_values : SheetAnswer → List ℕ
sheet_values answer =
    sheet_number answer
    ∷ sheet_place answer
    ∷ bits (sheet_pressure answer).lower
    ∷ bits (sheet_pressure answer).upper
    ∷ bits (sheet_stiffness answer).lower
    ∷ bits (sheet_stiffness answer).upper
    ∷ []

unfoldable pub card_values : CardAnswer → List ℕ
card_values answer =
    card_number answer
    ∷ card_place answer
    ∷ bits (card_second answer).lower
    ∷ bits (card_second answer).upper
    ∷ bits (card_third answer).lower
    ∷ bits (card_third answer).upper
    ∷ bits (card_pressure answer).lower
    ∷ bits (card_pressure answer).upper
    ∷ []
