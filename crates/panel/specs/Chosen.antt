-- What a call of the panel hands back (01, "What belongs to it"): the value that stands at the choice, and 0 where the answer has none. Assumes nothing.
use Rattle.std.specs.Prelude.{ℕ, get_or}
use Rattle.verdict.specs.Reading.{SheetAnswer, Answer}
use Rattle.virial.specs.Reading.{CardAnswer}
use Rattle.reading.specs.Values.{check_values, sheet_values, card_values}

-- the two checks: number, place, two ends
abbrev pub chosen : Answer → ℕ → ℕ
chosen answer choice = get_or (check_values answer) choice 0

-- the state sheet: number, place, four ends
abbrev pub sheet_chosen : SheetAnswer → ℕ → ℕ
sheet_chosen answer choice = get_or (sheet_values answer) choice 0

-- the vapour card: number, place, six ends
abbrev pub card_chosen : CardAnswer → ℕ → ℕ
card_chosen answer choice = get_or (card_values answer) choice 0
