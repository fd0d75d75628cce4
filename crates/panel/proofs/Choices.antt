-- Each choice by itself, as document 01 lists them: 0 the number, 1 the place, then the ends, and nothing else; and the vapour card's alike.
-- Assumes nothing.
use Prim.Native.Nat.{ℕ, ◌≤◌}
use mathlib.Core.Path.{◌≡◌, refl}
use lib.ListN.{get_or-eq_default}
use Rattle.verdict.specs.Reading.{SheetAnswer, Answer, number, place, handed, sheet_number, sheet_place, sheet_pressure, sheet_stiffness}
use Rattle.virial.specs.Reading.{CardAnswer, card_number, card_place, card_second, card_third, card_pressure}
use Rattle.reading.specs.Values.{bits, check_values, sheet_values, card_values}
use Rattle.panel.specs.Chosen.{chosen, sheet_chosen, card_chosen}

pub check_choices : (answer : Answer)
    → (chosen answer 0 ≡ number answer)
    × (chosen answer 1 ≡ place answer)
    × (chosen answer 2 ≡ bits (handed answer).lower)
    × (chosen answer 3 ≡ bits (handed answer).upper)
    × ((choice : ℕ) → 4 ≤ choice → chosen answer choice ≡ 0)
unfolding check_values
check_choices answer = (refl, refl, refl, refl, λ choice h. get_or-eq_default (check_values answer) 0 h)

pub sheet_choices : (answer : SheetAnswer)
    → (sheet_chosen answer 0 ≡ sheet_number answer)
    × (sheet_chosen answer 1 ≡ sheet_place answer)
    × (sheet_chosen answer 2 ≡ bits (sheet_pressure answer).lower)
    × (sheet_chosen answer 3 ≡ bits (sheet_pressure answer).upper)
    × (sheet_chosen answer 4 ≡ bits (sheet_stiffness answer).lower)
    × (sheet_chosen answer 5 ≡ bits (sheet_stiffness answer).upper)
    × ((choice : ℕ) → 6 ≤ choice → sheet_chosen answer choice ≡ 0)
unfolding sheet_values
sheet_choices answer = (refl, refl, refl, refl, refl, refl, λ choice h. get_or-eq_default (sheet_values answer) 0 h)

pub card_choices : (answer : CardAnswer)
    → (card_chosen answer 0 ≡ card_number answer)
    × (card_chosen answer 1 ≡ card_place answer)
    × (card_chosen answer 2 ≡ bits (card_second answer).lower)
    × (card_chosen answer 3 ≡ bits (card_second answer).upper)
    × (card_chosen answer 4 ≡ bits (card_third answer).lower)
    × (card_chosen answer 5 ≡ bits (card_third answer).upper)
    × (card_chosen answer 6 ≡ bits (card_pressure answer).lower)
    × (card_chosen answer 7 ≡ bits (card_pressure answer).upper)
    × ((choice : ℕ) → 8 ≤ choice → card_chosen answer choice ≡ 0)
unfolding card_values
card_choices answer = (refl, refl, refl, refl, refl, refl, refl, refl, λ choice h. get_or-eq_default (card_values answer) 0 h)
