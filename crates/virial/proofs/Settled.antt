-- Settled: two cards that meet the statement of `vapour_card` are equal, so number, place and every end are settled for every input.
-- Assumes nothing.
use mathlib.Core.Path.{◌≡◌, sym, ◌∙◌, ap}
use mathlib.Core.List.{List}
use Prim.Native.Nat.{ℕ}
use lib.Ieee.{Float}
use Rattle.virial.specs.Reading.{CardAnswer, card_number, card_place, card_second, card_third, card_pressure}
use Rattle.virial.specs.Answers.{CardStated}

-- what a caller sees of two cards is the same
pub record SameCard (a b : CardAnswer) : Type 0 where
  pub numbers : card_number a ≡ card_number b
  pub places : card_place a ≡ card_place b
  pub seconds : card_second a ≡ card_second b
  pub thirds : card_third a ≡ card_third b
  pub pressures : card_pressure a ≡ card_pressure b

pub card_settled : (w : ℕ) (table : List ℕ) (t rho : Float) (a b : CardAnswer) → CardStated w table t rho a → CardStated w table t rho b → SameCard a b
card_settled w table t rho a b p q =
    let e = p ∙ sym q in
    record { numbers = ap card_number e; places = ap card_place e; seconds = ap card_second e; thirds = ap card_third e; pressures = ap card_pressure e }
