-- The card by document 02, i: the checks 19, 1, 2, 3 and 4 in this order, the last two by the profile, and what is handed out where all pass;
-- there is no ceiling, and so no 8. w is the width; the table is of kind 38. Assumes nothing.
use Rattle.std.specs.Prelude.{ℕ, ◌≡◌, List, [], ◌∷◌, Float, Ok, Err}
use Rattle.doubles.specs.Double.{exact_of}
use Rattle.verdict.specs.declared.Refusal.TheVariants.{Temperature, Density}
use Rattle.verdict.specs.Steps.{Step, first_failing}
use Rattle.verdict.specs.Rules.{handed_out, width_step, table_steps}
use Rattle.virial.specs.Reading.{CardAnswer}
use Rattle.virial.specs.Profile.{profile_temperature, profile_density}
use Rattle.virial.specs.Rules.{coefficients, pressure_of}

-- 3 and 4
abbrev pub card_inputs : (t rho : Float) → List (Step CardAnswer)
card_inputs t rho =
    record { passes = profile_temperature t; otherwise = Err Temperature }
    ∷ record { passes = profile_density rho; otherwise = Err Density }
    ∷ []

abbrev pub card_steps : ℕ → List ℕ → (t rho : Float) → List (Step CardAnswer)
card_steps w table t rho = width_step Err w (table_steps Err 38 table (card_inputs t rho))

abbrev pub card_accepted : ℕ → List ℕ → (t rho : Float) → CardAnswer
card_accepted w table t rho =
    let x = coefficients w table (exact_of t) in
    Ok (record { second = handed_out x.second; third = handed_out x.third; pressure = handed_out (pressure_of w (exact_of t) (exact_of rho) x) })

unfoldable pub card_answer : ℕ → List ℕ → (t rho : Float) → CardAnswer
card_answer w table t rho = first_failing (card_steps w table t rho) (card_accepted w table t rho)

-- what `vapour_card` states of its answer
abbrev pub CardStated : ℕ → List ℕ → (t rho : Float) → CardAnswer → Type 0
CardStated w table t rho answer = answer ≡ card_answer w table t rho
