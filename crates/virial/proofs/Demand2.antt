-- Demand 2 for the vapour card: its six ends are the rule's own, to the last bit, the f64s of exactly the values of the rule's brackets; and
-- B, C and the pressure of their polynomial on exact fractions lie between them. There is no level. Assumes nothing.
use Prim.Native.Nat.{ℕ, suc}
use mathlib.Core.Path.{◌≡◌, refl, ap}
use mathlib.Core.Bool.{true}
use mathlib.Core.List.{List}
use lib.Dec.{T}
use lib.Ieee.{Float}
use Rattle.sheet.specs.Range.{Width}
use Rattle.doubles.specs.Double.{exact_of}
use Rattle.term.specs.Sound.{sound_table}
use Rattle.verdict.specs.Rules.{handed_out, sound_width}
use Rattle.verdict.specs.Balance.{Covers}
use Rattle.verdict.proofs.Order.{accepted, all_pass}
use Rattle.verdict.proofs.Tables.{sound}
use Rattle.verdict.proofs.Tests.{holds}
use Rattle.verdict.proofs.EitherWidth.{at_width}
use Rattle.verdict.proofs.HandedOut.{handed-covers}
use Rattle.virial.specs.Profile.{profile_temperature, profile_density}
use Rattle.virial.specs.Rules.{coefficients, pressure_of}
use Rattle.virial.specs.Itself.{second_at, third_at, virial_pressure_at}
use Rattle.virial.specs.Reading.{CardAnswer, card_number, card_second, card_third, card_pressure}
use Rattle.virial.specs.Answers.{card_steps, card_answer, card_accepted}
use Rattle.virial.proofs.Wider.{temperature_in}
use Rattle.virial.proofs.Covers.{covers_second, covers_third, covers_pressure}
use Rattle.virial.proofs.Doubled.{second_handy, third-handy, pressure-handy}

-- the three pairs of ends are those of the rules' brackets, and each covers its value
pub record CardCovers (card : CardAnswer) (w : ℕ) (table : List ℕ) (t rho : Float) : Type 0 where
  pub second : Covers (card_second card) (coefficients w table (exact_of t)).second (second_at table (exact_of t))
  pub third : Covers (card_third card) (coefficients w table (exact_of t)).third (third_at table (exact_of t))
  pub pressure : Covers (card_pressure card) (pressure_of w (exact_of t) (exact_of rho) (coefficients w table (exact_of t))) (virial_pressure_at table (exact_of t) (exact_of rho))

accepted-covers : (w : ℕ) (table : List ℕ) (t rho : Float) → sound_width w ≡ true → sound_table 38 table ≡ true → T (profile_temperature t) → T (profile_density rho)
    → CardCovers (card_accepted w table t rho) w table t rho
accepted-covers w table t rho wide good hot thin = at_width w (λ (n : ℕ). CardCovers (card_accepted n table t rho) n table t rho) by_bits wide
  where
    by_bits : (v : ℕ) → Width v → CardCovers (card_accepted (suc v) table t rho) (suc v) table t rho
    by_bits v k =
        let T = temperature_in t hot in
        record {
          second = handed-covers _ (second_handy k table good t hot) (covers_second v table T);
          third = handed-covers _ (third-handy k table good t hot) (covers_third v table T);
          pressure = handed-covers _ (pressure-handy k table good t hot rho thin) (covers_pressure v table T (exact_of rho));
        }

module _ (w : ℕ) (table : List ℕ) (t rho : Float) (zero : card_number (card_answer w table t rho) ≡ 0) where
  pub card_is_accepted : card_answer w table t rho ≡ card_accepted w table t rho
  unfolding card_answer
  card_is_accepted = all_pass (card_steps w table t rho) _ ((accepted card_number 0 (card_steps w table t rho) _ tt refl).0 zero)

  -- the ends are the rule's own
  pub card-ends :
      (card_second (card_answer w table t rho) ≡ handed_out (coefficients w table (exact_of t)).second)
      × (card_third (card_answer w table t rho) ≡ handed_out (coefficients w table (exact_of t)).third)
      × (card_pressure (card_answer w table t rho) ≡ handed_out (pressure_of w (exact_of t) (exact_of rho) (coefficients w table (exact_of t))))
  card-ends = (ap card_second card_is_accepted, ap card_third card_is_accepted, ap card_pressure card_is_accepted)

  -- and cover B, C and the polynomial
  pub card_covers : CardCovers (card_answer w table t rho) w table t rho
  unfolding card_answer
  card_covers =
      let steps = (accepted card_number 0 (card_steps w table t rho) _ tt refl).0 zero in
      rw card_is_accepted
      (accepted-covers w table t rho steps.0 (sound 38 table steps.1.0 steps.1.1.0) (holds steps.1.1.1.0) (holds steps.1.1.1.1.0))
