-- Demand 1 for the vapour card: which number each kind of bad input gets, in order, with zero ends and the place of a broken term. `FailsAt k`
-- says that check k of the card, counted from 0, fails and that none before it does. Assumes nothing.
use Rattle.std.specs.Prelude.{Ok, Err}
use Prim.Native.Nat.{ℕ, ◌<◌}
use native.Mathlib.Omega.{arith}
use mathlib.Core.Path.{◌≡◌, refl, ◌∙◌, ap}
use mathlib.Core.Bool.{true, false}
use mathlib.Core.List.{List}
use mathlib.Core.Logic.Iff
use mathlib.Core.Logic.{◌↔◌}
use lib.Ieee.{Float}
use Rattle.exact.specs.Fraction.{nat, parts}
use Rattle.doubles.specs.Range.{Outside}
use Rattle.doubles.proofs.Within.{outside}
use Rattle.term.specs.Sound.{sound_table, first_broken}
use Rattle.verdict.specs.Reading.{zeros}
use Rattle.verdict.specs.Steps.{FailsAt, AllPass}
use Rattle.verdict.specs.Rules.{sound_width}
use Rattle.verdict.proofs.Order.{exactly, accepted, on_pass, on_fail}
use Rattle.verdict.proofs.Tables.{table_parts, sound}
use Rattle.verdict.proofs.EitherWidth.{unsound_width}
use Rattle.verdict.proofs.Demand1.{refusal-place}
use Rattle.virial.specs.Profile.{profile_temperature}
use Rattle.virial.specs.Reading.{CardAnswer, card_number, card_place, card_second, card_third, card_pressure}
use Rattle.virial.specs.Answers.{card_steps, card_answer}

-- ---- zeros: a refused card has no ends, and only 2 has a place
pub card_zeros : (a : CardAnswer) → 0 < card_number a → (card_second a ≡ zeros) × (card_third a ≡ zeros) × (card_pressure a ≡ zeros)
card_zeros (Ok card) h = absurd (omega arith)
card_zeros (Err why) h = (refl, refl, refl)

pub card_no_place : (a : CardAnswer) → (card_number a ≡ 2 → ⊥) → card_place a ≡ 0
card_no_place (Ok card) h = refl
card_no_place (Err why) h = refusal-place why h

module _ (w : ℕ) (table : List ℕ) (t rho : Float) where
  -- the width
  pub card_19 : card_number (card_answer w table t rho) ≡ 19 ↔ FailsAt 0 (card_steps w table t rho)
  unfolding card_answer
  card_19 = exactly card_number 19 0 (card_steps w table t rho) _ tt

  -- in full: neither 32 nor 53
  pub card_width : card_number (card_answer w table t rho) ≡ 19 ↔ ((w ≡ 32 → ⊥) × (w ≡ 53 → ⊥))
  card_width = Iff.trans card_19 (unsound_width w)

  -- the table's length
  pub card_1 : card_number (card_answer w table t rho) ≡ 1 ↔ FailsAt 1 (card_steps w table t rho)
  unfolding card_answer
  card_1 = exactly card_number 1 1 (card_steps w table t rho) _ tt

  -- a term breaks a rule
  pub card_2 : card_number (card_answer w table t rho) ≡ 2 ↔ FailsAt 2 (card_steps w table t rho)
  unfolding card_answer
  card_2 = exactly card_number 2 2 (card_steps w table t rho) _ tt

  -- temperature
  pub card_3 : card_number (card_answer w table t rho) ≡ 3 ↔ FailsAt 3 (card_steps w table t rho)
  unfolding card_answer
  card_3 = exactly card_number 3 3 (card_steps w table t rho) _ tt

  -- in full: a width, a sound table, and T is no finite number or not from 273 to 1123
  pub card_temperature : card_number (card_answer w table t rho) ≡ 3 ↔ ((sound_width w ≡ true) × ((sound_table 38 table ≡ true) × Outside (nat 273) (nat 1123) t))
  card_temperature = Iff.trans card_3 (
    λ f. (f.0, (sound 38 table f.1.0 f.1.1.0, (outside (nat 273) (nat 1123) t).0 f.1.1.1)),
    λ s. let rows = table_parts 38 table s.1.0 in (s.0, (rows.0, (rows.1, (outside (nat 273) (nat 1123) t).1 s.1.1))),
  )

  -- density
  pub card_4 : card_number (card_answer w table t rho) ≡ 4 ↔ FailsAt 4 (card_steps w table t rho)
  unfolding card_answer
  card_4 = exactly card_number 4 4 (card_steps w table t rho) _ tt

  -- in full: T passes besides, and the density is no finite number or not from 1/1024 to 55
  pub card_density : card_number (card_answer w table t rho) ≡ 4
      ↔ ((sound_width w ≡ true) × ((sound_table 38 table ≡ true) × ((profile_temperature t ≡ true) × Outside (parts false 1 1024) (nat 55) rho)))
  card_density = Iff.trans card_4 (
    λ f. (f.0, (sound 38 table f.1.0 f.1.1.0, (f.1.1.1.0, (outside (parts false 1 1024) (nat 55) rho).0 f.1.1.1.1))),
    λ s. let rows = table_parts 38 table s.1.0 in (s.0, (rows.0, (rows.1, (s.1.1.0, (outside (parts false 1 1024) (nat 55) rho).1 s.1.1.1)))),
  )

  -- answered: every check passes
  pub card_0 : card_number (card_answer w table t rho) ≡ 0 ↔ AllPass (card_steps w table t rho)
  unfolding card_answer
  card_0 = accepted card_number 0 (card_steps w table t rho) _ tt refl

  -- the place is that of the first broken term
  pub card-place : card_number (card_answer w table t rho) ≡ 2 → card_place (card_answer w table t rho) ≡ first_broken 38 table
  unfolding card_answer
  card-place e =
      let f = card_2.0 e in
      ap card_place (on_pass _ _ _ f.0 ∙ on_pass _ _ _ f.1.0 ∙ on_fail _ _ _ f.1.1)
