-- Demand 1: which number each kind of bad input gets, in order, with zero ends and the place of a broken term. `FailsAt k` of a call's steps
-- (`specs/Rules.antt`) says that its check k, counted from 0, fails and that none before it does. Assumes nothing.
use Rattle.std.specs.Prelude.{Ok, Err}
use Prim.Native.Nat.{ℕ, ◌<◌}
use mathlib.Core.Path.{◌≡◌, refl, ◌∙◌, ap}
use mathlib.Core.Bool.{true, false}
use mathlib.Core.List.{List}
use mathlib.Core.Logic.Iff
use mathlib.Core.Logic.{◌↔◌, ◌⊎◌, ⊎_elim}
use native.Mathlib.Omega.{arith}
use lib.ListN.{length, take}
use lib.Dec.{eqb, lit≤}
use lib.Ieee.{Float}
use Rattle.exact.specs.Fraction.{Fraction, nat, parts, ◌≼◌, ◌≺◌}
use Rattle.kind.specs.Kind.{sound_kind, coldest}
use Rattle.kind.proofs.Either.{unsound_kind}
use Rattle.sheet.specs.Number.{value}
use Rattle.doubles.specs.Double.{exact_of}
use Rattle.doubles.specs.Range.{within, Outside}
use Rattle.doubles.proofs.Within.{outside}
use Rattle.term.specs.Sound.{sound_length, sound_table, first_broken}
use Rattle.equation.specs.Rules.{pressure}
use Rattle.verdict.specs.declared.Refusal.{Refusal}
use Rattle.verdict.specs.declared.Refusal.TheVariants.{Width, Kind, TableLength, BrokenTerm, Temperature, Density, Target, Tolerance, Sides, Ceiling}
use Rattle.verdict.specs.declared.Rejection.TheVariants.{Refused, VapourPressure, PressureGap, GibbsGap, Stiffness}
use Rattle.verdict.specs.Reading.{SheetAnswer, Answer, number, place, handed, zeros, sheet_number, sheet_place, sheet_pressure, sheet_stiffness, refusal_place, refusal_number}
use Rattle.verdict.specs.Steps.{FailsAt, AllPass}
use Rattle.verdict.specs.Rules.{sound_width, state_steps, state_answer, density_steps, density_answer, pair_steps, pair_answer}
use Rattle.verdict.specs.Balance.{SoundPair}
use Rattle.verdict.proofs.Order.{exactly, either, accepted, fails-at, on_pass, on_fail, passed-before, fails-behind, all_behind}
use Rattle.verdict.proofs.Tables.{table_parts, sound}
use Rattle.verdict.proofs.EitherWidth.{unsound_width}
use Rattle.verdict.proofs.Tests.{pushes, pushes-not}
use Rattle.verdict.proofs.SoundPairs.{sound-pair}

-- ---- zeros: the numbers 1 to 8, 19 and 29 hand out nothing, and only 2 has a place
pub refused_zeros : (a : Answer) → ((0 < number a) × (number a < 9)) ⊎ ((number a ≡ 19) ⊎ (number a ≡ 29)) → handed a ≡ zeros
refused_zeros (Ok ends) h = absurd (⊎_elim (λ k. omega (arith, k.0)) (⊎_elim (λ k. omega (arith, k)) (λ k. omega (arith, k))) h)
refused_zeros (Err (Refused why)) h = refl
refused_zeros (Err (VapourPressure ends)) h = absurd (⊎_elim (λ k. omega (arith, k.1)) (⊎_elim (λ k. omega (arith, k)) (λ k. omega (arith, k))) h)
refused_zeros (Err (PressureGap ends)) h = absurd (⊎_elim (λ k. omega (arith, k.1)) (⊎_elim (λ k. omega (arith, k)) (λ k. omega (arith, k))) h)
refused_zeros (Err (GibbsGap ends)) h = absurd (⊎_elim (λ k. omega (arith, k.1)) (⊎_elim (λ k. omega (arith, k)) (λ k. omega (arith, k))) h)
refused_zeros (Err (Stiffness ends)) h = absurd (⊎_elim (λ k. omega (arith, k.1)) (⊎_elim (λ k. omega (arith, k)) (λ k. omega (arith, k))) h)

pub refusal-place : (why : Refusal) → (refusal_number why ≡ 2 → ⊥) → refusal_place why ≡ 0
refusal-place Width h = refl
refusal-place Kind h = refl
refusal-place TableLength h = refl
refusal-place (BrokenTerm place) h = absurd (h refl)
refusal-place Temperature h = refl
refusal-place Density h = refl
refusal-place Target h = refl
refusal-place Tolerance h = refl
refusal-place Sides h = refl
refusal-place Ceiling h = refl

pub no_place : (a : Answer) → (number a ≡ 2 → ⊥) → place a ≡ 0
no_place (Ok ends) h = refl
no_place (Err (Refused why)) h = refusal-place why h
no_place (Err (VapourPressure ends)) h = refl
no_place (Err (PressureGap ends)) h = refl
no_place (Err (GibbsGap ends)) h = refl
no_place (Err (Stiffness ends)) h = refl

pub sheet_zeros : (a : SheetAnswer) → 0 < sheet_number a → (sheet_pressure a ≡ zeros) × (sheet_stiffness a ≡ zeros)
sheet_zeros (Ok sheet) h = absurd (omega arith)
sheet_zeros (Err why) h = (refl, refl)

pub sheet_no_place : (a : SheetAnswer) → (sheet_number a ≡ 2 → ⊥) → sheet_place a ≡ 0
sheet_no_place (Ok sheet) h = refl
sheet_no_place (Err why) h = refusal-place why h

-- ---- 3 is asked after 19, 29, 1 and 2: the width, the kind and the table are sound, and T is no finite number or not in the call's range
after_table : (w kind : ℕ) (table : List ℕ) (low high : Fraction) (t : Float)
    → ((sound_width w ≡ true) × ((sound_kind kind ≡ true) × ((sound_length kind (length table) ≡ true) × ((eqb (first_broken kind table) 0 ≡ true) × (within low high t ≡ false)))))
    ↔ ((sound_width w ≡ true) × ((sound_kind kind ≡ true) × ((sound_table kind table ≡ true) × Outside low high t)))
after_table w kind table low high t = (
  λ f. (f.0, (f.1.0, (sound kind table f.1.1.0 f.1.1.1.0, (outside low high t).0 f.1.1.1.1))),
  λ s. let rows = table_parts kind table s.1.1.0 in (s.0, (s.1.0, (rows.0, (rows.1, (outside low high t).1 s.1.1.1)))),
)

-- ---- the state sheet
module _ (w kind : ℕ) (table : List ℕ) (t rho : Float) where
  -- the width
  pub state_19 : sheet_number (state_answer w kind table t rho) ≡ 19 ↔ FailsAt 0 (state_steps w kind table t rho)
  unfolding state_answer
  state_19 = exactly sheet_number 19 0 (state_steps w kind table t rho) _ tt

  -- in full: neither 32 nor 53 (document 02, d)
  pub state_width : sheet_number (state_answer w kind table t rho) ≡ 19 ↔ ((w ≡ 32 → ⊥) × (w ≡ 53 → ⊥))
  state_width = Iff.trans state_19 (unsound_width w)

  -- the kind
  pub state_29 : sheet_number (state_answer w kind table t rho) ≡ 29 ↔ FailsAt 1 (state_steps w kind table t rho)
  unfolding state_answer
  state_29 = exactly sheet_number 29 1 (state_steps w kind table t rho) _ tt

  -- in full: a width, and a kind that is neither 38 nor 58 (document 02, h)
  pub state_kind : sheet_number (state_answer w kind table t rho) ≡ 29 ↔ ((sound_width w ≡ true) × ((kind ≡ 38 → ⊥) × (kind ≡ 58 → ⊥)))
  state_kind = Iff.trans state_29 (λ f. (f.0, (unsound_kind kind).0 f.1), λ p. (p.0, (unsound_kind kind).1 p.1))

  -- the table's length
  pub state_1 : sheet_number (state_answer w kind table t rho) ≡ 1 ↔ FailsAt 2 (state_steps w kind table t rho)
  unfolding state_answer
  state_1 = exactly sheet_number 1 2 (state_steps w kind table t rho) _ tt

  -- a term breaks a rule
  pub state_2 : sheet_number (state_answer w kind table t rho) ≡ 2 ↔ FailsAt 3 (state_steps w kind table t rho)
  unfolding state_answer
  state_2 = exactly sheet_number 2 3 (state_steps w kind table t rho) _ tt

  -- temperature
  pub state_3 : sheet_number (state_answer w kind table t rho) ≡ 3 ↔ FailsAt 4 (state_steps w kind table t rho)
  unfolding state_answer
  state_3 = exactly sheet_number 3 4 (state_steps w kind table t rho) _ tt

  -- in full: from the kind's coldest, 273 or 252
  pub state_temperature : sheet_number (state_answer w kind table t rho) ≡ 3 ↔ ((sound_width w ≡ true) × ((sound_kind kind ≡ true) × ((sound_table kind table ≡ true) × Outside (nat (coldest kind)) (nat 1273) t)))
  state_temperature = Iff.trans state_3 (after_table w kind table (nat (coldest kind)) (nat 1273) t)

  -- density
  pub state_4 : sheet_number (state_answer w kind table t rho) ≡ 4 ↔ FailsAt 5 (state_steps w kind table t rho)
  unfolding state_answer
  state_4 = exactly sheet_number 4 5 (state_steps w kind table t rho) _ tt

  -- the upper end of pressure is above the ceiling
  pub state_8 : sheet_number (state_answer w kind table t rho) ≡ 8 ↔ FailsAt 6 (state_steps w kind table t rho)
  unfolding state_answer
  state_8 = exactly sheet_number 8 6 (state_steps w kind table t rho) _ tt

  -- answered: every check passes
  pub state_0 : sheet_number (state_answer w kind table t rho) ≡ 0 ↔ AllPass (state_steps w kind table t rho)
  unfolding state_answer
  state_0 = accepted sheet_number 0 (state_steps w kind table t rho) _ tt refl

  -- the place is that of the first broken term
  pub state_place : sheet_number (state_answer w kind table t rho) ≡ 2 → sheet_place (state_answer w kind table t rho) ≡ first_broken kind table
  unfolding state_answer
  state_place e =
      let f = state_2.0 e in
      ap sheet_place (on_pass _ _ _ f.0 ∙ on_pass _ _ _ f.1.0 ∙ on_pass _ _ _ f.1.1.0 ∙ on_fail _ _ _ f.1.1.1)

-- ---- the density check
module _ (w kind : ℕ) (table : List ℕ) (t rho target tolerance : Float) where
  -- the width
  pub density_19 : number (density_answer w kind table t rho target tolerance) ≡ 19 ↔ FailsAt 0 (density_steps w kind table t rho target tolerance)
  unfolding density_answer
  density_19 = exactly number 19 0 (density_steps w kind table t rho target tolerance) _ tt

  -- in full: neither 32 nor 53 (document 02, d)
  pub density_width : number (density_answer w kind table t rho target tolerance) ≡ 19 ↔ ((w ≡ 32 → ⊥) × (w ≡ 53 → ⊥))
  density_width = Iff.trans density_19 (unsound_width w)

  -- the kind
  pub density_29 : number (density_answer w kind table t rho target tolerance) ≡ 29 ↔ FailsAt 1 (density_steps w kind table t rho target tolerance)
  unfolding density_answer
  density_29 = exactly number 29 1 (density_steps w kind table t rho target tolerance) _ tt

  -- in full: a width, and a kind that is neither 38 nor 58 (document 02, h)
  pub density_kind : number (density_answer w kind table t rho target tolerance) ≡ 29 ↔ ((sound_width w ≡ true) × ((kind ≡ 38 → ⊥) × (kind ≡ 58 → ⊥)))
  density_kind = Iff.trans density_29 (λ f. (f.0, (unsound_kind kind).0 f.1), λ p. (p.0, (unsound_kind kind).1 p.1))

  -- the table's length
  pub density_1 : number (density_answer w kind table t rho target tolerance) ≡ 1 ↔ FailsAt 2 (density_steps w kind table t rho target tolerance)
  unfolding density_answer
  density_1 = exactly number 1 2 (density_steps w kind table t rho target tolerance) _ tt

  -- a term breaks a rule
  pub density_2 : number (density_answer w kind table t rho target tolerance) ≡ 2 ↔ FailsAt 3 (density_steps w kind table t rho target tolerance)
  unfolding density_answer
  density_2 = exactly number 2 3 (density_steps w kind table t rho target tolerance) _ tt

  -- temperature
  pub density_3 : number (density_answer w kind table t rho target tolerance) ≡ 3 ↔ FailsAt 4 (density_steps w kind table t rho target tolerance)
  unfolding density_answer
  density_3 = exactly number 3 4 (density_steps w kind table t rho target tolerance) _ tt

  -- in full: from the kind's coldest, 273 or 252
  pub density_temperature : number (density_answer w kind table t rho target tolerance) ≡ 3 ↔ ((sound_width w ≡ true) × ((sound_kind kind ≡ true) × ((sound_table kind table ≡ true) × Outside (nat (coldest kind)) (nat 1273) t)))
  density_temperature = Iff.trans density_3 (after_table w kind table (nat (coldest kind)) (nat 1273) t)

  -- density
  pub density_4 : number (density_answer w kind table t rho target tolerance) ≡ 4 ↔ FailsAt 5 (density_steps w kind table t rho target tolerance)
  unfolding density_answer
  density_4 = exactly number 4 5 (density_steps w kind table t rho target tolerance) _ tt

  -- target pressure
  pub density_5 : number (density_answer w kind table t rho target tolerance) ≡ 5 ↔ FailsAt 6 (density_steps w kind table t rho target tolerance)
  unfolding density_answer
  density_5 = exactly number 5 6 (density_steps w kind table t rho target tolerance) _ tt

  -- tolerance
  pub density_6 : number (density_answer w kind table t rho target tolerance) ≡ 6 ↔ FailsAt 7 (density_steps w kind table t rho target tolerance)
  unfolding density_answer
  density_6 = exactly number 6 7 (density_steps w kind table t rho target tolerance) _ tt

  -- the upper end of pressure is above the ceiling
  pub density_8 : number (density_answer w kind table t rho target tolerance) ≡ 8 ↔ FailsAt 8 (density_steps w kind table t rho target tolerance)
  unfolding density_answer
  density_8 = exactly number 8 8 (density_steps w kind table t rho target tolerance) _ tt

  -- the pressure less the target does not pass
  pub density_9 : number (density_answer w kind table t rho target tolerance) ≡ 9 ↔ FailsAt 9 (density_steps w kind table t rho target tolerance)
  unfolding density_answer
  density_9 = exactly number 9 9 (density_steps w kind table t rho target tolerance) _ tt

  -- the stiffness does not pass
  pub density_11 : number (density_answer w kind table t rho target tolerance) ≡ 11 ↔ FailsAt 10 (density_steps w kind table t rho target tolerance)
  unfolding density_answer
  density_11 = exactly number 11 10 (density_steps w kind table t rho target tolerance) _ tt

  -- accepted: every check passes
  pub density_0 : number (density_answer w kind table t rho target tolerance) ≡ 0 ↔ AllPass (density_steps w kind table t rho target tolerance)
  unfolding density_answer
  density_0 = accepted number 0 (density_steps w kind table t rho target tolerance) _ tt refl

  -- the place is that of the first broken term
  pub density_place : number (density_answer w kind table t rho target tolerance) ≡ 2 → place (density_answer w kind table t rho target tolerance) ≡ first_broken kind table
  unfolding density_answer
  density_place e =
      let f = density_2.0 e in
      ap place (on_pass _ _ _ f.0 ∙ on_pass _ _ _ f.1.0 ∙ on_pass _ _ _ f.1.1.0 ∙ on_fail _ _ _ f.1.1.1)

-- ---- the pair check
module _ (w kind : ℕ) (table : List ℕ) (t liquid vapour pressure_tolerance gibbs_tolerance : Float) where
  -- the width
  pub pair-19 : number (pair_answer w kind table t liquid vapour pressure_tolerance gibbs_tolerance) ≡ 19 ↔ FailsAt 0 (pair_steps w kind table t liquid vapour pressure_tolerance gibbs_tolerance)
  unfolding pair_answer
  pair-19 = exactly number 19 0 (pair_steps w kind table t liquid vapour pressure_tolerance gibbs_tolerance) _ tt

  -- in full: neither 32 nor 53 (document 02, d)
  pub pair-width : number (pair_answer w kind table t liquid vapour pressure_tolerance gibbs_tolerance) ≡ 19 ↔ ((w ≡ 32 → ⊥) × (w ≡ 53 → ⊥))
  pair-width = Iff.trans pair-19 (unsound_width w)

  -- the kind
  pub pair-29 : number (pair_answer w kind table t liquid vapour pressure_tolerance gibbs_tolerance) ≡ 29 ↔ FailsAt 1 (pair_steps w kind table t liquid vapour pressure_tolerance gibbs_tolerance)
  unfolding pair_answer
  pair-29 = exactly number 29 1 (pair_steps w kind table t liquid vapour pressure_tolerance gibbs_tolerance) _ tt

  -- in full: a width, and a kind that is neither 38 nor 58 (document 02, h)
  pub pair-kind : number (pair_answer w kind table t liquid vapour pressure_tolerance gibbs_tolerance) ≡ 29 ↔ ((sound_width w ≡ true) × ((kind ≡ 38 → ⊥) × (kind ≡ 58 → ⊥)))
  pair-kind = Iff.trans pair-29 (λ f. (f.0, (unsound_kind kind).0 f.1), λ p. (p.0, (unsound_kind kind).1 p.1))

  -- the table's length
  pub pair-1 : number (pair_answer w kind table t liquid vapour pressure_tolerance gibbs_tolerance) ≡ 1 ↔ FailsAt 2 (pair_steps w kind table t liquid vapour pressure_tolerance gibbs_tolerance)
  unfolding pair_answer
  pair-1 = exactly number 1 2 (pair_steps w kind table t liquid vapour pressure_tolerance gibbs_tolerance) _ tt

  -- a term breaks a rule
  pub pair-2 : number (pair_answer w kind table t liquid vapour pressure_tolerance gibbs_tolerance) ≡ 2 ↔ FailsAt 3 (pair_steps w kind table t liquid vapour pressure_tolerance gibbs_tolerance)
  unfolding pair_answer
  pair-2 = exactly number 2 3 (pair_steps w kind table t liquid vapour pressure_tolerance gibbs_tolerance) _ tt

  -- temperature
  pub pair-3 : number (pair_answer w kind table t liquid vapour pressure_tolerance gibbs_tolerance) ≡ 3 ↔ FailsAt 4 (pair_steps w kind table t liquid vapour pressure_tolerance gibbs_tolerance)
  unfolding pair_answer
  pair-3 = exactly number 3 4 (pair_steps w kind table t liquid vapour pressure_tolerance gibbs_tolerance) _ tt

  -- in full: from the fraction 27316/100 (document 02, b)
  pub pair-temperature : number (pair_answer w kind table t liquid vapour pressure_tolerance gibbs_tolerance) ≡ 3
      ↔ ((sound_width w ≡ true) × ((sound_kind kind ≡ true) × ((sound_table kind table ≡ true) × Outside (parts false 27316 100) (nat 1273) t)))
  pair-temperature = Iff.trans pair-3 (after_table w kind table (parts false 27316 100) (nat 1273) t)

  -- a density
  pub pair-4 : number (pair_answer w kind table t liquid vapour pressure_tolerance gibbs_tolerance) ≡ 4 ↔ FailsAt 5 (pair_steps w kind table t liquid vapour pressure_tolerance gibbs_tolerance)
  unfolding pair_answer
  pair-4 = exactly number 4 5 (pair_steps w kind table t liquid vapour pressure_tolerance gibbs_tolerance) _ tt

  -- a tolerance
  pub pair-6 : number (pair_answer w kind table t liquid vapour pressure_tolerance gibbs_tolerance) ≡ 6 ↔ FailsAt 6 (pair_steps w kind table t liquid vapour pressure_tolerance gibbs_tolerance)
  unfolding pair_answer
  pair-6 = exactly number 6 6 (pair_steps w kind table t liquid vapour pressure_tolerance gibbs_tolerance) _ tt

  -- a density on the wrong side of 322
  pub pair-7 : number (pair_answer w kind table t liquid vapour pressure_tolerance gibbs_tolerance) ≡ 7 ↔ FailsAt 7 (pair_steps w kind table t liquid vapour pressure_tolerance gibbs_tolerance)
  unfolding pair_answer
  pair-7 = exactly number 7 7 (pair_steps w kind table t liquid vapour pressure_tolerance gibbs_tolerance) _ tt

  -- an upper end of pressure is above the ceiling
  pub pair-8 : number (pair_answer w kind table t liquid vapour pressure_tolerance gibbs_tolerance) ≡ 8 ↔ FailsAt 8 (pair_steps w kind table t liquid vapour pressure_tolerance gibbs_tolerance)
  unfolding pair_answer
  pair-8 = exactly number 8 8 (pair_steps w kind table t liquid vapour pressure_tolerance gibbs_tolerance) _ tt

  -- the vapour's pressure does not pass
  pub pair-21 : number (pair_answer w kind table t liquid vapour pressure_tolerance gibbs_tolerance) ≡ 21 ↔ FailsAt 9 (pair_steps w kind table t liquid vapour pressure_tolerance gibbs_tolerance)
  unfolding pair_answer
  pair-21 = exactly number 21 9 (pair_steps w kind table t liquid vapour pressure_tolerance gibbs_tolerance) _ tt

  -- in full: a pair that none of 19, 29 and 1 to 8 applies to, and a lower end of the vapour's pressure that is not above zero (document 02, f)
  pub pair-vapour_pressure : number (pair_answer w kind table t liquid vapour pressure_tolerance gibbs_tolerance) ≡ 21
      ↔ (SoundPair w kind table t liquid vapour pressure_tolerance gibbs_tolerance × (value (pressure w kind table (exact_of t) (exact_of vapour)).lo ≼ nat 0))
  pair-vapour_pressure =
      let nine = sound-pair w kind table t liquid vapour pressure_tolerance gibbs_tolerance in
      let tenth = fails-behind 9 (pair_steps w kind table t liquid vapour pressure_tolerance gibbs_tolerance) in
      let low = pushes-not (pressure w kind table (exact_of t) (exact_of vapour)) in (
        λ e. let f = tenth.0 (pair-21.0 e) in (nine.0 f.0, low.0 f.1),
        λ s. pair-21.1 (tenth.1 (nine.1 s.0, low.1 s.1)),
      )

  -- the pressure gap does not pass
  pub pair-9 : number (pair_answer w kind table t liquid vapour pressure_tolerance gibbs_tolerance) ≡ 9 ↔ FailsAt 10 (pair_steps w kind table t liquid vapour pressure_tolerance gibbs_tolerance)
  unfolding pair_answer
  pair-9 = exactly number 9 10 (pair_steps w kind table t liquid vapour pressure_tolerance gibbs_tolerance) _ tt

  -- the Gibbs gap does not pass
  pub pair-10 : number (pair_answer w kind table t liquid vapour pressure_tolerance gibbs_tolerance) ≡ 10 ↔ FailsAt 11 (pair_steps w kind table t liquid vapour pressure_tolerance gibbs_tolerance)
  unfolding pair_answer
  pair-10 = exactly number 10 11 (pair_steps w kind table t liquid vapour pressure_tolerance gibbs_tolerance) _ tt

  -- the place is that of the first broken term
  pub pair_place : number (pair_answer w kind table t liquid vapour pressure_tolerance gibbs_tolerance) ≡ 2 → place (pair_answer w kind table t liquid vapour pressure_tolerance gibbs_tolerance) ≡ first_broken kind table
  unfolding pair_answer
  pair_place e =
      let f = pair-2.0 e in
      ap place (on_pass _ _ _ f.0 ∙ on_pass _ _ _ f.1.0 ∙ on_pass _ _ _ f.1.1.0 ∙ on_fail _ _ _ f.1.1.1)

  -- accepted: every check passes
  pub pair-0 : number (pair_answer w kind table t liquid vapour pressure_tolerance gibbs_tolerance) ≡ 0 ↔ AllPass (pair_steps w kind table t liquid vapour pressure_tolerance gibbs_tolerance)
  unfolding pair_answer
  pair-0 = accepted number 0 (pair_steps w kind table t liquid vapour pressure_tolerance gibbs_tolerance) _ tt refl

  -- a stiffness does not pass, the liquid's or, where that passes, the vapour's
  pub pair-11 : number (pair_answer w kind table t liquid vapour pressure_tolerance gibbs_tolerance) ≡ 11
      ↔ (FailsAt 12 (pair_steps w kind table t liquid vapour pressure_tolerance gibbs_tolerance) ⊎ FailsAt 13 (pair_steps w kind table t liquid vapour pressure_tolerance gibbs_tolerance))
  unfolding pair_answer
  pair-11 = (
    either number 11 12 (pair_steps w kind table t liquid vapour pressure_tolerance gibbs_tolerance) _ tt,
    ⊎_elim
        (λ f. ap number (fails-at 12 (pair_steps w kind table t liquid vapour pressure_tolerance gibbs_tolerance) _ f))
        (λ f. ap number (fails-at 13 (pair_steps w kind table t liquid vapour pressure_tolerance gibbs_tolerance) _ f)),
  )

  ten_pass : AllPass (take 10 (pair_steps w kind table t liquid vapour pressure_tolerance gibbs_tolerance)) → nat 0 ≺ value (pressure w kind table (exact_of t) (exact_of vapour)).lo
  ten_pass p = (pushes _).0 p.1.1.1.1.1.1.1.1.1.0

  -- the numbers behind 21: with 9, 10, 11 and 0 it did not apply
  pub pair-behind_21 : {n : ℕ} → number (pair_answer w kind table t liquid vapour pressure_tolerance gibbs_tolerance) ≡ n
      → ((n ≡ 9) ⊎ (n ≡ 10)) ⊎ ((n ≡ 11) ⊎ (n ≡ 0)) → nat 0 ≺ value (pressure w kind table (exact_of t) (exact_of vapour)).lo
  pair-behind_21 e =
      let steps = pair_steps w kind table t liquid vapour pressure_tolerance gibbs_tolerance in
      ⊎_elim
      (⊎_elim (λ p. ten_pass (passed-before 10 10 steps (lit≤ tt) (pair-9.0 (e ∙ p)))) (λ p. ten_pass (passed-before 10 11 steps (lit≤ tt) (pair-10.0 (e ∙ p)))))
      (⊎_elim
      (λ p. ten_pass (⊎_elim (passed-before 10 12 steps (lit≤ tt)) (passed-before 10 13 steps (lit≤ tt)) (pair-11.0 (e ∙ p))))
      (λ p. ten_pass ((all_behind 10 steps).0 (pair-0.0 (e ∙ p))).0))
