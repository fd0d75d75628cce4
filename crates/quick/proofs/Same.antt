-- The quick engine's promises: the plain engine's answer but for 20, and exactly when 20; the slice afterwards, by the number; both settled;
-- and both halves of demand 3, the second with room for the table's terms. Assumes nothing.
use Rattle.std.specs.Prelude.{Ok, Err}
use Prim.Native.Nat.{ℕ, zero, suc, ◌≤◌, ◌<◌}
use mathlib.Core.Path.{◌≡◌, refl, sym, ap, subst, ◌∙◌}
use mathlib.Core.Bool.{Bool, true, false, cond}
use mathlib.Core.Logic.{◌⊎◌, inl, inr, ⊎_elim, ◌↔◌}
use mathlib.Core.List.{List, ◌++◌}
use native.Mathlib.Omega.{arith}
use lib.ListN.{length, drop}
use lib.Dec.{eqb}
use lib.Ieee.{Float}
use Rattle.kind.specs.Kind.{sound_kind}
use Rattle.doubles.specs.Double.{exact_of}
use Rattle.term.specs.declared.Term.{Term}
use Rattle.term.specs.Packed.{count_terms, terms_from, terms}
use Rattle.term.specs.Sound.{sound_length, first_broken}
use Rattle.verdict.specs.declared.Refusal.{Refusal}
use Rattle.verdict.specs.declared.Refusal.TheVariants.{Width, Kind, TableLength, BrokenTerm, Temperature, Density, Target, Tolerance, Sides, Ceiling}
use Rattle.verdict.specs.declared.Rejection.TheVariants.{Refused, VapourPressure, PressureGap, GibbsGap, Stiffness}
use Rattle.verdict.specs.declared.State.{State}
use Rattle.verdict.specs.Reading.{SheetAnswer, Answer, number, sheet_number, refusal_number}
use Rattle.verdict.specs.Rules.{sound_width, state_answer, density_answer, pair_answer}
use Rattle.verdict.specs.Balance.{SoundPair, Balanced, BalancedBeyond, SoundDensity, OnTarget, OnTargetBeyond}
use Rattle.verdict.proofs.Demand1.{state_19, state_29, state_1, state_2, density_19, density_29, density_1, density_2, pair-19, pair-29, pair-1, pair-2}
use Rattle.verdict.proofs.Demand3.{accepted-pair, good_pair, accepted-density, good_density}
use Rattle.verdict.proofs.Tables.{table_parts, sound}
use Rattle.quick.specs.declared.Question.{Question}
use Rattle.quick.specs.declared.Question.TheVariants as question
use Rattle.quick.specs.declared.Reply.{Reply}
use Rattle.quick.specs.Reading.{reply_number}
use Rattle.quick.specs.Lent.{Sound, sound_input, sound_count, laid, laid_on, plain_reply, reply_of, Stated}
use Rattle.quick.proofs.Filled.{over-or_less}
use Rattle.quick.proofs.Laid.{sound-input, sound-parts, count_sound, count_none, sound-of, laid-all, laid_none, reply_short, reply_plain}

-- ---- 20 is the quick engine's alone

refusal_not : (why : Refusal) → refusal_number why ≡ 20 → ⊥
refusal_not Width e = omega (arith, e)
refusal_not Kind e = omega (arith, e)
refusal_not TableLength e = omega (arith, e)
refusal_not (BrokenTerm place) e = omega (arith, e)
refusal_not Temperature e = omega (arith, e)
refusal_not Density e = omega (arith, e)
refusal_not Target e = omega (arith, e)
refusal_not Tolerance e = omega (arith, e)
refusal_not Sides e = omega (arith, e)
refusal_not Ceiling e = omega (arith, e)

sheet_not : (answer : SheetAnswer) → sheet_number answer ≡ 20 → ⊥
sheet_not (Ok sheet) e = omega (arith, e)
sheet_not (Err why) e = refusal_not why e

check_not : (answer : Answer) → number answer ≡ 20 → ⊥
check_not (Ok ends) e = omega (arith, e)
check_not (Err (Refused why)) e = refusal_not why e
check_not (Err (VapourPressure ends)) e = omega (arith, e)
check_not (Err (PressureGap ends)) e = omega (arith, e)
check_not (Err (GibbsGap ends)) e = omega (arith, e)
check_not (Err (Stiffness ends)) e = omega (arith, e)

plain_not : (w kind : ℕ) (table : List ℕ) (asked : Question) → reply_number (plain_reply w kind table asked) ≡ 20 → ⊥
unfolding plain_reply
plain_not w kind table (question.Sheet state) e = sheet_not (state_answer w kind table state.temperature state.density) e
plain_not w kind table (question.Density state target tolerance) e = check_not (density_answer w kind table state.temperature state.density target tolerance) e
plain_not w kind table (question.Pair state vapour tolerances) e =
    check_not (pair_answer w kind table state.temperature state.density vapour tolerances.pressure tolerances.gibbs) e

module _ (w kind : ℕ) (table : List ℕ) where
  -- the count of a table that passes 19, 29, 1 and 2
  count_is : Sound w kind table → sound_count w kind table ≡ count_terms kind table
  count_is s = sym (count_sound w kind table s)

  module _ (room : ℕ) (asked : Question) where
    -- exactly when 20: nothing before it is refused, and the slice holds fewer terms than the table
    pub twenty : reply_number (reply_of w kind table room asked) ≡ 20 ↔ (Sound w kind table × (room < count_terms kind table))
    twenty = (
      λ e. ⊎_elim
          (λ enough. absurd (plain_not w kind table asked (ap reply_number (reply_plain w kind table room asked enough) ∙ e)))
          (λ short. let s = sound-of w kind table (omega arith) in (s.0, omega (arith, s.1, short)))
          (over-or_less (sound_count w kind table) room),
      λ p. sym (ap reply_number (reply_short w kind table room asked (omega (arith, count_is p.0, p.1)))),
    )

    -- the same answers, 20 aside
    pub same-but_20 : (reply_number (reply_of w kind table room asked) ≡ 20 → ⊥) → reply_of w kind table room asked ≡ plain_reply w kind table asked
    same-but_20 other =
        ⊎_elim (λ enough. sym (reply_plain w kind table room asked enough))
        (λ short. absurd (other (sym (ap reply_number (reply_short w kind table room asked short)))))
        (over-or_less (sound_count w kind table) room)

    -- with as many places as the table has terms 20 does not come
    pub same-with_room : count_terms kind table ≤ room → reply_of w kind table room asked ≡ plain_reply w kind table asked
    same-with_room enough = same-but_20 (λ e. let p = twenty.0 e in omega (arith, p.1, enough))

  -- ---- the slice
  -- all of the table's terms, where nothing up to 20 is refused
  pub slice_held : (before : List Term) → Sound w kind table → count_terms kind table ≤ length before
      → laid_on w kind table before ≡ terms kind table ++ drop (count_terms kind table) before
  unfolding terms
  slice_held before s enough =
      let n : laid w kind table (length before) ≡ count_terms kind table = sym (laid-all w kind table (length before) (omega (arith, count_is s, enough))) ∙ count_is s in
      ap (λ (m : ℕ). terms_from kind table 0 m ++ drop m before) n

  unlaid : (before : List Term) → laid w kind table (length before) ≡ 0 → laid_on w kind table before ≡ before
  unfolding terms_from
  unlaid before z = ap (λ (m : ℕ). terms_from kind table 0 m ++ drop m before) z

  -- nothing, on 20
  pub slice_kept_20 : (before : List Term) → length before < count_terms kind table → laid_on w kind table before ≡ before
  slice_kept_20 before few =
      unlaid before
      (⊎_elim
      (λ enough. sym (laid-all w kind table (length before) enough) ∙ none (sound_count w kind table) refl enough)
      (λ short. sym (laid_none w kind table (length before) short))
      (over-or_less (sound_count w kind table) (length before)))
    where
      none : (n : ℕ) → sound_count w kind table ≡ n → n ≤ length before → sound_count w kind table ≡ 0
      none zero e l = e
      none (suc n) e l = let s = sound-of w kind table (omega arith) in absurd (omega (arith, e, l, few, s.1))

  -- nothing, where 19, 29, 1 or 2 refuses
  pub slice_kept_early : (before : List Term) → sound_input w kind table ≡ false → laid_on w kind table before ≡ before
  slice_kept_early before e =
      let z = count_none w kind table e in
      unlaid before (sym (laid-all w kind table (length before) (omega (arith, z))) ∙ sym z)

-- ---- by the number: 19, 29, 1 and 2 are the answers where one of these checks fails

clash : {x : Bool} → x ≡ true → x ≡ false → ⊥
clash p q = let z : ◌≡◌ {A = ℕ} 1 0 = ap (λ (b : Bool). cond b 1 0) (sym p ∙ q) in omega (arith, z)

abbrev pub Early : ℕ → Type 0
Early n = (n ≡ 19) ⊎ ((n ≡ 29) ⊎ ((n ≡ 1) ⊎ (n ≡ 2)))

module _ (w kind : ℕ) (table : List ℕ) where
  fails : {n : ℕ} → (n ≡ 19 → sound_width w ≡ false) → (n ≡ 29 → sound_kind kind ≡ false) → (n ≡ 1 → sound_length kind (length table) ≡ false) → (n ≡ 2 → eqb (first_broken kind table) 0 ≡ false)
      → Early n → sound_input w kind table ≡ false
  fails {n} a b c d e = go (sound_input w kind table) refl
    where
      go : (b : Bool) → sound_input w kind table ≡ b → b ≡ false
      go false _ = refl
      go true s =
          let p = sound-parts w kind table s in
          let rows = table_parts kind table p.table_sound in
          absurd (⊎_elim (λ h. clash p.width_sound (a h)) (⊎_elim (λ h. clash p.kind_sound (b h)) (⊎_elim (λ h. clash rows.0 (c h)) (λ h. clash rows.1 (d h)))) e)

  pub early : (asked : Question) → Early (reply_number (plain_reply w kind table asked)) → sound_input w kind table ≡ false
  unfolding plain_reply
  early (question.Sheet state) =
      let t = state.temperature in
      let rho = state.density in
      fails (λ e. (state_19 w kind table t rho).0 e) (λ e. ((state_29 w kind table t rho).0 e).1) (λ e. ((state_1 w kind table t rho).0 e).1.1) (λ e. ((state_2 w kind table t rho).0 e).1.1.1)
  early (question.Density state target tolerance) =
      let t = state.temperature in
      let rho = state.density in
      fails (λ e. (density_19 w kind table t rho target tolerance).0 e) (λ e. ((density_29 w kind table t rho target tolerance).0 e).1) (λ e. ((density_1 w kind table t rho target tolerance).0 e).1.1)
      (λ e. ((density_2 w kind table t rho target tolerance).0 e).1.1.1)
  early (question.Pair state vapour tolerances) =
      let t = state.temperature in
      let l = state.density in
      fails (λ e. (pair-19 w kind table t l vapour tolerances.pressure tolerances.gibbs).0 e) (λ e. ((pair-29 w kind table t l vapour tolerances.pressure tolerances.gibbs).0 e).1)
      (λ e. ((pair-1 w kind table t l vapour tolerances.pressure tolerances.gibbs).0 e).1.1) (λ e. ((pair-2 w kind table t l vapour tolerances.pressure tolerances.gibbs).0 e).1.1.1)

  -- which of the four fails first
  first : sound_input w kind table ≡ false
      → (sound_width w ≡ false) ⊎ ((((sound_width w ≡ true) × (sound_kind kind ≡ false))) ⊎ (((sound_width w ≡ true) × ((sound_kind kind ≡ true) × (sound_length kind (length table) ≡ false)))
      ⊎ ((sound_width w ≡ true) × ((sound_kind kind ≡ true) × ((sound_length kind (length table) ≡ true) × (eqb (first_broken kind table) 0 ≡ false))))))
  first h = go (sound_width w) (sound_kind kind) (sound_length kind (length table)) (eqb (first_broken kind table) 0) refl refl refl refl
    where
      go : (a b c d : Bool) → sound_width w ≡ a → sound_kind kind ≡ b → sound_length kind (length table) ≡ c → eqb (first_broken kind table) 0 ≡ d
          → (sound_width w ≡ false) ⊎ ((((sound_width w ≡ true) × (sound_kind kind ≡ false))) ⊎ (((sound_width w ≡ true) × ((sound_kind kind ≡ true) × (sound_length kind (length table) ≡ false)))
          ⊎ ((sound_width w ≡ true) × ((sound_kind kind ≡ true) × ((sound_length kind (length table) ≡ true) × (eqb (first_broken kind table) 0 ≡ false))))))
      go false b c d p q r s = inl p
      go true false c d p q r s = inr (inl (p, q))
      go true true false d p q r s = inr (inr (inl (p, (q, r))))
      go true true true false p q r s = inr (inr (inr (p, (q, (r, s)))))
      go true true true true p q r s = absurd (clash (sound-input w kind table (record { width_sound = p; kind_sound = q; table_sound = sound kind table r s })) h)

  pub early-of : (asked : Question) → sound_input w kind table ≡ false → Early (reply_number (plain_reply w kind table asked))
  unfolding plain_reply
  early-of (question.Sheet state) h =
      let t = state.temperature in
      let rho = state.density in
      ⊎_elim (λ f. inl ((state_19 w kind table t rho).1 f)) (⊎_elim (λ f. inr (inl ((state_29 w kind table t rho).1 f))) (⊎_elim (λ f. inr (inr (inl ((state_1 w kind table t rho).1 f)))) (λ f. inr (inr (inr ((state_2 w kind table t rho).1 f)))))) (first h)
  early-of (question.Density state target tolerance) h =
      let t = state.temperature in
      let rho = state.density in
      ⊎_elim (λ f. inl ((density_19 w kind table t rho target tolerance).1 f))
      (⊎_elim (λ f. inr (inl ((density_29 w kind table t rho target tolerance).1 f)))
      (⊎_elim (λ f. inr (inr (inl ((density_1 w kind table t rho target tolerance).1 f)))) (λ f. inr (inr (inr ((density_2 w kind table t rho target tolerance).1 f)))))) (first h)
  early-of (question.Pair state vapour tolerances) h =
      let t = state.temperature in
      let l = state.density in
      ⊎_elim (λ f. inl ((pair-19 w kind table t l vapour tolerances.pressure tolerances.gibbs).1 f))
      (⊎_elim (λ f. inr (inl ((pair-29 w kind table t l vapour tolerances.pressure tolerances.gibbs).1 f)))
      (⊎_elim (λ f. inr (inr (inl ((pair-1 w kind table t l vapour tolerances.pressure tolerances.gibbs).1 f)))) (λ f. inr (inr (inr ((pair-2 w kind table t l vapour tolerances.pressure tolerances.gibbs).1 f)))))) (first h)

-- ---- what a call states

module _ (w kind : ℕ) (table : List ℕ) (before : List Term) (asked : Question) where
  -- any two calls that state the same inputs agree, in reply and slice
  pub lent-settled : (a b : Reply) (x y : List Term) → Stated w kind table before x asked a → Stated w kind table before y asked b → (a ≡ b) × (x ≡ y)
  lent-settled a b x y p q = (p.replied ∙ sym q.replied, p.slice ∙ sym q.slice)

  module _ (reply : Reply) (after : List Term) (s : Stated w kind table before after asked reply) where
    pub short-exactly : reply_number reply ≡ 20 ↔ (Sound w kind table × (length before < count_terms kind table))
    short-exactly = (λ e. (twenty w kind table (length before) asked).0 (ap reply_number (sym s.replied) ∙ e), λ p. ap reply_number s.replied ∙ (twenty w kind table (length before) asked).1 p)

    -- the plain engine's answer
    pub plain_answer : (reply_number reply ≡ 20 → ⊥) → reply ≡ plain_reply w kind table asked
    plain_answer other = s.replied ∙ same-but_20 w kind table (length before) asked (λ e. other (ap reply_number s.replied ∙ e))

    -- on 19, 29, 1, 2 and 20 the slice stays
    pub stays : (Early (reply_number reply)) ⊎ (reply_number reply ≡ 20) → after ≡ before
    stays (inr e) = s.slice ∙ slice_kept_20 w kind table before (short-exactly.0 e).1
    stays (inl e) =
        s.slice
        ∙ slice_kept_early w kind table before (early w kind table asked (subst Early (ap reply_number (plain_answer (λ z. not_both e z))) e))
      where
        not_both : Early (reply_number reply) → reply_number reply ≡ 20 → ⊥
        not_both h z = ⊎_elim (λ a. omega (arith, a, z)) (⊎_elim (λ a. omega (arith, a, z)) (⊎_elim (λ a. omega (arith, a, z)) (λ a. omega (arith, a, z)))) h

-- on all other numbers it holds the table's terms in order, the places behind them as they were
module _ (w kind : ℕ) (table : List ℕ) (before : List Term) (asked : Question) (reply : Reply) (after : List Term) (s : Stated w kind table before after asked reply) where
  pub holds-terms : (Early (reply_number reply) → ⊥) → (reply_number reply ≡ 20 → ⊥) → after ≡ terms kind table ++ drop (count_terms kind table) before
  holds-terms late other = go (sound_input w kind table) refl
    where
      plain : reply ≡ plain_reply w kind table asked
      plain = plain_answer w kind table before asked reply after s other

      go : (b : Bool) → sound_input w kind table ≡ b → after ≡ terms kind table ++ drop (count_terms kind table) before
      go false e = absurd (late (subst Early (ap reply_number (sym plain)) (early-of w kind table asked e)))
      go true e =
          let parts = sound-parts w kind table e in
          s.slice
          ∙ slice_held w kind table before parts
          (⊎_elim (λ enough. enough) (λ few. absurd (other ((short-exactly w kind table before asked reply after s).1 (parts, few)))) (over-or_less (count_terms kind table) (length before)))

-- ---- demand 3

module _ (w kind : ℕ) (table : List ℕ) (before after : List Term) (reply : Reply) (state : State) where
  module _ (vapour pressure_tolerance gibbs_tolerance : Float) (s : Stated w kind table before after (question.Pair state vapour (record { pressure = pressure_tolerance; gibbs = gibbs_tolerance })) reply) where
    -- an accepted pair is balanced, at every level
    pub accepted-pair_lent : reply_number reply ≡ 0 → (N : ℕ) → 256 ≤ N
        → Balanced N kind table (exact_of state.temperature) (exact_of state.density) (exact_of vapour) (exact_of pressure_tolerance) (exact_of gibbs_tolerance)
    unfolding plain_reply
    accepted-pair_lent z =
        accepted-pair w kind table state.temperature state.density vapour pressure_tolerance gibbs_tolerance
        (ap reply_number (sym (plain_answer w kind table before (question.Pair state vapour (record { pressure = pressure_tolerance; gibbs = gibbs_tolerance })) reply after s (λ e. omega (arith, e, z)))) ∙ z)

    -- and a pair that is good by more than the width of its brackets is accepted, if the slice holds as many terms as the table
    pub good_pair_lent : count_terms kind table ≤ length before → SoundPair w kind table state.temperature state.density vapour pressure_tolerance gibbs_tolerance → (N : ℕ) → 256 ≤ N
        → BalancedBeyond w N kind table (exact_of state.temperature) (exact_of state.density) (exact_of vapour) (exact_of pressure_tolerance) (exact_of gibbs_tolerance)
        → reply_number reply ≡ 0
    unfolding plain_reply
    good_pair_lent enough sound N level good =
        ap reply_number (s.replied ∙ same-with_room w kind table (length before) (question.Pair state vapour (record { pressure = pressure_tolerance; gibbs = gibbs_tolerance })) enough)
        ∙ good_pair w kind table state.temperature state.density vapour pressure_tolerance gibbs_tolerance sound N level good

  module _ (target tolerance : Float) (s : Stated w kind table before after (question.Density state target tolerance) reply) where
    pub accepted-density-lent : reply_number reply ≡ 0 → (N : ℕ) → 256 ≤ N
        → OnTarget N kind table (exact_of state.temperature) (exact_of state.density) (exact_of target) (exact_of tolerance)
    unfolding plain_reply
    accepted-density-lent z =
        accepted-density w kind table state.temperature state.density target tolerance
        (ap reply_number (sym (plain_answer w kind table before (question.Density state target tolerance) reply after s (λ e. omega (arith, e, z)))) ∙ z)

    pub good_density_lent : count_terms kind table ≤ length before → SoundDensity w kind table state.temperature state.density target tolerance → (N : ℕ) → 256 ≤ N
        → OnTargetBeyond w N kind table (exact_of state.temperature) (exact_of state.density) (exact_of target) (exact_of tolerance) → reply_number reply ≡ 0
    unfolding plain_reply
    good_density_lent enough sound N level good =
        ap reply_number (s.replied ∙ same-with_room w kind table (length before) (question.Density state target tolerance) enough)
        ∙ good_density w kind table state.temperature state.density target tolerance sound N level good
