-- The rule's place of the first broken term is the place of the first broken term, and is 0 exactly if there is none. Assumes nothing.
use Prim.Native.Nat.{ℕ, zero, suc, ◌+◌, ◌≤◌, ◌<◌}
use mathlib.Core.Path.{◌≡◌, refl, ap, subst, ◌∙◌}
use mathlib.Core.List.{List}
use mathlib.Core.Bool.{Bool, true, false}
use mathlib.Core.Logic.{◌⊎◌, inl, inr, ⊎_elim}
use native.Mathlib.Omega.{arith}
use native.Mathlib.Nat.{sub-zero, not-suc-le-zero}
use native.Mathlib.Numerals.{add-one}
use borrow.Author.Count.{below_more}
use Rattle.term.specs.First.{SoundBelow, First}
use Rattle.term.specs.Packed.{count_terms}
use Rattle.term.specs.Sound.{sound_at, first_broken}
use Rattle.term.proofs.Places.{broken_between, broken_none, broken_here, broken_later}

module _ (kind : ℕ) (table : List ℕ) where
  -- sound terms are passed over
  skipped : (n k : ℕ) → k ≤ n → SoundBelow kind table k → broken_between kind table 0 n ≡ broken_between kind table k n
  skipped n zero h sound = refl
  skipped n (suc k) h sound =
      skipped n k (omega arith) (λ j l. sound j (omega arith))
      ∙ (broken_later kind table k n h (sound k (omega arith)) ∙ ap (λ (m : ℕ). broken_between kind table m n) (add-one k))

  whole : first_broken kind table ≡ broken_between kind table 0 (count_terms kind table)
  unfolding first_broken
  whole = rw (sub-zero (count_terms kind table))

  pub sound-place : SoundBelow kind table (count_terms kind table) → first_broken kind table ≡ 0
  sound-place sound =
      let n : ℕ = count_terms kind table in
      whole ∙ (skipped n n (omega arith) sound ∙ broken_none kind table n n (omega arith))

  pub first_place : (k : ℕ) → First kind table k → first_broken kind table ≡ k + 1
  first_place k first =
      let n : ℕ = count_terms kind table in
      whole ∙ (skipped n k (omega arith) first.passed ∙ broken_here kind table k n first.within first.broken)

  -- the first broken term among the first n
  abbrev Found : ℕ → Type 0
  Found n = (k : ℕ) × (k < n) × (sound_at kind table k ≡ false) × SoundBelow kind table k

  next : (n : ℕ) → SoundBelow kind table n → (b : Bool) → sound_at kind table n ≡ b → SoundBelow kind table (suc n) ⊎ Found (suc n)
  next n sound true e = inl (rw add-one at (below_more (λ k. sound_at kind table k ≡ true) n sound e))
  next n sound false e = inr (n, omega arith, e, sound)

  look : (n : ℕ) → SoundBelow kind table n ⊎ Found n
  look zero = inl (λ k l. absurd (not-suc-le-zero l))
  look (suc n) = ⊎_elim (λ sound. next n sound (sound_at kind table n) refl) (λ f. inr (f.0, omega arith, f.2, f.3)) (look n)

  found_first : (f : Found (count_terms kind table)) → First kind table f.0
  found_first f = record { within = f.1; broken = f.2; passed = f.3 }

  pub place_sound : first_broken kind table ≡ 0 → SoundBelow kind table (count_terms kind table)
  place_sound h = ⊎_elim (λ sound. sound) (λ f. absurd (omega (arith, first_place f.0 (found_first f)))) (look (count_terms kind table))

  pub place_first : (k : ℕ) → first_broken kind table ≡ k + 1 → First kind table k
  place_first k h =
      ⊎_elim
      (λ sound. absurd (omega (arith, sound-place sound)))
      (λ f. subst (First kind table) (omega (arith, first_place f.0 (found_first f))) (found_first f))
      (look (count_terms kind table))
